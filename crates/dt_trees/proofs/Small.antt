-- Numbers stay small in the listed ways.
--   e exponents · g group · c limit · n bound · m i numbers · d depth · k p q types · ts letters · w way
use Rattle.std.proofs.Common.{◌≡◌, ℕ, zero, suc, ◌+◌, ◌-◌, ◌^◌, ◌<◌, ◌≤◌, Bool, true, false, ◌&&◌, nat_le, ℤ, pos, List, [], ◌∷◌, ◌++◌, map, inl, inr, refl, sym, ap, subst, arith, pow-suc, pow_mono, if◌then◌else◌}
use Rattle.std.proofs.lemmas.Bool.{cases_order}
use Rattle.std.specs.Prelude.{All}
use Rattle.std.proofs.lemmas.List.Elements.{All-nil, All-cons, All-append, All-head, All-tail}
use Rattle.dt_letters.specs.declared.side.Side.TheVariants as side
use Rattle.dt_letters.specs.Letters.{Letter, leaf, node, Group, leaves, nodes, member, IsBelow}
use Rattle.dt_letters.specs.Meeting.{same_group}
use Rattle.dt_letters.specs.Allowed.{Exponents}
use Rattle.dt_letters.specs.Least.{greatest_in, greatest}
use Rattle.dt_letters.specs.Growth.{raised, AreBelow, most_steps}
use Rattle.dt_letters.specs.Listing.{Grew, upto, again, anew, has_room, places, each, is_zero, may_join, joined, grown, IsIn}
use Rattle.dt_letters.proofs.Once.{in-upto-range}

pub below-more : (n m : ℕ) (t : Letter) → n ≤ m → IsBelow n t → IsBelow m t
below-more n m (leaf s k i) h p = omega (arith, h, p)
below-more n m (node l r k i) h p =
    (below-more n m l h p.0, below-more n m r h p.1, omega (arith, h, p.2))

pub all_below-more : (n m : ℕ) (ts : List Letter) → n ≤ m → AreBelow n ts → AreBelow m ts
all_below-more n m [] h p = tt
all_below-more n m (t ∷ ts) h p = (below-more n m t h p.0, all_below-more n m ts h p.1)

raise_once : (b : Bool) (n i : ℕ) → (if b && nat_le n i then suc i else i) ≤ suc i
raise_once true n i = grind arith
raise_once false n i = omega arith

below-raised : (g : Group) (j n : ℕ) (t : Letter) → IsBelow n t → IsBelow (suc n) (raised g j t)
below-raised g j n (leaf s k i) p =
    let q = raise_once (same_group g (leaves s k)) j i in omega (arith, p, q)
below-raised g j n (node l r k i) p =
    let q = raise_once (same_group g (nodes l r k)) j i in
    (below-raised g j n l p.0, below-raised g j n r p.1, omega (arith, p.2, q))

all_below-raised : (g : Group) (j n : ℕ) (ts : List Letter) → AreBelow n ts
    → AreBelow (suc n) (map (raised g j) ts)
all_below-raised g j n [] p = tt
all_below-raised g j n (t ∷ ts) p = (below-raised g j n t p.0, all_below-raised g j n ts p.1)

own_number-below : (b : Bool) (i n : ℕ) → 1 ≤ n → i < n → (if b then i else 0) < n
own_number-below true i n one h = h
own_number-below false i n one h = omega (arith, one)

pub greatest_in-below : (g : Group) (n : ℕ) (t : Letter) → 1 ≤ n → IsBelow n t → greatest_in g t < n
greatest_in-below g n (leaf s k i) one p = own_number-below (same_group g (leaves s k)) i n one p
greatest_in-below g n (node l r k i) one p =
    let a = own_number-below (same_group g (nodes l r k)) i n one p.2 in
    let b = greatest_in-below g n l one p.0 in
    let c = greatest_in-below g n r one p.1 in
    omega (arith, a, b, c)

pub greatest-below : (g : Group) (n : ℕ) (ts : List Letter) → 1 ≤ n → AreBelow n ts → greatest g ts < n
greatest-below g n [] one p = omega (arith, one)
greatest-below g n (t ∷ ts) one p =
    let a = greatest_in-below g n t one p.0 in
    let b = greatest-below g n ts one p.1 in
    omega (arith, a, b)

-- the halves of the members of a group
abbrev AreHalves : ℕ → Group → Type 0
AreHalves n (leaves s k) = Unit {0}
AreHalves n (nodes l r k) = IsBelow n l × IsBelow n r

member-below : (n : ℕ) (g : Group) (i : ℕ) → AreHalves n g → i < n → IsBelow n (member g i)
member-below n (leaves s k) i h p = p
member-below n (nodes l r k) i h p = (h.0, h.1, p)

halves-more : (n m : ℕ) (g : Group) → n ≤ m → AreHalves n g → AreHalves m g
halves-more n m (leaves s k) le h = tt
halves-more n m (nodes l r k) le h = (below-more n m l le h.0, below-more n m r le h.1)

pub record IsWithin (n : ℕ) (w : Grew) : Type 0 where
  pub tree : IsBelow n w.tree
  pub list : AreBelow n w.list

within-more : (n m : ℕ) (w : Grew) → n ≤ m → IsWithin n w → IsWithin m w
within-more n m w le h = record {
  tree = below-more n m w.tree le h.tree;
  list = all_below-more n m w.list le h.list;
}

all-more : (n m : ℕ) (ws : List Grew) → n ≤ m → All (IsWithin n) ws → All (IsWithin m) ws
all-more n m ws le h = λ j d z. within-more n m _ le (h j d z)

-- where f is good at the numbers of the list
all-map : (P : Grew → Type 0) (f : ℕ → Grew) (is : List ℕ) → ((i : ℕ) → IsIn i is → P (f i)) → All P (map f is)
all-map P f [] h = All-nil P
all-map P f (i ∷ is) h = All-cons P (f i) (map f is) (h i (inl refl)) (all-map P f is (λ j p. h j (inr p)))

all-each : {A : Type 0} (P : Grew → Type 0) (f : A → List Grew) (xs : List A)
    → ((x : A) → IsIn x xs → All P (f x)) → All P (each f xs)
all-each P f [] h = All-nil P
all-each P f (x ∷ xs) h =
    All-append P (f x) (each f xs) (h x (inl refl)) (all-each P f xs (λ y p. h y (inr p)))

all-in : (P : Grew → Type 0) (w : Grew) (ws : List Grew) → All P ws → IsIn w ws → P w
all-in P w [] h p = absurd p
all-in P w (v ∷ ws) h (inl e) = subst P (sym e) (All-head P v ws h)
all-in P w (v ∷ ws) h (inr p) = all-in P w ws (All-tail P v ws h) p

all-choice : (P : Grew → Type 0) (b : Bool) (xs ys : List Grew) → All P xs → All P ys
    → All P (if b then xs else ys)
all-choice P true xs ys h k = h
all-choice P false xs ys h k = k

places-within : (g : Group) (c : ℤ) (n : ℕ) (ts : List Letter) → 1 ≤ n → AreHalves n g → AreBelow n ts
    → All (IsWithin (suc n)) (places g c ts)
places-within g c n ts one halves small =
    let m = greatest g ts in
    let top = greatest-below g n ts one small in
    let wide = halves-more n (suc n) g (omega arith) halves in
    All-append (IsWithin (suc n)) (map (again g ts) (upto m))
    (if has_room c m then map (anew g ts) (upto (suc m)) else [])
    (all-map (IsWithin (suc n)) (again g ts) (upto m)
    (λ i p. let r = in-upto-range i m p in
    record {
      tree = member-below (suc n) g i wide (omega (arith, r.1, top));
      list = all_below-more n (suc n) ts (omega arith) small;
    }))
    (all-choice (IsWithin (suc n)) (has_room c m) (map (anew g ts) (upto (suc m))) []
    (all-map (IsWithin (suc n)) (anew g ts) (upto (suc m))
    (λ i p. let r = in-upto-range i (suc m) p in
    record {
      tree = member-below (suc n) g i wide (omega (arith, r.1, top));
      list = all_below-raised g i n ts small;
    }))
    (All-nil (IsWithin (suc n))))

pub steps-least : (k : ℕ) → 1 ≤ most_steps k
steps-least zero = omega arith
steps-least (suc k) = omega (arith, steps-least k)

pub steps-more : (p k : ℕ) → p ≤ k → most_steps p ≤ most_steps k
steps-more p zero h = let e : p ≡ zero = omega (arith, h) in omega (arith, ap most_steps e)
steps-more p (suc k) h = elim (cases_order p (suc k)) [
  | inl e ↦ omega (arith, ap most_steps e)
  | inr d ↦ omega (arith, steps-more p k (omega (arith, d, h)))
]

-- both halves and the node itself
pub steps-node : (p q k : ℕ) → p < k → q < k → most_steps p + most_steps q + 1 ≤ most_steps k
steps-node p q zero a b = absurd (omega (arith, a))
steps-node p q (suc k) a b =
    omega (arith, steps-more p k (omega (arith, a)), steps-more q k (omega (arith, b)))

joined-within : (e : Exponents) (k : ℕ) (c : ℤ) (n : ℕ) (right : Grew) → 1 ≤ n → IsWithin n right
    → All (IsWithin (suc n)) (joined e k c right.tree right.list)
joined-within e k c n right one h = go right.list h.list
  where
    go : (ts : List Letter) → AreBelow n ts → All (IsWithin (suc n)) (joined e k c right.tree ts)
    go [] p = All-nil (IsWithin (suc n))
    go (l ∷ ts) p =
        all-choice (IsWithin (suc n)) (may_join e l right.tree k) (places (nodes l right.tree k) c ts) []
        (places-within (nodes l right.tree k) c n ts one (p.0, h.tree) p.1)
        (All-nil (IsWithin (suc n)))

module _ (e : Exponents) (level : ℕ) where
  abbrev IsSlow : ℕ → Type 0
  IsSlow d = (n k : ℕ) (ts : List Letter) → 1 ≤ n → AreBelow n ts
      → All (IsWithin (n + most_steps k)) (grown e level d ts k)

  leaves-within : (n k : ℕ) (ts : List Letter) → 1 ≤ n → AreBelow n ts
      → All (IsWithin (n + most_steps k))
      (if nat_le level k then places (leaves side.X k) (pos 0) ts ++ places (leaves side.Y k) (pos 0) ts else [])
  leaves-within n k ts one small =
      let P : Grew → Type 0 = IsWithin (n + most_steps k) in
      let le : suc n ≤ n + most_steps k = omega (arith, steps-least k) in
      all-choice P (nat_le level k)
      (places (leaves side.X k) (pos 0) ts ++ places (leaves side.Y k) (pos 0) ts) []
      (All-append P (places (leaves side.X k) (pos 0) ts) (places (leaves side.Y k) (pos 0) ts)
      (all-more (suc n) (n + most_steps k) (places (leaves side.X k) (pos 0) ts) le
      (places-within (leaves side.X k) (pos 0) n ts one tt small))
      (all-more (suc n) (n + most_steps k) (places (leaves side.Y k) (pos 0) ts) le
      (places-within (leaves side.Y k) (pos 0) n ts one tt small)))
      (All-nil P)

  rights-within : (d : ℕ) → IsSlow d → (n p q k : ℕ) (left : Grew) → 1 ≤ n → p < k → q < k
      → IsWithin (n + most_steps p) left
      → All (IsWithin (n + most_steps k))
      (each (λ right. joined e k (e q p k) right.tree right.list) (grown e level d (left.tree ∷ left.list) q))
  rights-within d ih n p q k left one a b h =
      let m = n + most_steps p in
      let fits = steps-node p q k a b in
      all-each (IsWithin (n + most_steps k)) (λ (right : Grew). joined e k (e q p k) right.tree right.list)
      (grown e level d (left.tree ∷ left.list) q)
      (λ right i.
      all-more (suc (m + most_steps q)) (n + most_steps k) (joined e k (e q p k) right.tree right.list)
      (omega (arith, fits))
      (joined-within e k (e q p k) (m + most_steps q) right (omega (arith, one))
      (all-in (IsWithin (m + most_steps q)) right (grown e level d (left.tree ∷ left.list) q)
      (ih m q (left.tree ∷ left.list) (omega (arith, one)) (h.tree, h.list)) i)))

  -- numbers below n are below n + most_steps k after growing by a tree of type k
  pub grown-within : (d : ℕ) → IsSlow d
  grown-within zero n k ts one small = All-nil (IsWithin (n + most_steps k))
  grown-within (suc d) n k ts one small =
      let P : Grew → Type 0 = IsWithin (n + most_steps k) in
      let pair : ℕ → ℕ → List Grew = λ p q.
      if is_zero (e q p k) then []
      else each (λ left. each (λ right. joined e k (e q p k) right.tree right.list)
      (grown e level d (left.tree ∷ left.list) q)) (grown e level d ts p) in
      All-append P
      (if nat_le level k then places (leaves side.X k) (pos 0) ts ++ places (leaves side.Y k) (pos 0) ts else [])
      (each (λ p. each (λ q. pair p q) (upto (p - 1))) (upto (k - 1)))
      (leaves-within n k ts one small)
      (all-each P (λ (p : ℕ). each (λ q. pair p q) (upto (p - 1))) (upto (k - 1))
      (λ p a. all-each P (λ (q : ℕ). pair p q) (upto (p - 1))
      (λ q b. let r = in-upto-range p (k - 1) a in let s = in-upto-range q (p - 1) b in
      let pk : p < k = omega (arith, r.0, r.1) in
      let qk : q < k = omega (arith, s.0, s.1, pk) in
      all-choice P (is_zero (e q p k)) []
      (each (λ left. each (λ right. joined e k (e q p k) right.tree right.list)
      (grown e level d (left.tree ∷ left.list) q)) (grown e level d ts p))
      (All-nil P)
      (all-each P (λ (left : Grew). each (λ right. joined e k (e q p k) right.tree right.list)
      (grown e level d (left.tree ∷ left.list) q)) (grown e level d ts p)
      (λ left i. rights-within d (grown-within d) n p q k left one pk qk
      (all-in (IsWithin (n + most_steps p)) left (grown e level d ts p)
      (grown-within d n p ts one small) i))))))

steps-power : (k : ℕ) → most_steps k + 1 ≡ 2 ^ suc k
steps-power zero = refl
steps-power (suc k) = omega (arith, steps-power k, pow-suc 2 (suc k))

pub steps-small : (k : ℕ) → k ≤ 48 → most_steps k + most_steps k ≤ 2 ^ 63
steps-small k h = omega (arith, steps-power k, pow-suc 2 (suc k), pow_mono {i = suc (suc k)} {j = 63} (omega (arith, h)))
