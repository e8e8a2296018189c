-- The pairs that a loop goes over, in place of all pairs of types.
--   e exponents · level · k p q types · ts letters · pair pairs of types · i place · a b d arenas · ws vs us ways
use Rattle.std.proofs.Common.{◌≡◌, ℕ, zero, suc, ◌+◌, ◌-◌, ◌<◌, ◌≤◌, Bool, true, false, List, [], ◌∷◌, ◌++◌, length, get_or, take, refl, sym, ap, ◌∙◌, subst, arith, append_assoc, inl, inr, if◌then◌else◌}
use Rattle.std.proofs.lemmas.List.{append-nil, take_more}
use Rattle.dt_letters.specs.declared.pair.Pair.{Pair}
use Rattle.dt_letters.specs.Letters.{Letter}
use Rattle.nil_pres.specs.Presented.{Presented}
use Rattle.dt_letters.specs.Allowed.{Exponents, exponents_of}
use Rattle.dt_letters.specs.Listing.{Grew, each, grown, is_zero, upto, IsIn}
use Rattle.dt_letters.specs.Pairs.{pair_of, pairs_up_to, pairs_of}
use Rattle.dt_letters.specs.Arena.{Arena, IsExtended}
use Rattle.dt_letters.proofs.Once.{in-upto-range, in-each-origin}
use Rattle.dt_trees.specs.declared.grown.Grown.{Grown}
use Rattle.dt_trees.specs.Ways.{Gains, leaf_ways, rights_of, pair_ways}
use Rattle.dt_trees.proofs.Each.{each-append, each-push, each-same}
use Rattle.dt_trees.proofs.Depth.{grown-ways}
use Rattle.dt_trees.proofs.Gaining.{gains-same, gains-trans}

-- what the pairs are

in-one : (b : Bool) (x y : Pair) → IsIn x (if b then [] else y ∷ []) → x ≡ y
in-one true x y h = absurd h
in-one false x y (inl e) = e
in-one false x y (inr h) = absurd h

in-at : (pairs : List Pair) (i : ℕ) (d : Pair) → i < length pairs → IsIn (get_or pairs i d) pairs
in-at [] i d lt = absurd (omega (arith, lt))
in-at (x ∷ pairs) zero d lt = inl refl
in-at (x ∷ pairs) (suc i) d lt = inr (in-at pairs i d (omega (arith, lt)))

abbrev IsBelow : ℕ → Pair → Type 0
IsBelow k pair = (1 ≤ pair.right) × (pair.right < pair.left) × (pair.left < k)

pair-below : (e : Exponents) (k : ℕ) (pair : Pair) → IsIn pair (pairs_of e k) → IsBelow k pair
pair-below e k pair h =
    let o = in-each-origin (λ (p : ℕ). each (λ q. pair_of e k p q) (upto (p - 1))) pair (upto (k - 1)) h in
    let r = in-each-origin (λ (q : ℕ). pair_of e k o.0 q) pair (upto (o.0 - 1)) o.1.1 in
    let same = in-one (is_zero (e r.0 o.0 k)) pair (record { left = o.0; right = r.0 }) r.1.1 in
    let left : pair.left ≡ o.0 = ap (λ (x : Pair). x.left) same in
    let right : pair.right ≡ r.0 = ap (λ (x : Pair). x.right) same in
    let s = in-upto-range o.0 (k - 1) o.1.0 in
    let t = in-upto-range r.0 (o.0 - 1) r.1.0 in (
      omega (arith, right, t.0),
      omega (arith, left, right, t.0, t.1),
      omega (arith, left, s.0, s.1),
    )

pair-range : (e : Exponents) (k i : ℕ) (now : List Pair) (d : Pair) → now ≡ pairs_of e k → i < length now
    → (1 ≤ (get_or now i d).right) × ((get_or now i d).right < (get_or now i d).left) × ((get_or now i d).left < k)
pair-range e k i now d is lt =
    pair-below e k (get_or now i d) (subst (IsIn (get_or now i d)) is (in-at now i d lt))

pub pairs-kept : (a b : Arena) → IsExtended a b → (k : ℕ) (now : List Pair) → now ≡ pairs_of (exponents_of b.pres) k
    → now ≡ pairs_of (exponents_of a.pres) k
pairs-kept a b x k now is = is ∙ ap (λ (r : Presented). pairs_of (exponents_of r) k) x.0

-- the pair at a place, where the number of pairs was taken over another arena
pub next-range : (a b l : Arena) → IsExtended a b → IsExtended a l → (k i : ℕ) (now whole : List Pair) (d : Pair)
    → now ≡ pairs_of (exponents_of b.pres) k → whole ≡ pairs_of (exponents_of l.pres) k → i < length whole
    → (1 ≤ (get_or now i d).right) × ((get_or now i d).right < (get_or now i d).left) × ((get_or now i d).left < k)
    × (i < length now)
next-range a b l x y k i now whole d is all lt =
    let here = pairs-kept a b x k now is in
    let there = pairs-kept a l y k whole all in
    let less : i < length now = omega (arith, lt, ap length here, ap length there) in
    let r = pair-range (exponents_of a.pres) k i now d here less in
    (r.0, r.1, r.2, less)

-- each of the pairs

each-each : {A B C : Type 0} (f : B → List C) (g : A → List B) (xs : List A)
    → each f (each g xs) ≡ each (λ x. each f (g x)) xs
each-each f g [] = refl
each-each f g (x ∷ xs) =
    each-append f (g x) (each g xs) ∙ ap (λ z. each f (g x) ++ z) (each-each f g xs)

module _ (e : Exponents) (level : ℕ) (ts : List Letter) (k : ℕ) where
  abbrev at : Pair → List Grew
  at pair = pair_ways e level ts k pair.left pair.right

  each-one : (p q : ℕ) (b : Bool) → is_zero (e q p k) ≡ b → each at (pair_of e k p q) ≡ pair_ways e level ts k p q
  each-one p q true h =
      ap (λ (z : Bool). each at (if z then [] else record { left = p; right = q } ∷ [])) h
      ∙ sym (ap (λ (z : Bool). if z then [] else each (rights_of e level q k (e q p k)) (grown e level p ts p)) h)
  each-one p q false h =
      ap (λ (z : Bool). each at (if z then [] else record { left = p; right = q } ∷ [])) h
      ∙ append-nil (pair_ways e level ts k p q)

  each-pairs : (n : ℕ) → each at (pairs_up_to e k n)
      ≡ each (λ p. each (λ q. pair_ways e level ts k p q) (upto (p - 1))) (upto n)
  each-pairs n =
      each-each at (λ (p : ℕ). each (λ q. pair_of e k p q) (upto (p - 1))) (upto n)
      ∙ each-same (λ (p : ℕ). each at (each (λ q. pair_of e k p q) (upto (p - 1))))
      (λ (p : ℕ). each (λ q. pair_ways e level ts k p q) (upto (p - 1))) (upto n)
      (λ p _. each-each at (λ (q : ℕ). pair_of e k p q) (upto (p - 1))
      ∙ each-same (λ (q : ℕ). each at (pair_of e k p q)) (λ (q : ℕ). pair_ways e level ts k p q) (upto (p - 1))
      (λ q _. each-one p q (is_zero (e q p k)) refl))

  pub grown-pairs : 1 ≤ level → 1 ≤ k → leaf_ways level ts k ++ each at (pairs_of e k) ≡ grown e level k ts k
  grown-pairs one least =
      ap (λ (xs : List Grew). leaf_ways level ts k ++ xs) (each-pairs (k - 1))
      ∙ sym (grown-ways e level one ts k least)

-- the next of the pairs
pub gains-next_pair : (a b d : Arena) (ws vs us : List Grown) (xs more : List Grew) (pairs now : List Pair) (i : ℕ)
    (z : Pair) (f : Pair → List Grew) → now ≡ pairs → i < length now → more ≡ f (get_or now i z)
    → Gains a ws b vs (xs ++ each f (take i pairs)) → Gains b vs d us more
    → Gains a ws d us (xs ++ each f (take (i + 1) pairs))
gains-next_pair a b d ws vs us xs more pairs now i z f is lt same p q =
    let pair = get_or pairs i z in
    let less : i < length pairs = omega (arith, lt, ap length is) in
    let here : more ≡ f pair = same ∙ ap (λ (ps : List Pair). f (get_or ps i z)) is in
    gains-same a d ws us ((xs ++ each f (take i pairs)) ++ f pair) (xs ++ each f (take (i + 1) pairs))
    (append_assoc xs (each f (take i pairs)) (f pair)
    ∙ ap (λ (ys : List Grew). xs ++ ys)
    (sym (each-push f (take i pairs) pair) ∙ ap (each f) (sym (take_more pairs i z less))))
    (gains-trans a b d ws vs us (xs ++ each f (take i pairs)) (f pair) p (gains-same b d vs us more (f pair) here q))
