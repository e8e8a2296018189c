-- Groups of the letters in a tree, and their factors.
--   a arena · m o trees · ms trees · g h groups · gs hs groups · e exponents · t letter · i k places · c exponent
use Rattle.std.proofs.Common.{◌≡◌, ◌≢◌, ℕ, zero, suc, ◌+◌, ◌-◌, ◌*◌, ◌<◌, ◌≤◌, ◌^◌, List, [], ◌∷◌, ◌++◌, length, get_or, take, drop, map, refl, sym, ap, ◌∙◌, subst, arith, inl, inr, Bool, true, false, ℤ, pos, negsuc, ◌*ℤ◌, ◌≤ℤ◌, if◌then◌else◌}
use Rattle.std.specs.Prelude.{All, reverse, unsigned_abs}
use Rattle.std.specs.List.{list_any}
use Rattle.std.proofs.lemmas.Int.{ints, unsigned_abs-mul}
use Rattle.std.proofs.lemmas.List.{map-append, reverse-append, take_more}
use Rattle.std.proofs.lemmas.List.Elements.{All-nil, All-cons, All-head, All-tail}
use Rattle.std.proofs.Math.Nat.{mul-le-mul, mul-le-mul_right}
use Rattle.integer.specs.Binomial.{choose, ways}
use Rattle.integer.proofs.Binomial.{choose_ways, ways_ascend, ways_none, choose_not_zero}
use Rattle.dt_letters.specs.declared.tree.Tree.{Tree}
use Rattle.dt_letters.specs.Letters.{Letter, leaf, node, kind_of, Group, leaves, nodes, group_of}
use Rattle.dt_letters.specs.Meeting.{same_group}
use Rattle.dt_letters.specs.Allowed.{Exponents, IsLetter, IsInRange}
use Rattle.dt_letters.specs.Least.{greatest_in}
use Rattle.dt_letters.specs.Terms.{with_group, groups_from, groups_in, factor, product_over}
use Rattle.dt_letters.specs.Arena.{Arena, letter_in}
use Rattle.dt_letters.proofs.Parts.{same_group-true}
use Rattle.dt_trees.specs.Polynomials.{groups_over, SomeOverflows, FactorOverflows}

pub groups-push : (a : Arena) (ms : List Tree) (m : Tree)
    → groups_over a (ms ++ m ∷ []) ≡ group_of (letter_in a m) ∷ groups_over a ms
groups-push a ms m =
    let f : Tree → Group = λ x. group_of (letter_in a x) in
    ap reverse (map-append f ms (m ∷ [])) ∙ reverse-append (map f ms) (f m ∷ [])

pub groups-next : (a : Arena) (ms : List Tree) (i : ℕ) (o : Tree) → i < length ms
    → groups_over a (take (i + 1) ms) ≡ group_of (letter_in a (get_or ms i o)) ∷ groups_over a (take i ms)
groups-next a ms i o lt =
    ap (groups_over a) (take_more ms i o lt) ∙ groups-push a (take i ms) (get_or ms i o)

take_drop : (i : ℕ) (ms : List Tree) → ms ≡ take i ms ++ drop i ms
take_drop zero ms = refl
take_drop (suc i) [] = refl
take_drop (suc i) (m ∷ ms) = ap (λ (xs : List Tree). m ∷ xs) (take_drop i ms)

-- those of the rest stand before those of the first ones
pub groups-split : (a : Arena) (ms : List Tree) (i : ℕ)
    → groups_over a ms ≡ groups_over a (drop i ms) ++ groups_over a (take i ms)
groups-split a ms i =
    let f : Tree → Group = λ x. group_of (letter_in a x) in
    ap (groups_over a) (take_drop i ms)
    ∙ ap reverse (map-append f (take i ms) (drop i ms))
    ∙ reverse-append (map f (take i ms)) (map f (drop i ms))

pub with_group-there : (g : Group) (gs : List Group) → list_any (same_group g) gs ≡ true → gs ≡ with_group g gs
with_group-there g gs h = ap (λ (b : Bool). if b then gs else g ∷ gs) (sym h)

pub with_group-new : (g : Group) (gs hs : List Group) → list_any (same_group g) gs ≡ false → hs ≡ g ∷ gs
    → hs ≡ with_group g gs
with_group-new g gs hs h e = e ∙ ap (λ (b : Bool). if b then gs else g ∷ gs) (sym h)

-- what overflows overflows among more groups

pub some-append : (e : Exponents) (t : Letter) (gs hs : List Group) → SomeOverflows e t hs
    → SomeOverflows e t (gs ++ hs)
some-append e t [] hs h = h
some-append e t (g ∷ gs) hs h = inr (some-append e t gs hs h)

-- the factor of the next member overflows
pub some-next : (e : Exponents) (t : Letter) (a : Arena) (ms : List Tree) (i : ℕ) (o : Tree) → i < length ms
    → FactorOverflows e t (group_of (letter_in a (get_or ms i o))) → SomeOverflows e t (groups_over a ms)
some-next e t a ms i o lt h =
    subst (SomeOverflows e t) (sym (groups-split a ms (i + 1)))
    (some-append e t (groups_over a (drop (i + 1) ms)) (groups_over a (take (i + 1) ms))
    (subst (SomeOverflows e t) (sym (groups-next a ms i o lt)) (inl h)))

pub none-next : (e : Exponents) (t : Letter) (a : Arena) (ms : List Tree) (i : ℕ) (o : Tree) → i < length ms
    → (SomeOverflows e t (groups_over a (take i ms)) → ⊥)
    → (FactorOverflows e t (group_of (letter_in a (get_or ms i o))) → ⊥)
    → SomeOverflows e t (groups_over a (take (i + 1) ms)) → ⊥
none-next e t a ms i o lt h k p =
    elim (subst (SomeOverflows e t) (groups-next a ms i o lt) p) [ inl q ↦ k q | inr q ↦ h q ]

product-append : (e : Exponents) (t : Letter) (gs hs : List Group)
    → unsigned_abs (product_over e t (gs ++ hs))
    ≡ unsigned_abs (product_over e t gs) * unsigned_abs (product_over e t hs)
product-append e t [] hs = omega arith
product-append e t (g ∷ gs) hs =
    let x = factor e t g in
    omega (
      arith,
      unsigned_abs-mul x (product_over e t (gs ++ hs)),
      product-append e t gs hs,
      unsigned_abs-mul x (product_over e t gs),
      ap (λ (n : ℕ). unsigned_abs x * n) (product-append e t gs hs),
      ap (λ (n : ℕ). n * unsigned_abs (product_over e t hs)) (unsigned_abs-mul x (product_over e t gs)),
    )

abs_positive : (z : ℤ) → z ≢ pos 0 → 1 ≤ unsigned_abs z
abs_positive (pos zero) h = absurd (h refl)
abs_positive (pos (suc n)) h = omega arith
abs_positive (negsuc n) h = omega arith

product-positive : (e : Exponents) (t : Letter) (gs : List Group) → All (λ g. factor e t g ≢ pos 0) gs
    → 1 ≤ unsigned_abs (product_over e t gs)
product-positive e t [] h = omega arith
product-positive e t (g ∷ gs) h =
    let P : Group → Type 0 = λ x. factor e t x ≢ pos 0 in
    let a = abs_positive (factor e t g) (All-head P g gs h) in
    let b = product-positive e t gs (All-tail P g gs h) in
    let m = mul-le-mul a b in
    omega (arith, unsigned_abs-mul (factor e t g) (product_over e t gs), m)

-- a partial product is at most the whole
pub product-ascends : (e : Exponents) (t : Letter) (gs hs : List Group) → All (λ g. factor e t g ≢ pos 0) gs
    → unsigned_abs (product_over e t hs) ≤ unsigned_abs (product_over e t (gs ++ hs))
product-ascends e t gs hs h =
    let p = product-positive e t gs h in
    let n = unsigned_abs (product_over e t hs) in
    let m = mul-le-mul_right n p in
    omega (arith, product-append e t gs hs, m)

all-first : (P : Group → Type 0) (gs hs : List Group) → All P (gs ++ hs) → All P gs
all-first P [] hs h = All-nil P
all-first P (g ∷ gs) hs h =
    All-cons P g gs (All-head P g (gs ++ hs) h) (all-first P gs hs (All-tail P g (gs ++ hs) h))

pub product-next : (e : Exponents) (t : Letter) (a : Arena) (ms : List Tree) (i : ℕ) (o : Tree) (x y z : ℤ)
    → i < length ms → x ≡ factor e t (group_of (letter_in a (get_or ms i o)))
    → y ≡ product_over e t (groups_over a (take i ms)) → z ≡ x *ℤ y
    → z ≡ product_over e t (groups_over a (take (i + 1) ms))
product-next e t a ms i o x y z lt p q r =
    r ∙ ap (λ (v : ℤ). v *ℤ y) p
    ∙ ap (λ (v : ℤ). factor e t (group_of (letter_in a (get_or ms i o))) *ℤ v) q
    ∙ ap (product_over e t) (sym (groups-next a ms i o lt))

pub product-overflows : (e : Exponents) (t : Letter) (a : Arena) (ms : List Tree) (i : ℕ) (o : Tree) (x y : ℤ)
    → i < length ms → x ≡ factor e t (group_of (letter_in a (get_or ms i o)))
    → y ≡ product_over e t (groups_over a (take i ms))
    → All (λ g. factor e t g ≢ pos 0) (groups_over a ms) → 2 ^ 127 ≤ unsigned_abs (x *ℤ y)
    → 2 ^ 127 ≤ unsigned_abs (product_over e t (groups_over a ms))
product-overflows e t a ms i o x y lt p q h wide =
    let P : Group → Type 0 = λ g. factor e t g ≢ pos 0 in
    let gs = groups_over a (drop (i + 1) ms) in
    let hs = groups_over a (take (i + 1) ms) in
    let split = groups-split a ms (i + 1) in
    let up = product-ascends e t gs hs (all-first P gs hs (subst (All P) split h)) in
    let here : x *ℤ y ≡ product_over e t hs = product-next e t a ms i o x y (x *ℤ y) lt p q refl in
    omega (arith, wide, up, ap unsigned_abs here, ap (λ (fs : List Group). unsigned_abs (product_over e t fs)) split)

-- factors of letters aren't 0

abbrev IsUsed : Exponents → Group → Type 0
IsUsed e (leaves s k) = Unit {0}
IsUsed e (nodes l r k) = e (kind_of r) (kind_of l) k ≢ pos 0

with_group-all : (P : Group → Type 0) (g : Group) (gs : List Group) → P g → All P gs → All P (with_group g gs)
with_group-all P g gs p h = go (list_any (same_group g) gs)
  where
    go : (b : Bool) → All P (if b then gs else g ∷ gs)
    go true = h
    go false = All-cons P g gs p h

groups-used : (e : Exponents) (t : Letter) (gs : List Group) → IsLetter e t → All (IsUsed e) gs
    → All (IsUsed e) (groups_from t gs)
groups-used e (leaf s k i) gs l h = with_group-all (IsUsed e) (leaves s k) gs tt h
groups-used e (node a r k i) gs l h =
    with_group-all (IsUsed e) (nodes a r k) (groups_from a (groups_from r gs)) l.2.joins.occurs
    (groups-used e a (groups_from r gs) l.0 (groups-used e r gs l.1 h))

own-range : (c : ℕ) (b : Bool) (i : ℕ) → (b ≡ true → i ≤ c) → (if b then i else 0) ≤ c
own-range c true i h = h refl
own-range c false i h = omega arith

abbrev range_of : Exponents → Group → ℤ
range_of e (leaves s k) = pos 0
range_of e (nodes l r k) = e (kind_of r) (kind_of l) k

greatest-range : (e : Exponents) (t : Letter) (g : Group) (c : ℕ) → IsLetter e t → range_of e g ≡ pos (suc c)
    → greatest_in g t ≤ suc c
greatest-range e (leaf s k i) (leaves u m) c l is = absurd (omega (arith, ints, is))
greatest-range e (node a r k i) (leaves u m) c l is = absurd (omega (arith, ints, is))
greatest-range e (leaf s k i) (nodes b d m) c l is = omega arith
greatest-range e (node a r k i) (nodes b d m) c l is =
    let own = own-range (suc c) (same_group (nodes b d m) (nodes a r k)) i
    (λ same. let x : range_of e (nodes a r k) ≡ pos (suc c) =
    ap (range_of e) (sym (same_group-true (nodes b d m) (nodes a r k) same)) ∙ is in
    let y : IsInRange (pos (suc c)) i = subst (λ (z : ℤ). IsInRange z i) x l.2.range in
    let w : pos i ≤ℤ pos (suc c) = y.1 (omega (arith, ints)) in
    omega (arith, ints, w)) in
    omega (arith, own, greatest-range e a (nodes b d m) c l.0 is, greatest-range e r (nodes b d m) c l.1 is)

choose-nonzero : (c : ℤ) (m : ℕ) → c ≢ pos 0 → ((n : ℕ) → c ≡ pos (suc n) → m ≤ suc n) → choose c m ≢ pos 0
choose-nonzero (pos zero) m h r z = h refl
choose-nonzero (negsuc n) m h r z = choose_not_zero n m z
choose-nonzero (pos (suc n)) m h r z =
    let le : m ≤ suc n = r n refl in
    let up : ways (suc n - m) 0 ≤ ways (suc n - m + m) (0 + m) = ways_ascend (suc n - m) 0 m in
    let at : ways (suc n - m + m) (0 + m) ≡ ways (suc n) m =
    ap (λ (x : ℕ). ways x (0 + m)) (omega (arith, le)) ∙ ap (ways (suc n)) (omega arith) in
    absurd (omega (arith, ints, up, at, ways_none (suc n - m), sym (choose_ways (suc n) m) ∙ z))

factor-nonzero : (e : Exponents) (t : Letter) (g : Group) → IsLetter e t → IsUsed e g → factor e t g ≢ pos 0
factor-nonzero e t (leaves s k) l h z = absurd (omega (arith, ints, z))
factor-nonzero e t (nodes a r k) l h z =
    choose-nonzero (e (kind_of r) (kind_of a) k) (greatest_in (nodes a r k) t) h
    (λ n is. greatest-range e t (nodes a r k) n l is) z

pub factors-nonzero : (e : Exponents) (t : Letter) → IsLetter e t
    → All (λ g. factor e t g ≢ pos 0) (groups_in t)
factors-nonzero e t l = λ i d lt.
    factor-nonzero e t _ l (groups-used e t [] l (All-nil (IsUsed e)) i d lt)
