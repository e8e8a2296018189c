-- Lists of letters in another order: the same elements, each once.
--   a letter · x y letters · xs ys letters · ws ways
use Rattle.std.proofs.Common.{◌≡◌, ℕ, ◌+◌, ◌≤◌, List, [], ◌∷◌, map, refl, sym, ap, ◌∙◌, subst, arith, inl, inr, ◌↔◌, Bool, true, false, if◌then◌else◌}
use Rattle.std.specs.Prelude.{All, sum_by}
use Rattle.std.specs.List.Sorted.{IsPermutation}
use Rattle.std.proofs.lemmas.List.Sums.{sum_by-cons}
use Rattle.std.proofs.lemmas.List.Elements.{All-nil, All-cons, All-weaker, All-head, All-tail}
use Rattle.std.proofs.lemmas.List.Sorted.{IsPermutation-map, IsPermutation-sym, All-permutation, sum_by-IsPermutation}
use Rattle.dt_letters.specs.declared.tree.Tree.{Tree}
use Rattle.dt_letters.specs.Letters.{Letter, leaf, node}
use Rattle.dt_letters.specs.Allowed.{Exponents, IsFrom}
use Rattle.dt_letters.specs.Meeting.{same_letter}
use Rattle.dt_letters.specs.Listing.{Grew, grown, trees, IsIn, AreOnce}
use Rattle.dt_letters.specs.Arena.{Arena, letter_in, IsTreeOf}
use Rattle.dt_letters.proofs.Parts.{same_letter-true, same_letter-refl}
use Rattle.dt_trees.specs.declared.grown.Grown.{Grown}
use Rattle.dt_trees.specs.Ways.{stack_in, grown_in, IsWay, AreWays}

all-in : (xs : List Letter) → All (λ x. IsIn x xs) xs
all-in [] = All-nil (λ x. IsIn x [])
all-in (x ∷ xs) =
    All-cons (λ y. IsIn y (x ∷ xs)) x xs (inl refl)
    (All-weaker (λ y. IsIn y xs) (λ y. IsIn y (x ∷ xs)) (λ y h. inr h) xs (all-in xs))

in-all : (P : Letter → Type 0) (x : Letter) (xs : List Letter) → All P xs → IsIn x xs → P x
in-all P x [] h p = absurd p
in-all P x (y ∷ xs) h (inl e) = subst P (sym e) (All-head P y xs h)
in-all P x (y ∷ xs) h (inr p) = in-all P x xs (All-tail P y xs h) p

in-back : (xs ys : List Letter) (x : Letter) → IsPermutation xs ys → IsIn x ys → IsIn x xs
in-back xs ys x p h = in-all (λ y. IsIn y xs) x ys (All-permutation (λ y. IsIn y xs) xs ys p (all-in xs)) h

pub in-permuted : (xs ys : List Letter) (x : Letter) → IsPermutation xs ys → IsIn x ys ↔ IsIn x xs
in-permuted xs ys x p = (in-back xs ys x p, in-back ys xs x (IsPermutation-sym xs ys p))

abbrev is_one : Letter → Letter → ℕ
is_one a x = if same_letter a x then 1 else 0

none : (a : Letter) (xs : List Letter) → (IsIn a xs → ⊥) → sum_by (is_one a) xs ≡ 0
none a [] h = refl
none a (x ∷ xs) h =
    sum_by-cons (is_one a) x xs ∙ go (none a xs (λ p. h (inr p))) (same_letter a x) refl
  where
    go : sum_by (is_one a) xs ≡ 0 → (b : Bool) → same_letter a x ≡ b
        → (if b then 1 else 0) + sum_by (is_one a) xs ≡ 0
    go rest true e = absurd (h (inl (same_letter-true a x e)))
    go rest false e = omega (arith, rest)

some : (a : Letter) (xs : List Letter) → IsIn a xs → 1 ≤ sum_by (is_one a) xs
some a [] p = absurd p
some a (x ∷ xs) (inl e) =
    let h : same_letter a x ≡ true = subst (λ (y : Letter). same_letter a y ≡ true) e (same_letter-refl a) in
    let one : is_one a x ≡ 1 = ap (λ (b : Bool). if b then 1 else 0) h in
    omega (arith, one, sum_by-cons (is_one a) x xs)
some a (x ∷ xs) (inr p) = omega (arith, some a xs p, sum_by-cons (is_one a) x xs)

at_most_one : (a : Letter) (xs : List Letter) → AreOnce xs → sum_by (is_one a) xs ≤ 1
at_most_one a [] h = omega arith
at_most_one a (x ∷ xs) h =
    omega (arith, sum_by-cons (is_one a) x xs, go (at_most_one a xs h.1) (same_letter a x) refl)
  where
    go : sum_by (is_one a) xs ≤ 1 → (b : Bool) → same_letter a x ≡ b
        → (if b then 1 else 0) + sum_by (is_one a) xs ≤ 1
    go rest true e =
        omega (arith, none a xs (λ p. h.0 (subst (λ (y : Letter). IsIn y xs) (same_letter-true a x e) p)))
    go rest false e = omega (arith, rest)

once-counted : (xs : List Letter) → ((a : Letter) → sum_by (is_one a) xs ≤ 1) → AreOnce xs
once-counted [] h = tt
once-counted (x ∷ xs) h = (
  λ p. let one : is_one x x ≡ 1 = ap (λ (b : Bool). if b then 1 else 0) (same_letter-refl x) in
      absurd (omega (arith, one, some x xs p, h x, sum_by-cons (is_one x) x xs)),
  once-counted xs (λ a. omega (arith, h a, sum_by-cons (is_one a) x xs)),
)

pub once-permuted : (xs ys : List Letter) → IsPermutation xs ys → AreOnce xs → AreOnce ys
once-permuted xs ys p h =
    once-counted ys (λ a. omega (arith, at_most_one a xs h, sum_by-IsPermutation (is_one a) xs ys p))

pub letters-of_ways : (a : Arena) (ws : List Grown)
    → map (letter_in a) (map (λ w. w.tree) ws) ≡ map (λ w. w.tree) (map (grown_in a) ws)
letters-of_ways a [] = refl
letters-of_ways a (w ∷ ws) = ap (λ (xs : List Letter). letter_in a w.tree ∷ xs) (letters-of_ways a ws)

pub trees-of_ways : (a : Arena) (ws : List Grown) → All (IsWay a) ws → All (IsTreeOf a) (map (λ w. w.tree) ws)
trees-of_ways a [] h = All-nil (IsTreeOf a)
trees-of_ways a (w ∷ ws) h =
    All-cons (IsTreeOf a) w.tree (map (λ w. w.tree) ws) (All-head (IsWay a) w ws h).tree
    (trees-of_ways a ws (All-tail (IsWay a) w ws h))

pub all-of : (P : Letter → Type 0) (xs : List Letter) → ((x : Letter) → IsIn x xs → P x) → All P xs
all-of P xs f = λ i d lt. f _ (all-in xs i d lt)

-- the least trees are those of the ways from nothing, in another order
pub trees-permuted : (e : Exponents) (level k : ℕ) (o a : Arena) (ws : List Grown) (now ts us : List Tree)
    → now ≡ [] → AreWays a ws (grown e level k (stack_in o now) k) → ts ≡ map (λ w. w.tree) ws
    → IsPermutation ts us → IsPermutation (trees e level k) (map (letter_in a) us)
trees-permuted e level k o a ws now ts us none ways same p =
    let tree : Grew → Letter = λ w. w.tree in
    let is : map (letter_in a) ts ≡ trees e level k =
    ap (map (letter_in a)) same ∙ letters-of_ways a ws ∙ ap (map tree) ways.are
    ∙ ap (λ (ms : List Tree). map tree (grown e level k (stack_in o ms) k)) none in
    subst (λ (xs : List Letter). IsPermutation xs (map (letter_in a) us)) is
    (IsPermutation-map (letter_in a) ts us p)

pub from-more : (m n : ℕ) (t : Letter) → m ≤ n → IsFrom n t → IsFrom m t
from-more m n (leaf s k i) le h = omega (arith, le, h)
from-more m n (node l r k i) le h = (from-more m n l le h.0, from-more m n r le h.1)
