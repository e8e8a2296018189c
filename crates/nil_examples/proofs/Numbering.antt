-- Numbers that are gone through from 1.
use Rattle.std.proofs.Common.{◌≡◌, ℕ, zero, suc, ◌+◌, ◌-◌, ◌<◌, List, [], ◌∷◌, ◌++◌, length, map, replicate, get_or, refl, sym, ap, ◌∙◌, add-zero, append_assoc, arith}
use Rattle.std.specs.List.{range_with_len, flat_map}
use Rattle.std.proofs.lemmas.List.{append-nil}
use Rattle.std.proofs.lemmas.List.FromFn.{get_or-range_with_len}

pub one_less : (k : ℕ) → k + 1 - 1 ≡ k
one_less k = omega arith

pub one_more : (k : ℕ) → suc k ≡ k + 1
one_more k = omega arith

pub one_first : (k : ℕ) → 1 + k ≡ k + 1
one_first k = omega arith

pub at_next : (n k : ℕ) → k < n → get_or (range_with_len 1 n) k 0 ≡ k + 1
at_next n k below = get_or-range_with_len 1 n k 0 below ∙ one_first k

pub map_constant : {A B : Type 0} (y : B) (xs : List A) → map (λ _. y) xs ≡ replicate (length xs) y
map_constant y [] = refl
map_constant y (x ∷ xs) = ap (λ ys. y ∷ ys) (map_constant y xs)

pub flat_map-more : {A : Type 0} (f : ℕ → List A) (a n : ℕ) → flat_map f (range_with_len a n) ++ f (a + n) ≡ flat_map f (range_with_len a (suc n))
flat_map-more f a zero = ap f (add-zero a) ∙ sym (append-nil (f a))
flat_map-more f a (suc n) =
    let next : a + suc n ≡ a + 1 + n = omega arith in
    append_assoc (f a) (flat_map f (range_with_len (a + 1) n)) (f (a + suc n))
    ∙ ap (λ t. f a ++ t)
    (ap (λ (i : ℕ). flat_map f (range_with_len (a + 1) n) ++ f i) next ∙ flat_map-more f (a + 1) n)
