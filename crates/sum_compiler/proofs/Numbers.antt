-- Lists of numbers that count up.
--   low d   d numbers from low on · k number
use Rattle.std.proofs.Common.{◌≡◌, ℕ, zero, suc, ◌+◌, ◌-◌, ◌<◌, ◌≤◌, List, [], ◌∷◌, ◌++◌, length, get_or, refl, ap, ◌∙◌, arith}
use Rattle.nil_word.specs.Exponents.{numbers}

pub numbers-append : (low c d : ℕ) → numbers low (c + d) ≡ numbers low c ++ numbers (low + c) d
numbers-append low zero d =
    ap (λ (n : ℕ). numbers low n) (let e : 0 + d ≡ d = omega arith in e)
    ∙ ap (λ (n : ℕ). numbers n d) (let e : low ≡ low + 0 = omega arith in e)
numbers-append low (suc c) d =
    ap (λ (n : ℕ). numbers low n) (let e : suc c + d ≡ suc (c + d) = omega arith in e)
    ∙ ap (λ (ks : List ℕ). low ∷ ks)
    (numbers-append (suc low) c d
    ∙ ap (λ (n : ℕ). numbers (suc low) c ++ numbers n d)
    (let e : suc low + c ≡ low + suc c = omega arith in e))

pub numbers-more : (low k : ℕ) → low ≤ k → numbers low (k + 1 - low) ≡ numbers low (k - low) ++ k ∷ []
numbers-more low k l =
    ap (λ (d : ℕ). numbers low d) (let e : k + 1 - low ≡ (k - low) + 1 = omega arith in e)
    ∙ numbers-append low (k - low) 1
    ∙ ap (λ (i : ℕ). numbers low (k - low) ++ i ∷ []) (let e : low + (k - low) ≡ k = omega arith in e)

pub length-numbers : (low d : ℕ) → length (numbers low d) ≡ d
length-numbers low zero = refl
length-numbers low (suc d) = ap suc (length-numbers (suc low) d)

pub get-numbers : (low d i : ℕ) → i < d → get_or (numbers low d) i 0 ≡ low + i
get-numbers low zero i h = absurd (omega arith)
get-numbers low (suc d) zero h = omega arith
get-numbers low (suc d) (suc i) h = get-numbers (suc low) d i (omega arith) ∙ omega arith
