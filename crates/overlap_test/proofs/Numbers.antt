-- Numbers in their order.
--   low high d numbers · i place
use Rattle.std.proofs.Common.{◌≡◌, ℕ, zero, suc, ◌+◌, ◌-◌, ◌<◌, ◌∷◌, length, get_or, refl, ◌∙◌, ap, arith}
use Rattle.nil_word.specs.Exponents.{numbers}

-- the first of the numbers from low up to high, and the others
pub numbers_next : (low high : ℕ) → low < high
    → numbers low (high - low) ≡ low ∷ numbers (low + 1) (high - (low + 1))
numbers_next low high h =
    let one : high - low ≡ suc (high - (low + 1)) = omega arith in
    let more : suc low ≡ low + 1 = omega arith in
    ap (numbers low) one ∙ ap (λ (k : ℕ). low ∷ numbers k (high - (low + 1))) more

pub length-numbers : (low d : ℕ) → length (numbers low d) ≡ d
length-numbers low zero = refl
length-numbers low (suc d) = ap suc (length-numbers (suc low) d)

pub get_or-numbers : (low d i : ℕ) → i < d → get_or (numbers low d) i 0 ≡ low + i
get_or-numbers low zero i h = absurd (omega arith)
get_or-numbers low (suc d) zero h = omega arith
get_or-numbers low (suc d) (suc i) h = get_or-numbers (suc low) d i (omega arith) ∙ omega arith
