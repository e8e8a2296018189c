-- Where a polynomial has the double of another's values, 2 divides its coefficients
use Rattle.std.proofs.Common.{◌≡◌, ℕ, List, [], ◌∷◌, sym, ◌∙◌}
use lib.IntN.{ℤ, pos, ◌*ℤ◌, *ℤ_comm}
use Rattle.integer.specs.Divides.{Divides}
use Rattle.binom_poly.specs.declared.term.Term.{Term}
use Rattle.binom_poly.specs.Polynomial.{value_of, IsPolynomial}
use Rattle.binom_poly.specs.Collected.{AllDivisible}
use Rattle.binom_poly.proofs.Divisible.{AllCoefficients, divides_coefficients}

all_divisible : (ts : List Term) → AllCoefficients (Divides (pos 2)) ts → AllDivisible 2 ts
all_divisible [] h = tt
all_divisible (t ∷ ts) h = (h.0, all_divisible ts h.1)

pub halves : (ts us : List Term) → IsPolynomial us → ((a : ℕ → ℤ) → value_of a us ≡ pos 2 *ℤ value_of a ts) → AllDivisible 2 us
halves ts us p h = all_divisible us (divides_coefficients (pos 2) us p (λ a. (value_of a ts, *ℤ_comm (value_of a ts) (pos 2) ∙ sym (h a))))
