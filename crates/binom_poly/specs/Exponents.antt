-- The greatest exponents of a variable.
--   greatest v p       the greatest in a polynomial, and 0 where v does not occur
--   greatest_in v ps   the greatest in a list of polynomials, and 0 where v does not occur
-- v variable · p polynomial · ps polynomials · t term
use Rattle.std.specs.Prelude.{ℕ, List, [], ◌∷◌, max}
use Rattle.binom_poly.specs.declared.term.Term.{Term}
use Rattle.binom_poly.specs.Monomial.{exponent_of}

unfoldable pub greatest : ℕ → List Term → ℕ
greatest v [] = 0
greatest v (t ∷ ts) = max (exponent_of t.monomial v) (greatest v ts)

unfoldable pub greatest_in : ℕ → List (List Term) → ℕ
greatest_in v [] = 0
greatest_in v (p ∷ ps) = max (greatest v p) (greatest_in v ps)
