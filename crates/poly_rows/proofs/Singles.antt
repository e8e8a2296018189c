-- Monomials of one part, and polynomials of one term
use Rattle.std.proofs.Common.{◌≡◌, ℕ, ◌<◌, ◌≤◌, List, [], ◌∷◌, sym, subst, arith}
use lib.IntN.{pos}
use Rattle.binom_poly.specs.declared.part.Part.{Part}
use Rattle.binom_poly.specs.declared.term.Term.{Term}
use Rattle.binom_poly.specs.Monomial.{IsMonomial, IsMonomialAbove, IsVariable}
use Rattle.binom_poly.specs.Polynomial.{IsPolynomial, IsPolynomialFrom}

pub one_part : (ms : List Part) (v e : ℕ) → IsVariable v → 0 < v → 1 ≤ e → e ≤ 1000 → ms ≡ record { var = v; exp = e } ∷ [] → IsMonomial ms
unfolding IsMonomialAbove
one_part ms v e h l a b f = subst IsMonomial (sym f) (l, h, a, b, tt)

pub one_term : (ts : List Term) (ms : List Part) → IsMonomial ms → ts ≡ record { monomial = ms; coefficient = pos 1 } ∷ [] → IsPolynomial ts
unfolding IsPolynomial IsPolynomialFrom
one_term ts ms h f = subst IsPolynomial (sym f) record { monomial = h; not_zero = λ e. cc; within = omega arith }
