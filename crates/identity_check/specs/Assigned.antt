-- Lists of what is put in place of variables.
--   ArePolynomials list    each of it is a polynomial in unique form
use Rattle.std.specs.Prelude.{List, [], ◌∷◌}
use Rattle.binom_poly.specs.Polynomial.{IsPolynomial}
use Rattle.poly_subst.specs.declared.assign.Assign.{Assign}

abbrev pub ArePolynomials : List Assign → Type 0
ArePolynomials [] = Unit {0}
ArePolynomials (s ∷ ss) = IsPolynomial s.to × ArePolynomials ss
