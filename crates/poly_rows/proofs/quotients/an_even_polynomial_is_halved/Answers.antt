use Rattle.std.proofs.Common.{subst}
use Rattle.binom_poly.specs.Polynomial.{IsPolynomial}
use Rattle.poly_rows.proofs.Halves.{halves}
use Rattle.poly_rows.proofs.quotients.an_even_polynomial_is_halved.Goals as goal

pub divide_exact-requires-clause-divisible : goal.divide_exact-requires-clause-divisible
divide_exact-requires-clause-divisible g c = halves c.in_ok-square.square c.in_ok-even.even (subst IsPolynomial c.even.view_is c.even.invariant) c.in_ok-even.ensures.value
