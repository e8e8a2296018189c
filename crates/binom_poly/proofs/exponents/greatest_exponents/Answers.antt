use Rattle.std.proofs.Common.{arith}
use Rattle.binom_poly.proofs.Greatest.{zeros}
use Rattle.binom_poly.proofs.exponents.greatest_exponents.Goals as goal

pub returns-clause-greatest : goal.returns-clause-greatest
returns-clause-greatest c = λ v. omega (arith, c.raise_to_all.ensures.raised v, zeros 201 v)
