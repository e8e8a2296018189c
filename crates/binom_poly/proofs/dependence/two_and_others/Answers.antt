use Rattle.binom_poly.proofs.Separating.{two_and_tested}
use Rattle.binom_poly.proofs.dependence.two_and_others.Goals as goal

pub returns : goal.returns
returns c = two_and_tested
