use Rattle.binom_poly.proofs.Depending.{variable_absent, variables_tested}
use Rattle.binom_poly.proofs.dependence.variables_held.Goals as goal

pub returns : goal.returns
returns c = record { one = variable_absent; some = variables_tested }
