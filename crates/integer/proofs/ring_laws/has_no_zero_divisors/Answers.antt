use Rattle.integer.proofs.Laws.{zero_factor}
use Rattle.integer.proofs.ring_laws.has_no_zero_divisors.Goals as goal

pub returns : goal.returns
returns c = zero_factor
