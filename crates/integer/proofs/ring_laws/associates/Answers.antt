use Rattle.integer.proofs.Laws.{mul_assoc_ℤ}
use Rattle.integer.proofs.ring_laws.associates.Goals as goal

pub returns : goal.returns
returns c = mul_assoc_ℤ
