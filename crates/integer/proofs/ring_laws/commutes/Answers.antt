use lib.IntN.{*ℤ_comm}
use Rattle.integer.proofs.ring_laws.commutes.Goals as goal

pub returns : goal.returns
returns c = *ℤ_comm
