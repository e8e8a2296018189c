use Rattle.integer.proofs.Laws.{add-mul}
use Rattle.integer.proofs.ring_laws.distributes.Goals as goal

pub returns : goal.returns
returns c = add-mul
