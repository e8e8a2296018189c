-- By the lemma of Shaping.
use Rattle.hall_law.proofs.Shaping.{summed_shaped}
use Rattle.hall_law.proofs.laws.plans.shaped.Goals as goal

pub returns : goal.returns
returns c = summed_shaped
