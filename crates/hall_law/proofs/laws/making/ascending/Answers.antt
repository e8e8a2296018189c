-- By the lemma of Ascending.
use Rattle.hall_law.proofs.Ascending.{factors_present}
use Rattle.hall_law.proofs.laws.making.ascending.Goals as goal

pub returns : goal.returns
returns c = factors_present
