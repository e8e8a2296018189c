-- By the lemma of Giving.
use Rattle.tree_propose.proofs.Giving.{given}
use Rattle.tree_propose.proofs.laws.giving.Goals as goal

pub returns : goal.returns
returns c = given
