-- By the lemma of Overflowing.
use Rattle.dt_trees.proofs.Overflowing.{tests_overflow}
use Rattle.dt_trees.proofs.laws.overflowing.Goals as goal

pub returns : goal.returns
returns c = tests_overflow
