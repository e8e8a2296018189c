use Rattle.group_eval.proofs.Copies.{all_copied}
use Rattle.group_eval.proofs.copying.copy_into.Goals as goal

pub returns : goal.returns
returns c = all_copied c.loop-k.invariant c.loop-k-test.false c.requires.from
