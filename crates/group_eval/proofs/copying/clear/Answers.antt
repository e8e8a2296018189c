use Rattle.std.proofs.lemmas.List.{length-replicate}
use lib.IntN.{pos}
use Rattle.group_eval.proofs.Copies.{all_copied}
use Rattle.group_eval.proofs.copying.clear.Goals as goal

pub returns : goal.returns
returns c =
    all_copied c.loop-k.invariant c.loop-k-test.false (length-replicate c.args.n (pos 0))
