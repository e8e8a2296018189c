use Rattle.std.proofs.Common.{refl, ◌+◌}
use Rattle.hall_table.proofs.Following.{all_written}
use Rattle.hall_table.proofs.multiplying.write.Goals as goal

pub returns : goal.returns
returns c =
    all_written c.args.sums.now c.args.level c.args.last c.loop-k.out c.loop-k.k (c.args.last + 1) c.loop-k.invariant refl
    c.loop-k-test.false
