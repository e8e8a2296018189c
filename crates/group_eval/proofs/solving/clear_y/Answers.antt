use Rattle.std.proofs.Common.{arith}
use Rattle.hall_table.proofs.Covering.{y_positive}
use Rattle.group_eval.proofs.Clearing.{cleared_more}
use Rattle.group_eval.proofs.solving.clear_y.Goals as goal

-- the value is 0, put or refused
pub loop-k-preserved : goal.loop-k-preserved
loop-k-preserved c =
    cleared_more c.loop-k.invariant
    (y_positive c.args.table.now c.loop-k.rows c.loop-k.k c.loop-k.invariant.placed (omega arith)
    (omega arith))
    c.set_y.result c.set_y.new.rows c.set_y.ensures.ok c.set_y.ensures.err
