use Rattle.std.proofs.Common.{arith}
use Rattle.table_json.proofs.Made.{parts_more}
use Rattle.table_json.proofs.writing.put_parts.Goals as goal

pub loop-part-preserved : goal.loop-part-preserved
loop-part-preserved c =
    parts_more _ _ _ c.args.parts.now c.loop-part.part-index _ (omega arith) c.loop-part.invariant
    c.in_ok-put_part.ensures
