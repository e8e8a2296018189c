use Rattle.hall_table.proofs.Widths.{TopsSoFar}
use Rattle.hall_table.proofs.table.Table.rows.Given as goal

abbrev pub invariant-loop-k : goal.invariant-loop-k
invariant-loop-k l = TopsSoFar l.self l.k l.tops.items
