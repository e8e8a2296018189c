use Rattle.hall_table.proofs.Following.{PutSoFar}
use Rattle.hall_table.proofs.table.Table.put_x.Given as goal

abbrev pub invariant-loop-k : goal.invariant-loop-k
invariant-loop-k l = PutSoFar l.self (λ j. j) l.a l.rows l.k
