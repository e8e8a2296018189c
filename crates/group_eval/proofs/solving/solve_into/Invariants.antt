use Rattle.group_eval.proofs.Following.{SolvedSoFar}
use Rattle.group_eval.proofs.solving.solve_into.Given as goal

abbrev pub invariant-loop-k : goal.invariant-loop-k
invariant-loop-k l = SolvedSoFar l.table l.a l.b l.x l.rows l.k
