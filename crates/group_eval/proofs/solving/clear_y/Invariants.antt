use Rattle.group_eval.proofs.Clearing.{ClearedSoFar}
use Rattle.group_eval.proofs.solving.clear_y.Given as goal

abbrev pub invariant-loop-k : goal.invariant-loop-k
invariant-loop-k l = ClearedSoFar l.table l.initial.rows l.rows l.k
