use Rattle.hall_law.specs.Table.{zeros}
use Rattle.group_eval.proofs.Copies.{CopiedSoFar}
use Rattle.group_eval.proofs.copying.clear.Given as goal

abbrev pub invariant-loop-k : goal.invariant-loop-k
invariant-loop-k l = CopiedSoFar (zeros l.n) l.n l.out l.k
