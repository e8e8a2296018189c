use Rattle.group_eval.proofs.Copies.{CopiedSoFar}
use Rattle.group_eval.proofs.copying.copy_into.Given as goal

abbrev pub invariant-loop-k : goal.invariant-loop-k
invariant-loop-k l = CopiedSoFar l.a l.n l.out l.k
