use Rattle.sum_compiler.proofs.SumsSoFar.{SumsSoFar}
use Rattle.sum_compiler.proofs.summing.with_sums.Given as goal

abbrev pub invariant-loop-k : goal.invariant-loop-k
invariant-loop-k l =
    SumsSoFar l.step l.j l.table l.fn.steps.items l.fn.first.items l.k l.list.items
