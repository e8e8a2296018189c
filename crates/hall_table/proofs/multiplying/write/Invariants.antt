use Rattle.hall_table.proofs.Following.{WrittenSoFar}
use Rattle.hall_table.proofs.multiplying.write.Given as goal

abbrev pub invariant-loop-k : goal.invariant-loop-k
invariant-loop-k l = WrittenSoFar l.sums l.level l.last l.out l.k
