use Rattle.std.proofs.Common.{take}
use Rattle.nested_poly.proofs.Splitting.{SplitSoFar}
use Rattle.nested_poly.proofs.split.Split.of.Given as goal

abbrev pub invariant-loop-tail : goal.invariant-loop-tail
invariant-loop-tail l = SplitSoFar l.split l.first (take l.tail-index l.rest)
