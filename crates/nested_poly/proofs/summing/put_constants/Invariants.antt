use Rattle.nested_poly.proofs.Starting.{BegunSoFar}
use Rattle.nested_poly.proofs.summing.put_constants.Given as goal

abbrev pub invariant-loop-place : goal.invariant-loop-place
invariant-loop-place l = BegunSoFar l.trees l.sums l.place
