use Rattle.nested_poly.proofs.Gathering.{IndexSoFar}
use Rattle.nested_poly.proofs.indexing.index.Given as goal

abbrev pub invariant-loop-place : goal.invariant-loop-place
invariant-loop-place l = IndexSoFar l.trees l.groups.items l.place
