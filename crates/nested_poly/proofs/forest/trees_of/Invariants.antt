use Rattle.std.proofs.Common.{take}
use Rattle.nested_poly.proofs.Forests.{TreesSoFar}
use Rattle.nested_poly.proofs.forest.trees_of.Given as goal

abbrev pub invariant-loop-poly : goal.invariant-loop-poly
invariant-loop-poly l = TreesSoFar l.trees.items (take l.poly-index l.polys)
