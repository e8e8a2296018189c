use Rattle.std.proofs.Common.{◌≡◌, take}
use Rattle.sum_compiler.proofs.images.copies.Given as goal

abbrev pub invariant-loop-poly : goal.invariant-loop-poly
invariant-loop-poly l = l.copied.items ≡ take l.poly-index l.polys
