use Rattle.std.proofs.Common.{◌≡◌, [], replicate}
use Rattle.sum_compiler.proofs.images.zeros.Given as goal

abbrev pub invariant-loop : goal.invariant-loop
invariant-loop l = l.polys.items ≡ replicate l.counter []
