use Rattle.std.proofs.Common.{take}
use Rattle.binom_poly.specs.Readings.{value_at}
use Rattle.nested_poly.proofs.Totals.{RootsSoFar}
use Rattle.nested_poly.proofs.summing.add_roots.Given as goal

abbrev pub invariant-loop-root : goal.invariant-loop-root
invariant-loop-root l = RootsSoFar (value_at l.rows) l.trees l.initial.sums l.sums (take l.root-index l.roots)
