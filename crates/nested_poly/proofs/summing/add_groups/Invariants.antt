use Rattle.std.proofs.Common.{take}
use Rattle.binom_poly.specs.Readings.{value_at}
use Rattle.nested_poly.proofs.Grouping.{GroupsSoFar}
use Rattle.nested_poly.proofs.summing.add_groups.Given as goal

abbrev pub invariant-loop-group : goal.invariant-loop-group
invariant-loop-group l = GroupsSoFar (value_at l.rows) l.trees l.initial.sums l.sums (take l.group-index l.groups)
