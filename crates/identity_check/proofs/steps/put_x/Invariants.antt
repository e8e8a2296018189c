use Rattle.std.proofs.Common.{◌≡◌, ◌-◌}
use Rattle.poly_subst.specs.Walk.{in_x}
use Rattle.hall_table.specs.Tabled.{poly_at}
use Rattle.identity_check.proofs.steps.put_x.Given as goal

abbrev pub invariant-loop-k : goal.invariant-loop-k
invariant-loop-k l = l.list.items ≡ in_x l.table.level (l.k - l.table.level) (poly_at l.table)
