use Rattle.std.proofs.Common.{◌≡◌, take}
use Rattle.hall_table.proofs.table.Table.copy.Given as goal

abbrev pub invariant-loop-poly : goal.invariant-loop-poly
invariant-loop-poly l = l.polys.items ≡ take l.poly-index l.poly-items
