use Rattle.std.proofs.Common.{◌≡◌, map, take}
use Rattle.hall_table.specs.Tail.{from_level}
use Rattle.hall_table.proofs.table.Table.tail.Given as goal

abbrev pub invariant-loop-poly : goal.invariant-loop-poly
invariant-loop-poly l = l.polys.items ≡ map (from_level l.level) (take l.poly-index l.poly-items)
