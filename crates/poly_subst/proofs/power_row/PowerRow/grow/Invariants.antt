use Rattle.std.proofs.Common.{◌≡◌, length}
use Rattle.poly_subst.specs.Rows.{IsRow}
use Rattle.poly_subst.proofs.power_row.PowerRow.grow.Given as goal

abbrev pub invariant-loop-m : goal.invariant-loop-m
invariant-loop-m l = IsRow l.q l.self-inside.entries.items × (length l.self-inside.entries.items ≡ l.m)
