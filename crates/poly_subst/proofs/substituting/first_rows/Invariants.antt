use Rattle.std.proofs.Common.{take}
use Rattle.poly_subst.specs.Rows.{AllRows}
use Rattle.poly_subst.proofs.substituting.first_rows.Given as goal

abbrev pub invariant-loop-assign : goal.invariant-loop-assign
invariant-loop-assign l = AllRows (take l._assign-index l.list) l.rows.items
