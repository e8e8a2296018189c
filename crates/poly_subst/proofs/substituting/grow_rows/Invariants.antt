use Rattle.std.proofs.Common.{take}
use Rattle.poly_subst.specs.Substitute.{RowsOverflow}
use Rattle.poly_subst.specs.Rows.{AllRows, AllReach}
use Rattle.poly_subst.proofs.substituting.grow_rows.Given as goal

abbrev pub invariant-loop-place : goal.invariant-loop-place
invariant-loop-place l = record {
  rows : AllRows l.list l.rows;
  reach : AllReach l.p (take l.place l.list) (take l.place l.rows);
  fits : RowsOverflow l.p (take l.place l.list) → ⊥;
}
