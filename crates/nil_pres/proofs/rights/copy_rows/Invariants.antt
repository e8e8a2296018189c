use Rattle.std.proofs.Common.{◌≡◌, take}
use Rattle.nil_pres.specs.Views.{rows_of}
use Rattle.nil_pres.proofs.rights.copy_rows.Given as goal

abbrev pub invariant-loop-row : goal.invariant-loop-row
invariant-loop-row l = rows_of l.copy ≡ take l.row-index (rows_of l.rows)
