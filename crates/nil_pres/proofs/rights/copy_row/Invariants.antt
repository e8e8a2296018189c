use Rattle.std.proofs.Common.{◌≡◌, take}
use Rattle.nil_pres.specs.Views.{row_of}
use Rattle.nil_pres.proofs.rights.copy_row.Given as goal

abbrev pub invariant-loop-entry : goal.invariant-loop-entry
invariant-loop-entry l = row_of l.copy ≡ take l.entry-index (row_of l.row)
