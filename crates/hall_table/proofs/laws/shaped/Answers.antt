use Rattle.hall_table.proofs.Entries.{IsShaped-values}
use Rattle.hall_table.proofs.laws.shaped.Goals as goal

-- entry by entry
pub returns : goal.returns
returns c = IsShaped-values
