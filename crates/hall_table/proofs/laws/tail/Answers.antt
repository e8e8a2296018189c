use Rattle.hall_table.proofs.Entries.{entry-tail_of}
use Rattle.hall_table.proofs.laws.tail.Goals as goal

-- entry by entry
pub returns : goal.returns
returns c = entry-tail_of
