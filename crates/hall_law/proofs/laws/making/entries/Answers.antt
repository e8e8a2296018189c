-- Each clause is a lemma of Grading.
use Rattle.hall_law.proofs.Grading.{IsClosed-from_entries, entry-from_entries}
use Rattle.hall_law.proofs.laws.making.entries.Goals as goal

pub returns-clause-closed : goal.returns-clause-closed
returns-clause-closed c = IsClosed-from_entries

pub returns-clause-entry : goal.returns-clause-entry
returns-clause-entry c = entry-from_entries
