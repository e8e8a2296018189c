-- By the lemma of Existing.
use Rattle.hall_law.proofs.Existing.{table_exists}
use Rattle.hall_law.proofs.laws.plans.tables_exist.Goals as goal

pub returns : goal.returns
returns c = table_exists
