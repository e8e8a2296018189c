-- By the lemma of QuadraticTable.
use Rattle.hall_law.proofs.QuadraticTable.{quadratic_table}
use Rattle.hall_law.proofs.laws.making.central.Goals as goal

pub returns : goal.returns
returns c = quadratic_table
