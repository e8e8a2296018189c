-- By the lemmas of Existing and Shaping.
use Rattle.hall_law.proofs.Existing.{base_table}
use Rattle.hall_law.proofs.Shaping.{base_shaped}
use Rattle.hall_law.proofs.laws.making.last.Goals as goal

pub returns-clause-table : goal.returns-clause-table
returns-clause-table c = base_table

pub returns-clause-shape : goal.returns-clause-shape
returns-clause-shape c = base_shaped
