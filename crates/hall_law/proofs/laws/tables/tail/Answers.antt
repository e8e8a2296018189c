-- Each clause is a lemma of Grading.
use Rattle.hall_law.proofs.Grading.{graded, tail, tail_power}
use Rattle.hall_law.proofs.laws.tables.tail.Goals as goal

pub returns-clause-graded : goal.returns-clause-graded
returns-clause-graded c = λ rels level f p t m low high. graded rels level f p t m low high

pub returns-clause-table : goal.returns-clause-table
returns-clause-table c = λ rels level f p t m low high. tail rels level f p t m low high

pub returns-clause-power : goal.returns-clause-power
returns-clause-power c = λ rels level f p t m low high. tail_power rels level f p t m low high
