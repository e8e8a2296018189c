-- Each clause is a theorem of Theorems, or a lemma of ElementVectors.
use Rattle.hall_law.proofs.Theorems.{is_consistent, product_stands_for, associative, solution, one_table}
use Rattle.hall_law.proofs.ElementVectors.{letters_are}
use Rattle.hall_law.proofs.laws.tables.uniqueness.Goals as goal

pub returns-clause-consistent : goal.returns-clause-consistent
returns-clause-consistent c = λ rels level f p t. is_consistent rels level f p t

pub returns-clause-letters : goal.returns-clause-letters
returns-clause-letters c = λ rels level f p t. letters_are rels level f p t

pub returns-clause-product : goal.returns-clause-product
returns-clause-product c = λ rels level f p t. product_stands_for rels level f p t

pub returns-clause-associative : goal.returns-clause-associative
returns-clause-associative c = λ rels level f p t. associative rels level f p t

pub returns-clause-solution : goal.returns-clause-solution
returns-clause-solution c = λ rels level f p t. solution rels level f p t

pub returns-clause-one_table : goal.returns-clause-one_table
returns-clause-one_table c = λ rels level f p t g s. one_table rels level f g p t s
