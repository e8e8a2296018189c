use Rattle.nil_pres.specs.Relations.{relations_of}
use Rattle.hall_table.specs.Values.{values}
use Rattle.hall_table.proofs.laws.group.Goals as goal

-- the values are a multiplication table of the presentation, and of such a table all of this holds
pub returns-clause-consistent : goal.returns-clause-consistent
returns-clause-consistent c = λ d lawful checked.
    c.uniqueness.ensures.consistent (relations_of d.pres) d.table.level (values d.table)
    (c.relations.ensures.presentation d.pres lawful) checked.multiplies

pub returns-clause-product : goal.returns-clause-product
returns-clause-product c = λ d lawful checked.
    c.uniqueness.ensures.product (relations_of d.pres) d.table.level (values d.table)
    (c.relations.ensures.presentation d.pres lawful) checked.multiplies

pub returns-clause-associative : goal.returns-clause-associative
returns-clause-associative c = λ d lawful checked.
    c.uniqueness.ensures.associative (relations_of d.pres) d.table.level (values d.table)
    (c.relations.ensures.presentation d.pres lawful) checked.multiplies

pub returns-clause-solution : goal.returns-clause-solution
returns-clause-solution c = λ d lawful checked.
    c.uniqueness.ensures.solution (relations_of d.pres) d.table.level (values d.table)
    (c.relations.ensures.presentation d.pres lawful) checked.multiplies
