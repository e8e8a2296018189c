-- Each clause is a lemma of Elements or Powers, by the laws of the table.
use Rattle.hall_law.specs.Elements.{ProductsAre, SolutionsAre, InversesAre, CommutatorsAre, ConjugatesAre}
use Rattle.hall_law.specs.Uniqueness.{LettersStand}
use Rattle.group_eval.proofs.Elements.{law_at, multiplied_is, solved_is, inverted_is, divided_is, commuted_is, conjugated_is, empty_is}
use Rattle.group_eval.proofs.Powers.{powered_is}
use Rattle.group_eval.proofs.laws.elements.Goals as goal

pub returns-clause-products : goal.returns-clause-products
returns-clause-products g = λ c lawful tabled checked.
    let presents = g.relations.ensures.presentation c.pres lawful in
    multiplied_is c tabled checked
    (law_at ProductsAre g.elements.ensures.products c presents checked)

pub returns-clause-solutions : goal.returns-clause-solutions
returns-clause-solutions g = λ c lawful tabled checked.
    let presents = g.relations.ensures.presentation c.pres lawful in
    solved_is c tabled checked
    (law_at SolutionsAre g.elements.ensures.solutions c presents checked)
    (g.shaped.ensures c.table tabled)

pub returns-clause-inverses : goal.returns-clause-inverses
returns-clause-inverses g = λ c lawful tabled checked.
    let presents = g.relations.ensures.presentation c.pres lawful in
    inverted_is c tabled checked
    (law_at InversesAre g.elements.ensures.inverses c presents checked)
    (g.shaped.ensures c.table tabled)

pub returns-clause-quotients : goal.returns-clause-quotients
returns-clause-quotients g = λ c lawful tabled checked.
    divided_is c tabled checked (returns-clause-products g c lawful tabled checked)
    (returns-clause-inverses g c lawful tabled checked)

pub returns-clause-powers : goal.returns-clause-powers
returns-clause-powers g = λ c lawful tabled checked.
    let presents = g.relations.ensures.presentation c.pres lawful in
    powered_is c (returns-clause-products g c lawful tabled checked)
    (empty_is c tabled checked
    (law_at LettersStand g.uniqueness.ensures.letters c presents checked))
    (returns-clause-inverses g c lawful tabled checked)

pub returns-clause-commutators : goal.returns-clause-commutators
returns-clause-commutators g = λ c lawful tabled checked.
    let presents = g.relations.ensures.presentation c.pres lawful in
    commuted_is c tabled checked
    (law_at CommutatorsAre g.elements.ensures.commutators c presents checked)
    (g.shaped.ensures c.table tabled)

pub returns-clause-conjugates : goal.returns-clause-conjugates
returns-clause-conjugates g = λ c lawful tabled checked.
    let presents = g.relations.ensures.presentation c.pres lawful in
    conjugated_is c tabled checked
    (law_at ConjugatesAre g.elements.ensures.conjugates c presents checked)
    (g.shaped.ensures c.table tabled)
