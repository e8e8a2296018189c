-- Each clause is a lemma of ElementVectors.
use Rattle.hall_law.proofs.ElementVectors.{products_are, solutions_are, inverses_are, conjugates_are, commutators_are, generators_are, powers_are}
use Rattle.hall_law.proofs.laws.tables.elements.Goals as goal

pub returns-clause-products : goal.returns-clause-products
returns-clause-products c = λ rels level f p t. products_are rels level f p t

pub returns-clause-solutions : goal.returns-clause-solutions
returns-clause-solutions c = λ rels level f p t. solutions_are rels level f p t

pub returns-clause-inverses : goal.returns-clause-inverses
returns-clause-inverses c = λ rels level f p t. inverses_are rels level f p t

pub returns-clause-conjugates : goal.returns-clause-conjugates
returns-clause-conjugates c = λ rels level f p t. conjugates_are rels level f p t

pub returns-clause-commutators : goal.returns-clause-commutators
returns-clause-commutators c = λ rels level f p t. commutators_are rels level f p t

pub returns-clause-generators : goal.returns-clause-generators
returns-clause-generators c = λ rels level f p t. generators_are rels level f p t

pub returns-clause-powers : goal.returns-clause-powers
returns-clause-powers c = λ rels level f p t. powers_are rels level f p t
