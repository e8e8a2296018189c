-- Each clause is a lemma of Examples.
use Rattle.hall_law.proofs.Examples.{heisenberg_product, first_is, second_is, bent_inconsistent}
use Rattle.hall_law.proofs.laws.instances.examples.Goals as goal

pub returns-clause-product : goal.returns-clause-product
returns-clause-product c = heisenberg_product

pub returns-clause-first : goal.returns-clause-first
returns-clause-first c = first_is

pub returns-clause-second : goal.returns-clause-second
returns-clause-second c = second_is

pub returns-clause-inconsistent : goal.returns-clause-inconsistent
returns-clause-inconsistent c = bent_inconsistent
