-- By the law of ascending factors.
use Rattle.std.proofs.Common.{refl}
use Rattle.nil_pres.specs.Relations.{between, relations_of}
use Rattle.hall_table.proofs.Factoring.{ascends}
use Rattle.hall_table.proofs.presentations.relations.Goals as goal

pub returns-clause-presentation : goal.returns-clause-presentation
returns-clause-presentation c = λ p h. (c.ascending.ensures (relations_of p) (between p) (λ j l a b d. (refl, ascends p h j l a b d))).0

pub returns-clause-factored : goal.returns-clause-factored
returns-clause-factored c = λ p h. (c.ascending.ensures (relations_of p) (between p) (λ j l a b d. (refl, ascends p h j l a b d))).1
