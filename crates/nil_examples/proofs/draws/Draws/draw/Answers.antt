use Rattle.std.proofs.Common.{refl}
use Rattle.nil_examples.specs.Draws.{next}
use Rattle.nil_examples.proofs.draws.Draws.draw.Goals as goal

pub returns-clause-value : goal.returns-clause-value
unfolding next
returns-clause-value c = refl

pub returns-clause-state : goal.returns-clause-state
unfolding next
returns-clause-state c = refl
