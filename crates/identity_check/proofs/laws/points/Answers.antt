use Rattle.identity_check.proofs.Apart.{fails_somewhere, holds_everywhere}
use Rattle.identity_check.proofs.laws.points.Goals as goal

-- sides in unique form are equal where their values are equal everywhere
pub returns-clause-fails : goal.returns-clause-fails
returns-clause-fails c = λ rels t id h o m. fails_somewhere rels t id h o m

pub returns-clause-holds : goal.returns-clause-holds
returns-clause-holds c = λ rels t id s o a. holds_everywhere rels t id s o a
