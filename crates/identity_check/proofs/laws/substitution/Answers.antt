use Rattle.identity_check.proofs.Substituted.{is_substituted}
use Rattle.identity_check.proofs.laws.substitution.Goals as goal

-- term by term, each product from the left
pub returns-clause-form : goal.returns-clause-form
returns-clause-form c = λ p list h f n. (is_substituted p list h f n).form

pub returns-clause-value : goal.returns-clause-value
returns-clause-value c = λ p list h f n. (is_substituted p list h f n).value
