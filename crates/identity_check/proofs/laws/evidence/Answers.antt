use Rattle.identity_check.proofs.Showing.{shows}
use Rattle.identity_check.proofs.laws.evidence.Goals as goal

-- the exponents of the least monomial are the values of the point
pub returns : goal.returns
returns c = λ rels t es f h. shows rels t es f h
