-- Each clause is a lemma of Existing, or of ElementVectors.
use Rattle.hall_law.proofs.Existing.{powers, are_powers, images, are_images}
use Rattle.hall_law.proofs.ElementVectors.{powers_agree}
use Rattle.hall_law.proofs.laws.plans.powers_exist.Goals as goal

pub returns-clause-powers : goal.returns-clause-powers
returns-clause-powers c = λ rels level f p t. (
  powers rels level f p t,
  are_powers rels level f p t,
)

pub returns-clause-one : goal.returns-clause-one
returns-clause-one c = λ rels level f p t. powers_agree rels level f p t

pub returns-clause-images : goal.returns-clause-images
returns-clause-images c = λ rels factors i f Q ready agree. (
  images rels factors i f Q ready agree,
  are_images rels factors i f Q ready agree,
)
