use Rattle.std.proofs.Common.{ℕ, Ok, Err, OnOk, Result, inr}
use Rattle.nil_word.specs.Congruence.{Relations}
use Rattle.hall_table.specs.Tabled.{Tabled}
use Rattle.identity_check.specs.declared.identity.Identity.TheVariants.{StepUp}
use Rattle.identity_check.specs.declared.halt.Halt.{Halt}
use Rattle.identity_check.specs.Sides.{xs}
use Rattle.identity_check.specs.Events.{signed_events}
use Rattle.identity_check.specs.Few.{Steps}
use Rattle.identity_check.specs.Halts.{Walks}
use Rattle.identity_check.proofs.few.step_up.Goals as goal

stepped : (t : Tabled) (j : ℕ) (r : Result (Unit {0}) Halt)
    → Walks t (signed_events StepUp (xs t) j) r → OnOk r ((rels : Relations) → Steps rels t j)
stepped t j (Ok x) w = λ rels. inr (w rels)
stepped t j (Err h) w = tt

pub returns-clause-steps : goal.returns-clause-steps
returns-clause-steps c =
    stepped c.args.table.now c.args.j c.steps.result c.steps.ensures.walks
