use Rattle.std.proofs.lemmas.Result.{err_from_is_err_and}
use Rattle.identity_check.specs.declared.identity.Identity.TheVariants.{StepUp, StepDown}
use Rattle.identity_check.specs.Sides.{xs}
use Rattle.identity_check.specs.Events.{signed_events}
use Rattle.identity_check.proofs.Halting.{halt_sooner, later_walk}
use Rattle.identity_check.proofs.walking.step_pair.Goals as goal

pub returns-in_err-steps-clause-walks : goal.returns-in_err-steps-clause-walks
returns-in_err-steps-clause-walks c = λ rels.
    let t = c.args.table.now in
    let p = err_from_is_err_and c.from_residual.result c.from_residual.ensures.1 in
    rw (p.1, p.2)
    (halt_sooner rels t (signed_events StepUp (xs t) c.args.j)
    (signed_events StepDown (xs t) c.args.j) c.in_err-steps.field-0.0
    (c.in_err-steps.ensures.walks rels))

pub returns-clause-walks : goal.returns-clause-walks
returns-clause-walks c = λ rels.
    let t = c.args.table.now in
    later_walk rels t (signed_events StepUp (xs t) c.args.j)
    (signed_events StepDown (xs t) c.args.j) c.steps-2.result
    (c.in_ok-steps.ensures.walks rels) (c.steps-2.ensures.walks rels)
