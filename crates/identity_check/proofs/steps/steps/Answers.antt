use Rattle.std.proofs.Common.{◌≡◌, ◌-◌, ◌∙◌, suc, ap, arith}
use Rattle.std.proofs.lemmas.Result.{err_from_is_err_and}
use Rattle.hall_table.specs.Tabled.{last_of}
use Rattle.identity_check.specs.Sides.{xs}
use Rattle.identity_check.specs.Signs.{step_id}
use Rattle.identity_check.specs.Events.{at_each}
use Rattle.identity_check.specs.Events.Event.{makes, tries}
use Rattle.identity_check.proofs.Halting.{halt_sooner, halt_later}
use Rattle.identity_check.proofs.Stretches.{halt_each, none_each, each_ends}
use Rattle.identity_check.proofs.MadeSteps.{both_walked}
use Rattle.identity_check.proofs.steps.steps.Goals as goal

pub returns-in_err-made-clause-walks : goal.returns-in_err-made-clause-walks
returns-in_err-made-clause-walks c = λ rels.
    let t = c.args.table.now in
    let p = err_from_is_err_and c.from_residual.result c.from_residual.ensures.1 in
    rw (p.1, p.2)
    (halt_sooner rels t (at_each (xs t) (λ k. makes (step_id c.args.up c.args.j k)))
    (at_each (xs t) (λ k. tries (step_id c.args.up c.args.j k))) c.in_err-made.field-0.0
    (c.in_err-made.ensures.walks rels))

pub returns-in_err-step-clause-walks : goal.returns-in_err-step-clause-walks
returns-in_err-step-clause-walks c = λ rels.
    let t = c.args.table.now in
    let p = err_from_is_err_and c.from_residual-in_err-step.result
    c.from_residual-in_err-step.ensures.1 in
    rw (p.1, p.2)
    (halt_later rels t (at_each (xs t) (λ k. makes (step_id c.args.up c.args.j k)))
    (at_each (xs t) (λ k. tries (step_id c.args.up c.args.j k))) c.in_err-step.field-0.0
    (c.in_ok-made.ensures.walks rels)
    (halt_each rels t (λ k. tries (step_id c.args.up c.args.j k)) t.level (suc (last_of t) - t.level)
    c.loop-k.k c.in_err-step.field-0.0 (omega arith) (omega arith) (c.loop-k.invariant.walked rels)
    (c.in_err-step.ensures.walks rels)))

pub loop-k-preserved : goal.loop-k-preserved
loop-k-preserved c = record {
  kept = c.in_ok-step.ensures.kept ∙ c.loop-k.invariant.kept;
  polys = ap (λ ps. ps.items) c.in_ok-step.ensures.polys_kept ∙ c.loop-k.invariant.polys;
  in_y = c.in_ok-step.ensures.in_y_kept ∙ c.loop-k.invariant.in_y;
  walked = λ rels.
      none_each rels c.args.table.now (λ k. tries (step_id c.args.up c.args.j k))
      c.args.table.now.level c.loop-k.k (omega arith) (c.loop-k.invariant.walked rels)
      (c.in_ok-step.ensures.walks rels);
}

pub returns-clause-walks : goal.returns-clause-walks
returns-clause-walks c = λ rels.
    let t = c.args.table.now in
    let e : c.loop-k.k - t.level ≡ suc (last_of t) - t.level = omega arith in
    both_walked rels t (at_each (xs t) (λ k. makes (step_id c.args.up c.args.j k)))
    (at_each (xs t) (λ k. tries (step_id c.args.up c.args.j k))) (c.in_ok-made.ensures.walks rels)
    (each_ends rels t (λ k. tries (step_id c.args.up c.args.j k)) c.loop-k.k e (c.loop-k.invariant.walked rels))
