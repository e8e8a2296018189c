use Rattle.std.proofs.Common.{◌≡◌, ◌-◌, ◌∙◌, suc, arith}
use Rattle.std.proofs.lemmas.Result.{err_from_is_err_and}
use Rattle.hall_table.specs.Tabled.{last_of}
use Rattle.identity_check.specs.Sides.{xs}
use Rattle.identity_check.specs.Events.{step_events}
use Rattle.identity_check.proofs.Stretches.{halt_flat, none_flat, flat_ends}
use Rattle.identity_check.proofs.walking.all_steps.Goals as goal

pub returns-in_err-step_pair : goal.returns-in_err-step_pair
returns-in_err-step_pair c = λ rels.
    let t = c.args.table.now in
    let p = err_from_is_err_and c.from_residual-in_err-step_pair.result c.from_residual-in_err-step_pair.ensures.1 in
    rw (p.1, p.2)
    (halt_flat rels t (step_events (xs t)) t.level (suc (last_of t) - t.level) c.loop-j.j
    c.in_err-step_pair.field-0.0 (omega arith) (omega arith) (c.loop-j.invariant.walked rels)
    (c.in_err-step_pair.ensures.walks rels))

pub loop-j-preserved : goal.loop-j-preserved
loop-j-preserved c =
    let t = c.args.table.now in
    record {
      kept = c.in_ok-step_pair.ensures.kept ∙ c.loop-j.invariant.kept;
      walked = λ rels. none_flat rels t (step_events (xs t)) t.level c.loop-j.j (omega arith)
          (c.loop-j.invariant.walked rels) (c.in_ok-step_pair.ensures.walks rels);
    }

pub returns : goal.returns
returns c = λ rels.
    let t = c.args.table.now in
    let e : c.loop-j.j - t.level ≡ suc (last_of t) - t.level = omega arith in
    flat_ends rels t (step_events (xs t)) c.loop-j.j e (c.loop-j.invariant.walked rels)
