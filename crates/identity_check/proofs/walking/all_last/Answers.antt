use Rattle.std.proofs.Common.{◌≡◌, ◌-◌, suc, arith}
use Rattle.std.proofs.lemmas.Result.{err_from_is_err_and}
use Rattle.hall_table.specs.Tabled.{last_of}
use Rattle.identity_check.specs.Sides.{xs}
use Rattle.identity_check.specs.Events.{last_events}
use Rattle.identity_check.proofs.Stretches.{halt_flat, none_flat, flat_ends}
use Rattle.identity_check.proofs.walking.all_last.Goals as goal

pub returns-in_err-last_pair : goal.returns-in_err-last_pair
returns-in_err-last_pair c = λ rels.
    let t = c.args.table.now in
    let p = err_from_is_err_and c.from_residual.result c.from_residual.ensures.1 in
    rw (p.1, p.2)
    (halt_flat rels t (last_events (xs t)) t.level (suc (last_of t) - t.level) c.loop-j.j
    c.in_err-last_pair.field-0.0 (omega arith) (omega arith) (c.loop-j.invariant rels)
    (c.in_err-last_pair.ensures rels))

pub loop-j-preserved : goal.loop-j-preserved
loop-j-preserved c = λ rels.
    let t = c.args.table.now in
    none_flat rels t (last_events (xs t)) t.level c.loop-j.j (omega arith)
    (c.loop-j.invariant rels) (c.in_ok-last_pair.ensures rels)

pub returns : goal.returns
returns c = λ rels.
    let t = c.args.table.now in
    let e : c.loop-j.j - t.level ≡ suc (last_of t) - t.level = omega arith in
    flat_ends rels t (last_events (xs t)) c.loop-j.j e (c.loop-j.invariant rels)
