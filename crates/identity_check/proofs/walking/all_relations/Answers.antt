use Rattle.std.proofs.Common.{◌≡◌, ◌-◌, suc, arith}
use Rattle.std.proofs.lemmas.Result.{err_from_is_err_and}
use Rattle.hall_table.specs.Tabled.{last_of}
use Rattle.identity_check.specs.Sides.{xs}
use Rattle.nil_pres.specs.Relations.{relations_of}
use Rattle.identity_check.specs.Events.{relation_events}
use Rattle.identity_check.proofs.Stretches.{halt_flat, none_flat, flat_ends}
use Rattle.identity_check.proofs.walking.all_relations.Goals as goal

pub returns-in_err-later_relations : goal.returns-in_err-later_relations
returns-in_err-later_relations c =
    let t = c.args.table.now in
    let p = err_from_is_err_and c.from_residual-in_err-later_relations.result c.from_residual-in_err-later_relations.ensures.1 in
    rw (p.1, p.2)
    (halt_flat (relations_of c.args.pres.now) t (relation_events (xs t) (last_of t)) t.level (suc (last_of t) - t.level) c.loop-j.j
    c.in_err-later_relations.field-0.0 (omega arith) (omega arith) c.loop-j.invariant.walked
    c.in_err-later_relations.ensures.walks)

pub loop-j-preserved : goal.loop-j-preserved
loop-j-preserved c =
    let t = c.args.table.now in
    record {
      rows = c.in_ok-later_relations.ensures.rows;
      zeros = c.in_ok-later_relations.ensures.zeros;
      walked = none_flat (relations_of c.args.pres.now) t (relation_events (xs t) (last_of t)) t.level c.loop-j.j (omega arith)
          c.loop-j.invariant.walked c.in_ok-later_relations.ensures.walks;
    }

pub returns : goal.returns
returns c =
    let t = c.args.table.now in
    let e : c.loop-j.j - t.level ≡ suc (last_of t) - t.level = omega arith in
    flat_ends (relations_of c.args.pres.now) t (relation_events (xs t) (last_of t)) c.loop-j.j e c.loop-j.invariant.walked
