use Rattle.std.proofs.Common.{◌-◌, suc, arith}
use Rattle.std.proofs.lemmas.Result.{err_from_is_err_and}
use Rattle.hall_table.specs.Tabled.{last_of}
use Rattle.identity_check.specs.Sides.{xs}
use Rattle.nil_pres.specs.Relations.{relations_of}
use Rattle.identity_check.specs.declared.identity.Identity.TheVariants.{Relation}
use Rattle.identity_check.specs.Events.{at_each}
use Rattle.identity_check.specs.Events.Event.{tries}
use Rattle.identity_check.proofs.Stretches.{halt_flat, none_flat}
use Rattle.identity_check.proofs.walking.later_relations.Goals as goal

pub returns-in_err-relations-clause-walks : goal.returns-in_err-relations-clause-walks
returns-in_err-relations-clause-walks c =
    let t = c.args.table.now in
    let p = err_from_is_err_and c.from_residual.result c.from_residual.ensures.1 in
    rw (p.1, p.2)
    (halt_flat (relations_of c.args.pres.now) t (λ m. at_each (xs t) (λ k. tries (Relation c.args.j m k))) (suc c.args.j) (suc (last_of t) - suc c.args.j) c.loop-l.l
    c.in_err-relations.field-0.0 (omega arith) (omega arith) c.loop-l.invariant.walked
    c.in_err-relations.ensures.walks)

pub loop-l-preserved : goal.loop-l-preserved
loop-l-preserved c =
    let t = c.args.table.now in
    record {
      rows = c.in_ok-relations.ensures.rows;
      zeros = c.in_ok-relations.ensures.zeros;
      walked = none_flat (relations_of c.args.pres.now) t (λ m. at_each (xs t) (λ k. tries (Relation c.args.j m k))) (suc c.args.j) c.loop-l.l (omega arith)
          c.loop-l.invariant.walked c.in_ok-relations.ensures.walks;
    }
