use Rattle.std.proofs.Common.{◌≡◌, ◌-◌, [], ◌∷◌, suc, arith}
use Rattle.std.proofs.lemmas.Result.{err_from_is_err_and}
use Rattle.nil_pres.specs.Relations.{relations_of}
use Rattle.hall_table.specs.Tabled.{last_of}
use Rattle.identity_check.specs.declared.identity.Identity.TheVariants.{Relation}
use Rattle.identity_check.specs.Events.Event.{tries}
use Rattle.identity_check.proofs.Stretches.{halt_each, none_each, each_ends}
use Rattle.identity_check.proofs.Halting.{NoneOf}
use Rattle.identity_check.proofs.Meetings.{none_met}
use Rattle.identity_check.proofs.pairs.relations.Goals.{then-not-told+in_ok-relation, else-not-told+else-not-is_bare}
use Rattle.identity_check.proofs.pairs.relations.Goals as goal

pub returns-in_err-relation-clause-walks : goal.returns-in_err-relation-clause-walks
returns-in_err-relation-clause-walks c =
    let t = c.args.table.now in
    let p = err_from_is_err_and c.from_residual.result
    c.from_residual.ensures.1 in
    rw (p.1, p.2)
    (halt_each (relations_of c.args.pres.now) t (λ k. tries (Relation c.args.j c.args.l k)) t.level
    (suc (last_of t) - t.level) c.loop-k.k c.in_err-relation.field-0.0 (omega arith) (omega arith)
    c.loop-k.invariant.walked c.in_err-relation.ensures)

pub loop-k-preserved : goal.loop-k-preserved
loop-k-preserved c =
    let t = c.args.table.now in
    let rels = relations_of c.args.pres.now in
    let one : NoneOf rels t (tries (Relation c.args.j c.args.l c.loop-k.k) ∷ []) =
    elim c.if-not-told.branch [
      | then-not-told+in_ok-relation w ↦ w.in_ok-relation.ensures
      | else-not-told+else-not-is_bare w ↦
          none_met rels t c.args.j c.args.l c.loop-k.k _ c.last-k-end.ensures.form
          record { low = omega arith; high = omega arith } record { low = omega arith; high = omega arith }
          record { low = omega arith; high = omega arith } c.requires.below c.loop-k.invariant.put
          (c.requires.told w.if-not-told.false) (w.is_bare.ensures w.if-not-is_bare.false)
    ] in
    record {
      rows = c.loop-k.invariant.rows;
      put = c.loop-k.invariant.put;
      others = c.loop-k.invariant.others;
      walked = none_each rels t (λ k. tries (Relation c.args.j c.args.l k)) t.level c.loop-k.k (omega arith)
          c.loop-k.invariant.walked one;
    }

pub returns-clause-walks : goal.returns-clause-walks
returns-clause-walks c =
    let t = c.args.table.now in
    let e : c.loop-k.k - t.level ≡ suc (last_of t) - t.level = omega arith in
    each_ends (relations_of c.args.pres.now) t (λ k. tries (Relation c.args.j c.args.l k)) c.loop-k.k e
    c.loop-k.invariant.walked
