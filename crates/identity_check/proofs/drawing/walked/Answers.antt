use Rattle.std.proofs.Common.{◌∙◌, ◌+◌, slice_index_or, slice_set, true, ap, sym, subst, arith}
use Rattle.nil_pres.specs.Relations.{relations_of}
use Rattle.identity_check.proofs.Marks.{IsStarted, IsWalked, walk_starts, started_on, started_more, walk_begins, walked_on, passed_by, walk_ends}
use Rattle.identity_check.proofs.drawing.walked.Goals.{then-not-marks-k+in_ok-push-2, else-not-marks-k}
use Rattle.identity_check.proofs.drawing.walked.Goals as goal

pub loop-m-init : goal.loop-m-init
loop-m-init c =
    walk_starts (relations_of c.args.pres.now) c.args.level c.new-walked.result.items
    c.new-walked.ensures.items

pub loop-m-preserved : goal.loop-m-preserved
loop-m-preserved c =
    let rels = relations_of c.args.pres.now in
    let m = slice_index_or c.args.known.now c.loop-m.m-index 0 in
    let within = c.requires.known c.loop-m.m-index 0 c.loop-m-test.true in
    subst (λ ms. IsStarted rels c.args.level ms (slice_set c.loop-m.marks m true))
    (sym c.in_ok-push.ensures.items)
    (started_on rels c.args.level c.loop-m.walked.items c.loop-m.marks m within.0 within.1
    c.loop-m.invariant)

pub loop-k-init : goal.loop-k-init
loop-k-init c =
    let rels = relations_of c.args.pres.now in
    walk_begins rels c.args.level c.loop-m.walked.items c.draw_all.new.marks
    (started_more rels c.args.level c.loop-m.walked.items c.loop-m.marks c.draw_all.new.marks
    c.draw_all.auto.marks c.draw_all.ensures c.loop-m.invariant)

pub loop-k-preserved : goal.loop-k-preserved
loop-k-preserved c =
    let rels = relations_of c.args.pres.now in
    let k = c.loop-k.k in
    elim c.if-not-marks-k.branch [
      | then-not-marks-k+in_ok-push-2 w ↦
          subst (λ marks. IsWalked rels c.args.level c.if-not-marks-k.walked.items marks (k + 1))
          (sym w.marks-is)
          (subst (λ ms. IsWalked rels c.args.level ms w.draw_all-then-not-marks-k.new.marks (k + 1))
          (sym (ap (λ v. v.items) w.walked-is ∙ w.in_ok-push-2.ensures.items))
          (walked_on rels c.args.level c.loop-k.walked.items c.loop-k.marks w.draw_all-then-not-marks-k.new.marks k
          (omega arith) (omega arith) w.draw_all-then-not-marks-k.auto.marks w.draw_all-then-not-marks-k.ensures c.loop-k.invariant))
      | else-not-marks-k w ↦
          subst (λ marks. IsWalked rels c.args.level c.if-not-marks-k.walked.items marks (k + 1))
          (sym w.marks-is)
          (subst (λ ms. IsWalked rels c.args.level ms c.loop-k.marks (k + 1))
          (sym (ap (λ v. v.items) w.walked-is))
          (passed_by rels c.args.level c.loop-k.walked.items c.loop-k.marks k
          w.if-not-marks-k.false c.loop-k.invariant))
    ]

pub returns-clause-enough : goal.returns-clause-enough
returns-clause-enough c =
    walk_ends (relations_of c.args.pres.now) c.args.level c.loop-k.walked.items c.loop-k.marks
    c.loop-k.k (omega arith) c.loop-k.invariant

pub returns-clause-generators : goal.returns-clause-generators
returns-clause-generators c = c.loop-k.invariant.started.within
