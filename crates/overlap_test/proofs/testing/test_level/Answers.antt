use Rattle.std.proofs.Common.{◌<◌, ◌∙◌, suc, length, sym, ap, subst, arith}
use Rattle.nil_pres.specs.Presented.{Presented, IsPresented}
use Rattle.nil_pres.specs.Relations.{relations_of}
use Rattle.hall_table.specs.Agreement.{HaveEqualWays}
use Rattle.hall_table.specs.Tabled.{IsTabled}
use Rattle.overlap_test.specs.declared.level_result.LevelResult.{LevelResult}
use Rattle.overlap_test.specs.Inconsistent.{ShowsInconsistent}
use Rattle.overlap_test.specs.Verdict.{tried, IsVerdict, IfAgree, IfDiffer}
use Rattle.overlap_test.proofs.Verdicts.{rows_event, rows_skipped}
use Rattle.overlap_test.proofs.testing.test_level.Goals as goal

pub returns-in_default : goal.returns-in_default
returns-in_default c =
    let d = c.args.above.now in
    let size = c.count-j-end.ensures.count
    ∙ ap (λ (p : Presented). length p.names) (sym c.requires.pres) in
    let below : c.loop-j.j < suc (length d.pres.names) = omega (arith, c.loop-j-test.true, size) in
    let is = c.loop-j.invariant.left
    ∙ rows_event (tried d c.args.i) (length d.pres.names) c.loop-j.j (suc (length d.pres.names))
    c.in_ok-event.event below c.in_ok-event.ensures.order c.in_default.not-Agree in
    let lawful = subst IsPresented (sym c.requires.pres) c.count-j-end.ensures.lawful in
    let tabled = subst IsTabled c.table.ensures.table c.level-level.ensures.form in
    let checked = c.table.ensures.multiplies in
    record {
      verdict = subst (IsVerdict d c.args.i) is
          (c.verdicts.ensures.one d c.args.i lawful tabled checked c.requires.least
          c.requires.level);
      order = sym is;
      agree = subst (λ (r : LevelResult). IfAgree r (HaveEqualWays d c.args.i)) is
          (c.verdicts.ensures.agree d c.args.i lawful tabled checked c.requires.least
          c.requires.level);
      differ = subst
          (λ (p : Presented).
          IfDiffer c.in_ok-event.event (ShowsInconsistent (relations_of p)))
          c.requires.pres
          (subst (λ (r : LevelResult). IfDiffer r (ShowsInconsistent (relations_of d.pres))) is
          (c.verdicts.ensures.differ d c.args.i lawful tabled checked c.requires.least
          c.requires.level));
    }

pub loop-j-preserved : goal.loop-j-preserved
loop-j-preserved c =
    let d = c.args.above.now in
    let size = c.count-j-end.ensures.count
    ∙ ap (λ (p : Presented). length p.names) (sym c.requires.pres) in
    let below : c.loop-j.j < suc (length d.pres.names) = omega (arith, c.loop-j-test.true, size) in
    record {
      room = c.in_ok-event.ensures.room;
      left = c.loop-j.invariant.left
          ∙ rows_skipped (tried d c.args.i) (length d.pres.names) c.loop-j.j
          (suc (length d.pres.names)) c.in_ok-event.event below c.in_ok-event.ensures.order
          c.in-Agree.is;
    }
