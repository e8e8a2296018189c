use Rattle.std.proofs.Common.{◌<◌, ◌∙◌, suc, length, sym, ap, arith}
use Rattle.nil_pres.specs.Presented.{Presented}
use Rattle.overlap_test.specs.Verdict.{tried}
use Rattle.overlap_test.proofs.Verdicts.{row_event, row_skipped}
use Rattle.overlap_test.proofs.testing.try_row.Goals as goal

pub returns-in_default : goal.returns-in_default
returns-in_default c =
    let d = c.args.above.now in
    let size = c.count-last.ensures.count
    ∙ ap (λ (p : Presented). length p.names) c.pres.ensures.pres in
    let below : c.loop-k.k < suc (length d.pres.names) = omega (arith, c.loop-k-test.true, size) in
    record {
      order = sym (c.loop-k.invariant.left
          ∙ row_event (tried d c.args.i) c.args.j c.loop-k.k (suc (length d.pres.names))
          c.in_ok-event.event below c.in_ok-event.ensures.order c.in_default.not-Agree);
      room = c.in_ok-event.ensures.room;
    }

pub loop-k-preserved : goal.loop-k-preserved
loop-k-preserved c =
    let d = c.args.above.now in
    let size = c.count-last.ensures.count
    ∙ ap (λ (p : Presented). length p.names) c.pres.ensures.pres in
    let below : c.loop-k.k < suc (length d.pres.names) = omega (arith, c.loop-k-test.true, size) in
    record {
      room = c.in_ok-event.ensures.room;
      left = c.loop-k.invariant.left
          ∙ row_skipped (tried d c.args.i) c.args.j c.loop-k.k (suc (length d.pres.names))
          c.in_ok-event.event below c.in_ok-event.ensures.order c.in-Agree.is;
    }
