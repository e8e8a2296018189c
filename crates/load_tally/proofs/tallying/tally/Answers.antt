use Rattle.std.proofs.Common.{◌<◌, length, ◌∙◌, subst, arith}
use Rattle.hall_table.specs.Multiplies.{Paired}
use Rattle.query_replies.specs.Replies.{reply_of}
use Rattle.load_tally.specs.Steps.{IsOneMore}
use Rattle.load_tally.proofs.Lines.{Completes-line}
use Rattle.load_tally.proofs.tallying.tally.Goals as goal

pub counting-preserved : goal.counting-preserved
counting-preserved c =
    let more = c.in_ok-count_line.ensures.counted in
    let shorter : length c.in_default-Some.next.now < length c.counting.rest.now =
    rw c.in_default-Some.is-1 at c.split_line.ensures.shorter in
    rw c.in_default-Some.next-is (record {
      completes = Completes-line c.args.calculator.now c.counting.tally _ c.counting.rest.now
          c.split_line.result.0.now c.counting.invariant.completes c.count_line.new.tally
          c.in_default-Some.next.now (rw c.in_default-Some.is-1 at c.split_line.ensures.cut)
          (subst (λ (d : Paired). IsOneMore c.counting.tally c.count_line.new.tally
          (reply_of d c.split_line.result.0.now)) c.counting.invariant.same more);
      within = c.in_ok-count_line.ensures.within;
      room = omega (arith, shorter, more.queries, c.counting.invariant.room);
      same = c.in_ok-count_line.ensures.same ∙ c.counting.invariant.same;
    })
