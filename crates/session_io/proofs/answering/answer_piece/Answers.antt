use Rattle.std.proofs.Common.{ℕ, List, [], ◌∷◌, ◌++◌, ◌∙◌, sym, subst, arith, append_assoc}
use Rattle.std.proofs.lemmas.Result.{err_from_is_err_and}
use Rattle.std.specs.Io.KnownBytes.{Appends}
use Rattle.session_io.specs.Lines.{EndsAtLine}
use Rattle.session_io.specs.Stops.{IsStopped}
use Rattle.session_io.proofs.PieceByPiece.{IsWithin, IsWithin-more, IsWithin-stop, IsWithin-wider, IsWithin-meet, IsWithin-last}
use Rattle.session_io.proofs.answering.answer_piece.Goals as goal

pub returns-in-None-clause-ok : goal.returns-in-None-clause-ok
returns-in-None-clause-ok g c begun h =
    IsWithin-last (g.T.Replier.reply c.args.replier.now) (g.met.T.Replier.settled c.args.replier.now)
    _ (begun ++ c.args.piece.now) c.answering.rest.now c.answering.line
    (g.K.Sink.written c.args.out.now) (g.K.Sink.written c.answering.out)
    (c.answering.invariant.within begun h) c.split_line.result.0.now c.add.new.self c.add.ensures
    (rw c.in-None.is at c.split_line.ensures.cut) (rw c.in-None.is at c.split_line.ensures.all)

pub returns-in_err-answer_line-in-Some-clause-err : goal.returns-in_err-answer_line-in-Some-clause-err
returns-in_err-answer_line-in-Some-clause-err g c begun h =
    let reply = g.T.Replier.reply c.args.replier.now in
    let q = g.K.Sink.written c.answering.out in
    let r = g.K.Sink.written c.answer_line.new.out in
    let stop = c.in_err-answer_line-in-Some.field-0.0 in
    let p = err_from_is_err_and c.from_residual.result c.from_residual.ensures.1 in
    rw (p.1, p.2) (IsWithin-stop reply (g.met.T.Replier.settled c.args.replier.now)
    _ (begun ++ c.args.piece.now) c.answering.rest.now c.answering.line
    (g.K.Sink.written c.args.out.now) q (c.answering.invariant.within begun h)
    c.split_line.result.0.now c.add.new.self c.add.ensures c.in-Some.next.now
    (rw c.in-Some.is at c.split_line.ensures.cut) r stop
    (subst (λ (bytes : List ℕ). IsStopped (reply bytes) q r stop) c.bytes.ensures
    (subst (λ (by : List ℕ → List ℕ). IsStopped (by c.bytes.result.now) q r stop)
    c.answering.invariant.same c.in_err-answer_line-in-Some.ensures.err)))

pub answering-preserved : goal.answering-preserved
answering-preserved g c =
    let reply = g.T.Replier.reply c.args.replier.now in
    let o = g.K.Sink.written c.args.out.now in
    let q = g.K.Sink.written c.answering.out in
    let r = g.K.Sink.written c.answer_line.new.out in
    record {
      within = λ begun h.
          subst (λ (bytes : List ℕ). IsWithin reply
          (λ done. (lines : List (List ℕ)) → g.T.Replier.recalls c.args.replier.now lines
          → g.T.Replier.recalls c.answer_line.new.replier (lines ++ done))
          (begun ++ c.args.piece.now) c.in-Some.next.now bytes o r)
          (sym c.clear.ensures)
          (IsWithin-more reply (g.met.T.Replier.settled c.args.replier.now)
          _ (begun ++ c.args.piece.now) c.answering.rest.now c.answering.line o q
          (c.answering.invariant.within begun h) c.split_line.result.0.now c.add.new.self
          c.add.ensures c.in-Some.next.now (rw c.in-Some.is at c.split_line.ensures.cut) r _
          (λ done whole e before lines k.
          subst (g.T.Replier.recalls c.answer_line.new.replier) (append_assoc lines done (whole ∷ []))
          (c.in_ok-answer_line-in-Some.ensures.recalls (lines ++ done) whole (c.bytes.ensures ∙ e)
          (before lines k)))
          (subst (λ (bytes : List ℕ). Appends q r (reply bytes)) c.bytes.ensures
          (subst (λ (by : List ℕ → List ℕ). Appends q r (by c.bytes.result.now))
          c.answering.invariant.same c.in_ok-answer_line-in-Some.ensures.ok))
          (subst (λ (bytes : List ℕ). EndsAtLine (reply bytes)) c.bytes.ensures
          (subst (λ (by : List ℕ → List ℕ). EndsAtLine (by c.bytes.result.now))
          c.answering.invariant.same c.in_ok-answer_line-in-Some.ensures.at_line)));
      later = omega (arith, c.answering.invariant.later, c.in_ok-answer_line-in-Some.ensures.later);
      same = c.in_ok-answer_line-in-Some.ensures.same ∙ c.answering.invariant.same;
    }

pub returns-in-None-clause-recalls : goal.returns-in-None-clause-recalls
returns-in-None-clause-recalls g c begun lines h =
    IsWithin-meet (g.T.Replier.reply c.args.replier.now) (g.met.T.Replier.settled c.args.replier.now)
    _ (begun ++ c.args.piece.now) c.answering.rest.now c.answering.line
    (g.K.Sink.written c.args.out.now) (g.K.Sink.written c.answering.out)
    (c.answering.invariant.within begun h) c.split_line.result.0.now c.add.new.self c.add.ensures
    (rw c.in-None.is at c.split_line.ensures.cut) lines

pub returns-in_err-answer_line-in-Some-clause-recalls :
    goal.returns-in_err-answer_line-in-Some-clause-recalls
returns-in_err-answer_line-in-Some-clause-recalls g c begun lines h =
    let recalls = g.T.Replier.recalls c.answer_line.new.replier in
    let q = g.K.Sink.written c.answering.out in
    IsWithin-wider (g.T.Replier.reply c.args.replier.now)
    (g.met.T.Replier.settled c.args.replier.now) _ (begun ++ c.args.piece.now)
    c.answering.rest.now c.answering.line (g.K.Sink.written c.args.out.now) q
    (c.answering.invariant.within begun h) c.split_line.result.0.now c.add.new.self c.add.ensures
    c.in-Some.next.now (rw c.in-Some.is at c.split_line.ensures.cut) q
    (λ done. (before : List (List ℕ)) → g.T.Replier.recalls c.args.replier.now before
    → recalls (before ++ done))
    (λ done whole e before some k.
    subst recalls (append_assoc some done (whole ∷ []))
    (c.in_err-answer_line-in-Some.ensures.recalls (some ++ done) whole (c.bytes.ensures ∙ e)
    (before some k)))
    (λ done more before some k.
    subst recalls (append_assoc some done more)
    (g.met.T.Replier.widens c.answer_line.new.replier (some ++ done) more (before some k)))
    lines
