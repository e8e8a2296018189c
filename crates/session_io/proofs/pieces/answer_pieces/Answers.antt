use Rattle.std.proofs.Common.{◌≡◌, ℕ, ◌-◌, ◌≤◌, List, [], ◌++◌, take, length, rules, sym, ◌∙◌, subst, arith, length-take}
use Rattle.std.proofs.lemmas.Grind.{common_steps}
use Rattle.std.proofs.lemmas.Result.{err_from_is_err_and}
use Rattle.std.specs.Io.KnownBytes.{Consumes, IsAtEnd}
use Rattle.nil_io.specs.Causes.{RoseBy}
use Rattle.session_io.specs.Lines.{whole_lines}
use Rattle.session_io.specs.Answers.{replies_by}
use Rattle.session_io.specs.Holding.{AreAnswered}
use Rattle.session_io.specs.Stops.{IsStopped}
use Rattle.session_io.proofs.ReadSoFar.{HasRead, HasRead-failed, HasRead-finished, HasRead-stopped, HasRead-recalled, HasRead-long, HasRead-more}
use Rattle.session_io.proofs.pieces.answer_pieces.Goals as goal

pub returns-in_default-clause-ok : goal.returns-in_default-clause-ok
returns-in_default-clause-ok g c =
    HasRead-failed (g.T.Replier.reply c.args.replier.now) _ c.args.limit c.reading.room
    (g.S.Source.left c.args.queries.now) (g.S.Source.left c.reading.queries)
    (g.S.Source.given c.args.queries.now) (g.S.Source.given c.reading.queries)
    (g.S.Source.faults c.args.queries.now) (g.S.Source.faults c.read.new.self) c.reading.line
    (g.K.Sink.written c.args.out.now) (g.K.Sink.written c.reading.out) c.reading.invariant.read
    (g.S.Source.left c.read.new.self) (g.S.Source.given c.read.new.self)
    c.in_default.ensures.bytes c.in_default.ensures.count.none
    (omega (arith, c.in_default.ensures.cause.failed, c.reading.invariant.source))

pub returns-then-count-eq0-clause-ok : goal.returns-then-count-eq0-clause-ok
returns-then-count-eq0-clause-ok g c =
    let left = g.S.Source.left c.reading.queries in
    let left' = g.S.Source.left c.read.new.self in
    let given = g.S.Source.given c.reading.queries in
    let given' = g.S.Source.given c.read.new.self in
    let none : c.in-Ok.count ≡ 0 = omega arith in
    let at_end : IsAtEnd left' = first_of (search rules, grind (arith, common_steps)) in
    HasRead-finished (g.T.Replier.reply c.args.replier.now) _ c.args.limit c.reading.room
    (g.S.Source.left c.args.queries.now) left (g.S.Source.given c.args.queries.now) given
    (g.S.Source.faults c.args.queries.now) (g.S.Source.faults c.read.new.self) c.reading.line
    (g.K.Sink.written c.args.out.now) (g.K.Sink.written c.reading.out) c.reading.invariant.read
    left' given'
    (subst (λ (n : ℕ). Consumes left left' (take n c.read.new.buf)) none c.in-Ok.ensures.bytes.0)
    (subst (λ (n : ℕ). RoseBy n given given') none c.in-Ok.ensures.count.given) at_end

pub returns-in_err-answer_piece-clause-err : goal.returns-in_err-answer_piece-clause-err
returns-in_err-answer_piece-clause-err g c =
    let reply = g.T.Replier.reply c.args.replier.now in
    let left = g.S.Source.left c.reading.queries in
    let left' = g.S.Source.left c.read.new.self in
    let given = g.S.Source.given c.reading.queries in
    let given' = g.S.Source.given c.read.new.self in
    let p = g.K.Sink.written c.reading.out in
    let q = g.K.Sink.written c.answer_piece.new.out in
    let read = c.reading.invariant.read in
    let piece = take c.in-Ok.count c.read.new.buf in
    let few : length piece ≤ 4096 =
    omega (arith, length-take c.in-Ok.count c.read.new.buf) in
    let counted : RoseBy (length piece) given given' =
    subst (λ (n : ℕ). RoseBy n given given') c.in-Ok.ensures.bound.1 c.in-Ok.ensures.count.given in
    let s = c.in_err-answer_piece.field-0.0 in
    let stopped =
    subst (λ (bytes : List ℕ). IsStopped (replies_by reply (whole_lines (read.answered.line ++ bytes)))
    p q s)
    c.within.ensures
    (subst (λ (by : List ℕ → List ℕ). IsStopped (replies_by by
    (whole_lines (read.answered.line ++ c.within.result.now))) p q s)
    c.reading.invariant.same
    (c.in_err-answer_piece.ensures.err read.answered.line read.answered.is_held)) in
    let e = err_from_is_err_and c.from_residual.result c.from_residual.ensures.1 in
    rw (e.1, e.2) (HasRead-stopped reply _ c.args.limit c.reading.room
    (g.S.Source.left c.args.queries.now) left (g.S.Source.given c.args.queries.now) given
    (g.S.Source.faults c.args.queries.now) (g.S.Source.faults c.read.new.self) c.reading.line
    (g.K.Sink.written c.args.out.now) p read left' given' piece c.in-Ok.ensures.bytes.0 counted few
    q s stopped)

pub returns-then-count-room-clause-ok : goal.returns-then-count-room-clause-ok
returns-then-count-room-clause-ok g c =
    let reply = g.T.Replier.reply c.args.replier.now in
    let left = g.S.Source.left c.reading.queries in
    let left' = g.S.Source.left c.read.new.self in
    let given = g.S.Source.given c.reading.queries in
    let given' = g.S.Source.given c.read.new.self in
    let p = g.K.Sink.written c.reading.out in
    let q = g.K.Sink.written c.answer_piece.new.out in
    let read = c.reading.invariant.read in
    let piece = take c.in-Ok.count c.read.new.buf in
    let few : length piece ≤ 4096 =
    omega (arith, length-take c.in-Ok.count c.read.new.buf) in
    let counted : RoseBy (length piece) given given' =
    subst (λ (n : ℕ). RoseBy n given given') c.in-Ok.ensures.bound.1 c.in-Ok.ensures.count.given in
    let next =
    subst (λ (bytes : List ℕ). AreAnswered reply (read.answered.line ++ bytes)
    c.answer_piece.new.line p q)
    c.within.ensures
    (subst (λ (by : List ℕ → List ℕ). AreAnswered by (read.answered.line ++ c.within.result.now)
    c.answer_piece.new.line p q)
    c.reading.invariant.same
    (c.in_ok-answer_piece.ensures.ok read.answered.line read.answered.is_held)) in
    HasRead-long reply _ c.args.limit c.reading.room
    (g.S.Source.left c.args.queries.now) left (g.S.Source.given c.args.queries.now) given
    (g.S.Source.faults c.args.queries.now) (g.S.Source.faults c.read.new.self) c.reading.line
    (g.K.Sink.written c.args.out.now) p read left' given' piece c.in-Ok.ensures.bytes.0 counted few
    (λ lines. g.T.Replier.recalls c.args.replier.now []
    → g.T.Replier.recalls c.answer_piece.new.replier lines)
    (λ before none.
    subst (λ (bytes : List ℕ). g.T.Replier.recalls c.answer_piece.new.replier
    (whole_lines read.taken ++ whole_lines (read.answered.line ++ bytes)))
    c.within.ensures
    (c.in_ok-answer_piece.ensures.recalls read.answered.line (whole_lines read.taken)
    read.answered.is_held (before none)))
    c.answer_piece.new.line q next (omega (arith, c.in-Ok.ensures.bound.1, c.if-count-room.true))

pub reading-preserved : goal.reading-preserved
reading-preserved g c =
    let reply = g.T.Replier.reply c.args.replier.now in
    let left = g.S.Source.left c.reading.queries in
    let left' = g.S.Source.left c.read.new.self in
    let given = g.S.Source.given c.reading.queries in
    let given' = g.S.Source.given c.read.new.self in
    let p = g.K.Sink.written c.reading.out in
    let q = g.K.Sink.written c.answer_piece.new.out in
    let read = c.reading.invariant.read in
    let piece = take c.in-Ok.count c.read.new.buf in
    let few : length piece ≤ 4096 =
    omega (arith, length-take c.in-Ok.count c.read.new.buf) in
    let counted : RoseBy (length piece) given given' =
    subst (λ (n : ℕ). RoseBy n given given') c.in-Ok.ensures.bound.1 c.in-Ok.ensures.count.given in
    let next =
    subst (λ (bytes : List ℕ). AreAnswered reply (read.answered.line ++ bytes)
    c.answer_piece.new.line p q)
    c.within.ensures
    (subst (λ (by : List ℕ → List ℕ). AreAnswered by (read.answered.line ++ c.within.result.now)
    c.answer_piece.new.line p q)
    c.reading.invariant.same
    (c.in_ok-answer_piece.ensures.ok read.answered.line read.answered.is_held)) in
    record {
      read =
          subst (λ (n : ℕ). HasRead reply
          (λ lines. g.T.Replier.recalls c.args.replier.now []
          → g.T.Replier.recalls c.answer_piece.new.replier lines) c.args.limit (c.reading.room - n)
          (g.S.Source.left c.args.queries.now) left' (g.S.Source.given c.args.queries.now) given'
          c.answer_piece.new.line (g.K.Sink.written c.args.out.now) q)
          (sym c.in-Ok.ensures.bound.1)
          (HasRead-more reply _ c.args.limit c.reading.room
          (g.S.Source.left c.args.queries.now) left (g.S.Source.given c.args.queries.now) given
          (g.S.Source.faults c.args.queries.now) (g.S.Source.faults c.read.new.self) c.reading.line
          (g.K.Sink.written c.args.out.now) p read left' given' piece c.in-Ok.ensures.bytes.0 counted few
          (λ lines. g.T.Replier.recalls c.args.replier.now []
          → g.T.Replier.recalls c.answer_piece.new.replier lines)
          (λ before none.
          subst (λ (bytes : List ℕ). g.T.Replier.recalls c.answer_piece.new.replier
          (whole_lines read.taken ++ whole_lines (read.answered.line ++ bytes)))
          c.within.ensures
          (c.in_ok-answer_piece.ensures.recalls read.answered.line (whole_lines read.taken)
          read.answered.is_held (before none)))
          c.answer_piece.new.line q next
          (omega (arith, c.in-Ok.ensures.bound.1, c.if-count-room.false)));
      source = omega (arith, c.reading.invariant.source, c.in-Ok.ensures.cause.kept);
      later = omega (arith, c.reading.invariant.later, c.in_ok-answer_piece.ensures.later);
      same = c.in_ok-answer_piece.ensures.same ∙ c.reading.invariant.same;
    }

pub returns-in_err-answer_piece-clause-recalls : goal.returns-in_err-answer_piece-clause-recalls
returns-in_err-answer_piece-clause-recalls g c none =
    let recalls = g.T.Replier.recalls c.answer_piece.new.replier in
    let left = g.S.Source.left c.reading.queries in
    let left' = g.S.Source.left c.read.new.self in
    let given = g.S.Source.given c.reading.queries in
    let given' = g.S.Source.given c.read.new.self in
    let read = c.reading.invariant.read in
    let piece = take c.in-Ok.count c.read.new.buf in
    let few : length piece ≤ 4096 =
    omega (arith, length-take c.in-Ok.count c.read.new.buf) in
    let counted : RoseBy (length piece) given given' =
    subst (λ (n : ℕ). RoseBy n given given') c.in-Ok.ensures.bound.1 c.in-Ok.ensures.count.given in
    let e = err_from_is_err_and c.from_residual.result c.from_residual.ensures.1 in
    rw e.1 (HasRead-recalled (g.T.Replier.reply c.args.replier.now) _ c.args.limit c.reading.room
    (g.S.Source.left c.args.queries.now) left (g.S.Source.given c.args.queries.now) given
    (g.S.Source.faults c.args.queries.now) (g.S.Source.faults c.read.new.self) c.reading.line
    (g.K.Sink.written c.args.out.now) (g.K.Sink.written c.reading.out) read left' given' piece
    c.in-Ok.ensures.bytes.0 counted few recalls
    (λ before.
    subst (λ (bytes : List ℕ). recalls
    (whole_lines read.taken ++ whole_lines (read.answered.line ++ bytes)))
    c.within.ensures
    (c.in_err-answer_piece.ensures.recalls read.answered.line (whole_lines read.taken)
    read.answered.is_held (before none)))
    (g.met.T.Replier.widens c.answer_piece.new.replier))
