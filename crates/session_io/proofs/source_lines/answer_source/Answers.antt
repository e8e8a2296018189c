use Rattle.std.proofs.Common.{ℕ, List, subst}
use Rattle.std.proofs.lemmas.Result.{err_from_is_err_and}
use Rattle.std.specs.Io.KnownBytes.{Appends}
use Rattle.session_io.specs.Answers.{kept, last_piece}
use Rattle.session_io.specs.Lines.{whole_lines}
use Rattle.session_io.specs.Stops.{IsStopped}
use Rattle.session_io.proofs.Answered.{Appends-last, IsStopped-last}
use Rattle.session_io.proofs.Promising.{IsAnswered-ok, IsAnswered-stopped}
use Rattle.session_io.proofs.ReadSoFar.{IsAnswered-untaken, IsRecalled-untaken}
use Rattle.session_io.proofs.Recalled.{IsRecalled-ended}
use Rattle.session_io.proofs.source_lines.answer_source.Goals as goal

pub returns-in_err-line-clause-answered : goal.returns-in_err-line-clause-answered
returns-in_err-line-clause-answered g c =
    let p = err_from_is_err_and c.from_residual.result c.from_residual.ensures.1 in
    rw (p.1, p.2) (IsAnswered-untaken (g.T.Replier.reply c.args.replier.now) c.args.limit
    (g.S.Source.left c.args.queries.now) (g.S.Source.faults c.args.queries.now)
    (g.S.Source.given c.args.queries.now) (g.K.Sink.written c.args.out.now))

pub returns-in_err-answer_last-clause-answered : goal.returns-in_err-answer_last-clause-answered
returns-in_err-answer_last-clause-answered g c =
    let reply = g.T.Replier.reply c.args.replier.now in
    let o = g.K.Sink.written c.args.out.now in
    let m = g.K.Sink.written c.answer_pieces.new.out in
    let n = g.K.Sink.written c.answer_last.new.out in
    let end = c.in_ok-end.end in
    let read = c.in_ok-end.ensures.ok in
    let a = read.answered in
    let s = c.in_err-answer_last.field-0.0 in
    let p =
    err_from_is_err_and c.from_residual-in_err-answer_last.result
    c.from_residual-in_err-answer_last.ensures.1 in
    rw (p.1, p.2) (IsAnswered-stopped reply c.args.limit _ read.taken read.more read.took end s o n
    read.ended
    (IsStopped-last reply end (kept c.args.limit end read.taken) a.line o m a.last a.written n s
    a.at_line
    (subst (λ (by : List ℕ → List ℕ). IsStopped (last_piece by a.line end) m n s)
    c.in_ok-end.ensures.same (c.in_err-answer_last.ensures.err a.line a.is_held.front))))

pub returns-clause-answered : goal.returns-clause-answered
returns-clause-answered g c =
    let reply = g.T.Replier.reply c.args.replier.now in
    let o = g.K.Sink.written c.args.out.now in
    let m = g.K.Sink.written c.answer_pieces.new.out in
    let n = g.K.Sink.written c.answer_last.new.out in
    let end = c.in_ok-end.end in
    let read = c.in_ok-end.ensures.ok in
    let a = read.answered in
    IsAnswered-ok reply c.args.limit _ read.taken read.more read.took end o n read.ended
    (Appends-last reply end (kept c.args.limit end read.taken) a.line o m a.last a.written n
    (subst (λ (by : List ℕ → List ℕ). Appends m n (last_piece by a.line end))
    c.in_ok-end.ensures.same (c.in_ok-answer_last.ensures.ok a.line a.is_held.front)))

pub returns-in_err-line-clause-recalls : goal.returns-in_err-line-clause-recalls
returns-in_err-line-clause-recalls g c none =
    IsRecalled-untaken (g.T.Replier.recalls c.args.replier.now)
    (g.met.T.Replier.widens c.args.replier.now) c.args.limit (g.S.Source.left c.args.queries.now)
    (g.S.Source.faults c.args.queries.now) (g.S.Source.given c.args.queries.now) none

pub returns-in_err-end-clause-recalls : goal.returns-in_err-end-clause-recalls
returns-in_err-end-clause-recalls g c none = c.in_err-end.ensures.recalls none

pub returns-in_err-answer_last-clause-recalls : goal.returns-in_err-answer_last-clause-recalls
returns-in_err-answer_last-clause-recalls g c none =
    let end = c.in_ok-end.end in
    let read = c.in_ok-end.ensures.ok in
    let a = read.answered in
    IsRecalled-ended (g.T.Replier.recalls c.answer_last.new.replier)
    (g.met.T.Replier.widens c.answer_last.new.replier) c.args.limit _ read.taken read.more read.took
    end a.line a.last
    (c.in_err-answer_last.ensures.recalls a.line (whole_lines (kept c.args.limit end read.taken))
    a.is_held.front (read.of_lines none))

pub returns-clause-recalls : goal.returns-clause-recalls
returns-clause-recalls g c none =
    let end = c.in_ok-end.end in
    let read = c.in_ok-end.ensures.ok in
    let a = read.answered in
    IsRecalled-ended (g.T.Replier.recalls c.answer_last.new.replier)
    (g.met.T.Replier.widens c.answer_last.new.replier) c.args.limit _ read.taken read.more read.took
    end a.line a.last
    (c.in_ok-answer_last.ensures.recalls a.line (whole_lines (kept c.args.limit end read.taken))
    a.is_held.front (read.of_lines none))
