use Rattle.std.proofs.Common.{[], refl, inl}
use Rattle.std.proofs.lemmas.Result.{err_from_is_err_and}
use Rattle.session_io.specs.Lines.{as_lines}
use Rattle.session_io.specs.Stops.{short}
use Rattle.session_io.proofs.Appending.{Appends-none}
use Rattle.query_session.specs.Refusals.{text_or}
use Rattle.query_session.specs.Statuses.{plain_text}
use Rattle.query_session.proofs.saying.say.Goals as goal

pub returns-in_err-lines-clause-err : goal.returns-in_err-lines-clause-err
returns-in_err-lines-clause-err g c =
    let p = err_from_is_err_and c.from_residual.result c.from_residual.ensures.1 in
    rw (p.1, p.2) (short [] (text_or (as_lines (plain_text c.args.status.now)) c.args.text) refl
    (Appends-none (g.K.Sink.written c.args.out.now)) (inl refl))
