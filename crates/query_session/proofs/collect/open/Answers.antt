use Rattle.std.proofs.lemmas.Result.{err_from_is_err_and}
use Rattle.query_session.specs.Presentations.{IsFileRefused}
use Rattle.query_session.proofs.Plain.{file_unnamed}
use Rattle.query_session.proofs.Files.{HasRefusal-plain}
use Rattle.query_session.proofs.CollectOpened.{HasOpened-presentation}
use Rattle.query_session.proofs.collect.open.Goals as goal

pub returns-clause-opened : goal.returns-clause-opened
returns-clause-opened g c =
    λ words.
    HasOpened-presentation c.args.pres.now _ c.in_ok-presentation.presentation _ c.of.ensures.pres
    (c.in_ok-presentation.ensures.read words)

pub returns-in_err-presentation-clause-refused : goal.returns-in_err-presentation-clause-refused
returns-in_err-presentation-clause-refused g c =
    λ words.
    let p = err_from_is_err_and c.from_residual.result c.from_residual.ensures.1 in
    rw (p.1, p.2) (HasRefusal-plain (IsFileRefused c.args.pres.now) _
    (file_unnamed c.args.pres.now _) c.in_err-presentation.field-0.0
    (c.in_err-presentation.ensures.refused words))
