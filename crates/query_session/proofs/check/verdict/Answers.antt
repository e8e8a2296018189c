use Rattle.std.proofs.lemmas.Result.{err_from_is_err_and}
use Rattle.query_session.proofs.CompileOpened.{HasOpened-verdict}
use Rattle.query_session.proofs.check.verdict.Goals as goal

pub returns-clause-opened : goal.returns-clause-opened
returns-clause-opened g c =
    λ words.
    HasOpened-verdict _ c.args.pres.now _ c.in_ok-compiled.compiled _ c.in_ok-text.ensures
    (c.in_ok-compiled.ensures.opened words)

pub returns-in_err-compiled-clause-refused : goal.returns-in_err-compiled-clause-refused
returns-in_err-compiled-clause-refused g c =
    λ words.
    let p = err_from_is_err_and c.from_residual.result c.from_residual.ensures.1 in
    rw (p.1, p.2) (c.in_err-compiled.ensures.refused words)
