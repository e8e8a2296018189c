use Rattle.std.proofs.Common.{[]}
use Rattle.std.proofs.lemmas.Result.{err_from_is_err_and}
use Rattle.query_session.proofs.CompileOpened.{HasOpened-run}
use Rattle.query_session.proofs.run.open.Goals as goal

pub returns-clause-opened : goal.returns-clause-opened
returns-clause-opened g c =
    λ words.
    HasOpened-run _ c.args.pres.now _ c.in_ok-compiled.compiled c.in_ok-calculator.calculator
    c.in_ok-calculator.ensures (c.in_ok-compiled.ensures.opened words)

pub returns-in_err-compiled-clause-refused : goal.returns-in_err-compiled-clause-refused
returns-in_err-compiled-clause-refused g c =
    λ words.
    let p = err_from_is_err_and c.from_residual.result c.from_residual.ensures.1 in
    rw (p.1, p.2) (c.in_err-compiled.ensures.refused words)

pub of-requires : goal.of-requires
of-requires g c = record { level = (c.in_ok-compiled.ensures.opened []).is.compiled.outcome.level }
