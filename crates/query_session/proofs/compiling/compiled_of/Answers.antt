use Rattle.std.proofs.lemmas.Result.{err_from_is_err_and}
use Rattle.query_session.proofs.CompileOpened.{HasOpened-compiled, HasRefusal-uncompiled, HasRefusal-compile_file}
use Rattle.query_session.proofs.compiling.compiled_of.Goals as goal

pub returns-in_err-pres-clause-refused : goal.returns-in_err-pres-clause-refused
returns-in_err-pres-clause-refused g c =
    λ words.
    let p = err_from_is_err_and c.from_residual.result c.from_residual.ensures.1 in
    rw (p.1, p.2) (HasRefusal-compile_file _ c.args.pres.now _ c.in_err-pres.field-0.0
    (c.in_err-pres.ensures.refused words))

pub returns-clause-opened : goal.returns-clause-opened
returns-clause-opened g c =
    λ words.
    HasOpened-compiled _ c.args.pres.now _ c.in_ok-pres.pres (c.in_ok-pres.ensures.read words)
    c.compiled.result c.compiled.ensures.compiled

pub returns-clause-refused : goal.returns-clause-refused
returns-clause-refused g c =
    λ words.
    HasRefusal-uncompiled _ c.args.pres.now _ c.in_ok-pres.pres (c.in_ok-pres.ensures.read words)
    c.compiled.result c.compiled.ensures.refused
