use Rattle.std.proofs.Common.{[], ◌∙◌, ap}
use Rattle.std.proofs.lemmas.Result.{err_from_is_err_and}
use Rattle.hall_table.specs.Tabled.{Tabled}
use Rattle.query_session.proofs.CompileOpened.{HasOpened-table_text}
use Rattle.query_session.proofs.compile.table_of.Goals as goal

pub returns-clause-opened : goal.returns-clause-opened
returns-clause-opened g c =
    λ words.
    HasOpened-table_text _ c.args.pres.now _ c.in_ok-compiled.compiled _ c.table.result.now
    c.table.ensures.table c.in_ok-text.ensures.text c.in_ok-text.ensures.says
    (c.in_ok-compiled.ensures.opened words)

pub returns-in_err-compiled-clause-refused : goal.returns-in_err-compiled-clause-refused
returns-in_err-compiled-clause-refused g c =
    λ words.
    let p = err_from_is_err_and c.from_residual.result c.from_residual.ensures.1 in
    rw (p.1, p.2) (c.in_err-compiled.ensures.refused words)

pub table_line-requires : goal.table_line-requires
table_line-requires g c =
    ap (λ (t : Tabled). t.level) c.table.ensures.table
    ∙ (c.in_ok-compiled.ensures.opened []).is.compiled.outcome.level
