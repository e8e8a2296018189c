use Rattle.std.proofs.lemmas.Result.{err_from_is_err_and}
use Rattle.query_session.specs.RunTable.{IsRefused}
use Rattle.query_session.proofs.Files.{HasRefusal-plain}
use Rattle.query_session.proofs.TableOpened.{run_table_unnamed}
use Rattle.query_session.proofs.run_table.open.Goals as goal

pub returns-in_err-calculator-clause-refused : goal.returns-in_err-calculator-clause-refused
returns-in_err-calculator-clause-refused g c =
    λ words.
    let p = err_from_is_err_and c.from_residual.result c.from_residual.ensures.1 in
    rw (p.1, p.2) (HasRefusal-plain (IsRefused c.args.pres.now c.args.table.now) _
    (run_table_unnamed c.args.pres.now c.args.table.now _) c.in_err-calculator.field-0.0
    (c.in_err-calculator.ensures.refused words))
