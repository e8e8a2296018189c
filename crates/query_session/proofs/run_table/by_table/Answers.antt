use Rattle.std.proofs.Common.{inr}
use Rattle.std.proofs.lemmas.Result.{err_from_is_err_and}
use Rattle.query_session.proofs.TableOpened.{IsTableRefused-fault, IsTableRefused-identity, IsTableRefused-wide}
use Rattle.query_session.proofs.run_table.by_table.Goals as goal

pub returns-in_err-table-clause-refused : goal.returns-in_err-table-clause-refused
returns-in_err-table-clause-refused c =
    let p = err_from_is_err_and c.from_residual.result c.from_residual.ensures.1 in
    rw (p.1, p.2) (IsTableRefused-fault c.args.pres.now c.args.text.now c.count.result
    c.in_err-table.field-0.0 c.count.ensures.count c.in_err-table.ensures.fault)

pub returns-in-Refused-clause-refused : goal.returns-in-Refused-clause-refused
returns-in-Refused-clause-refused c =
    inr (IsTableRefused-identity c.args.pres.now c.args.text.now c.count.result c.in_ok-table.table
    c.count.ensures.count c.in_ok-table.ensures.read c.in_ok-checked.field-0 c.in-Refused.failure
    c.in-Refused.is c.in_ok-checked.ensures.verdict c.in_ok-checked.ensures.evidence)

pub returns-in-Wide-clause-refused : goal.returns-in-Wide-clause-refused
returns-in-Wide-clause-refused c =
    inr (IsTableRefused-wide c.args.pres.now c.args.text.now c.count.result c.in_ok-table.table
    c.count.ensures.count c.in_ok-table.ensures.read c.in_ok-checked.field-0 c.in-Wide.identity
    c.in-Wide.is c.in_ok-checked.ensures.verdict)
