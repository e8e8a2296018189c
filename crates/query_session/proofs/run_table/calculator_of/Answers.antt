use Rattle.std.proofs.Common.{◌<◌, ℕ, List, Option, IfSome, ap, subst, length, arith}
use Rattle.std.proofs.lemmas.Result.{err_from_is_err_and}
use Rattle.session_io.specs.Files.{long}
use Rattle.query_session.proofs.Files.{Rose-later, IsGot-read, HasPresentation-later, IsUnread-fault}
use Rattle.query_session.proofs.TableOpened.{HasRefused-table_file, HasRefused-table_unread, HasOpened-table, HasRefused-table}
use Rattle.query_session.proofs.run_table.calculator_of.Goals as goal

pub returns-in_err-pres-clause-refused : goal.returns-in_err-pres-clause-refused
returns-in_err-pres-clause-refused g c =
    λ words.
    let p = err_from_is_err_and c.from_residual.result c.from_residual.ensures.1 in
    rw (p.1, p.2) (HasRefused-table_file c.args.pres.now c.args.table.now _
    c.in_err-pres.field-0.0 (c.in_err-pres.ensures.refused words))

-- the presentation was got before the shelf was asked for the table
pub returns-in_err-text-clause-refused : goal.returns-in_err-text-clause-refused
returns-in_err-text-clause-refused g c =
    λ words.
    let p =
    err_from_is_err_and c.from_residual-in_err-text.result
    c.from_residual-in_err-text.ensures.1 in
    rw (p.1, p.2) (HasRefused-table_unread c.args.pres.now c.args.table.now _ c.in_ok-pres.pres
    (HasPresentation-later c.args.pres.now words _ _ _ _ _ _ _ c.in_ok-pres.pres
    (c.in_ok-pres.ensures.read words))
    c.in_err-text.field-0.0
    (IsUnread-fault _ c.args.table.now 16777216 c.in_err-text.field-0.0
    (λ e. Rose-later _ _ _ (c.in_ok-pres.ensures.later c.args.table.now)
    (c.in_err-text.ensures.causes.failed (cc)))
    (λ e. long
    (Rose-later _ _ _ (c.in_ok-pres.ensures.later_long c.args.table.now 16777216)
    (c.in_err-text.ensures.causes.long (cc)))
    (subst (λ (known : Option (List ℕ)). IfSome known (λ xs. 16777216 < length xs))
    (c.in_ok-pres.ensures.same c.args.table.now) (c.in_err-text.ensures.known_long (cc))))))

pub returns-clause-opened : goal.returns-clause-opened
returns-clause-opened g c =
    λ words.
    HasOpened-table c.args.pres.now c.args.table.now _ c.in_ok-pres.pres
    (HasPresentation-later c.args.pres.now words _ _ _ _ _ _ _ c.in_ok-pres.pres
    (c.in_ok-pres.ensures.read words))
    c.deref.result.now
    (IsGot-read _ c.args.table.now 16777216 c.in_ok-text.text.items c.deref.result.now _
    c.deref.ensures.value (c.in_ok-pres.ensures.same c.args.table.now)
    c.in_ok-text.ensures.bytes
    (omega (arith, c.in_ok-text.ensures.bound, ap length c.deref.ensures.value)))
    c.by_table.result c.by_table.ensures.pres c.by_table.ensures.accepted
    c.by_table.ensures.consistent

pub returns-clause-refused : goal.returns-clause-refused
returns-clause-refused g c =
    λ words.
    HasRefused-table c.args.pres.now c.args.table.now _ c.in_ok-pres.pres
    (HasPresentation-later c.args.pres.now words _ _ _ _ _ _ _ c.in_ok-pres.pres
    (c.in_ok-pres.ensures.read words))
    c.deref.result.now
    (IsGot-read _ c.args.table.now 16777216 c.in_ok-text.text.items c.deref.result.now _
    c.deref.ensures.value (c.in_ok-pres.ensures.same c.args.table.now)
    c.in_ok-text.ensures.bytes
    (omega (arith, c.in_ok-text.ensures.bound, ap length c.deref.ensures.value)))
    c.by_table.result c.by_table.ensures.refused
