use Rattle.std.proofs.Common.{refl, ap, length, arith}
use Rattle.std.proofs.lemmas.Result.{err_from_is_err_and}
use Rattle.session_io.specs.Files.{long}
use Rattle.query_session.proofs.Files.{IsGot-read, IsUnread-fault, HasRefused-unread, HasRefused-fault}
use Rattle.query_session.proofs.presentations.read_presentation.Goals as goal

pub returns-in_err-file-clause-refused : goal.returns-in_err-file-clause-refused
returns-in_err-file-clause-refused g c =
    λ words.
    let p = err_from_is_err_and c.from_residual.result c.from_residual.ensures.1 in
    rw (p.1, p.2) (HasRefused-unread _ c.args.name.now c.in_err-file.field-0.0
    (IsUnread-fault _ c.args.name.now 4194304 c.in_err-file.field-0.0
    (λ e. c.in_err-file.ensures.causes.failed (cc))
    (λ e. long (c.in_err-file.ensures.causes.long (cc)) (c.in_err-file.ensures.known_long (cc)))))

pub returns-in_err-pres-clause-refused : goal.returns-in_err-pres-clause-refused
returns-in_err-pres-clause-refused g c =
    λ words.
    let p =
    err_from_is_err_and c.from_residual-in_err-pres.result c.from_residual-in_err-pres.ensures.1 in
    rw (p.1, p.2) (HasRefused-fault _ c.args.name.now c.deref.result.now c.in_err-pres.field-0.0
    (IsGot-read _ c.args.name.now 4194304 c.in_ok-file.file.items c.deref.result.now _
    c.deref.ensures.value refl c.in_ok-file.ensures.bytes
    (omega (arith, c.in_ok-file.ensures.bound, ap length c.deref.ensures.value)))
    c.in_err-pres.ensures.fault)
