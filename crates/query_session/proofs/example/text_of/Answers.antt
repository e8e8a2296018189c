use Rattle.std.proofs.Common.{Ok, Err, refl}
use Rattle.std.proofs.lemmas.Result.{err_from_is_err_and}
use Rattle.query_session.specs.Example.{fault_of}
use Rattle.query_session.proofs.Examples.{HasRefusal-example, within-ok, HasOpened-example}
use Rattle.query_session.proofs.example.text_of.Goals as goal

pub returns-in_err-pres-clause-refused : goal.returns-in_err-pres-clause-refused
returns-in_err-pres-clause-refused c =
    λ a.
    let p = err_from_is_err_and c.from_residual.result c.from_residual.ensures.1 in
    rw (p.1, p.2) (HasRefusal-example (fault_of c.args.kind c.args.size) a c.in_err-pres.field-0.0
    (Err c.in_err-pres.field-0.0) refl
    c.in_err-pres.ensures.refused c.in_err-pres.ensures.taken)

pub returns-clause-opened : goal.returns-clause-opened
returns-clause-opened c =
    λ a.
    HasOpened-example c.args.kind c.args.size a c.in_ok-pres.pres _
    (within-ok (fault_of c.args.kind c.args.size) c.in_ok-pres.pres (Ok c.in_ok-pres.pres) refl
    c.in_ok-pres.ensures.refused)
    c.in_ok-pres.ensures.ok c.in_ok-text.ensures.text c.in_ok-text.ensures.again
