use Rattle.std.proofs.Common.{Ok, Err, ◌∙◌, refl}
use Rattle.std.proofs.lemmas.Result.{err_from_is_err_and}
use Rattle.nil_examples.specs.Loads.{load_fault}
use Rattle.query_session.proofs.Examples.{within-ok}
use Rattle.query_session.proofs.LoadOpened.{HasRefusal-load_fault, HasOpened-load, HasRefusal-uncompiled_load}
use Rattle.query_session.proofs.load.text_of.Goals as goal

pub returns-in_err-queries-clause-refused : goal.returns-in_err-queries-clause-refused
returns-in_err-queries-clause-refused g c =
    λ a.
    let p = err_from_is_err_and c.from_residual.result c.from_residual.ensures.1 in
    rw (p.1, p.2) (HasRefusal-load_fault _ c.args.rows c.args.count c.args.seed a
    c.in_err-queries.field-0.0 (Err c.in_err-queries.field-0.0) refl
    c.in_err-queries.ensures.refused c.in_err-queries.ensures.taken)

pub returns-clause-opened : goal.returns-clause-opened
returns-clause-opened g c =
    λ a.
    HasOpened-load _ c.args.rows c.args.count c.args.seed a
    (within-ok (load_fault c.args.rows c.args.count c.args.seed) c.in_ok-queries.queries
    (Ok c.in_ok-queries.queries) refl c.in_ok-queries.ensures.refused)
    c.in_ok-pres.pres c.as_bytes.result.now
    c.in_ok-pres.ensures.ok (c.as_bytes.ensures.value ∙ c.in_ok-queries.ensures.ok)
    c.counts.result c.counts.ensures.counted

pub returns-clause-refused : goal.returns-clause-refused
returns-clause-refused g c =
    λ a.
    HasRefusal-uncompiled_load _ c.args.rows c.args.count c.args.seed a
    (within-ok (load_fault c.args.rows c.args.count c.args.seed) c.in_ok-queries.queries
    (Ok c.in_ok-queries.queries) refl c.in_ok-queries.ensures.refused)
    c.in_ok-pres.pres c.in_ok-pres.ensures.ok c.counts.result c.counts.ensures.refused
