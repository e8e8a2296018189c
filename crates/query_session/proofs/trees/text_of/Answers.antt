use Rattle.std.proofs.lemmas.Result.{err_from_is_err_and}
use Rattle.query_session.proofs.TreesOpened.{HasRefusal-trees_file, HasOpened-trees, HasRefusal-trees}
use Rattle.query_session.proofs.trees.text_of.Goals as goal

pub returns-in_err-presentation-clause-refused : goal.returns-in_err-presentation-clause-refused
returns-in_err-presentation-clause-refused g c =
    λ words.
    let p = err_from_is_err_and c.from_residual.result c.from_residual.ensures.1 in
    rw (p.1, p.2) (HasRefusal-trees_file c.args.pres.now c.args.name.now _
    c.in_err-presentation.field-0.0 (c.in_err-presentation.ensures.refused words))

pub returns-clause-opened : goal.returns-clause-opened
returns-clause-opened g c =
    λ words.
    HasOpened-trees c.args.pres.now c.args.name.now _ c.in_ok-presentation.presentation
    (c.in_ok-presentation.ensures.read words) c.named.result c.named.ensures.text

pub returns-clause-refused : goal.returns-clause-refused
returns-clause-refused g c =
    λ words.
    HasRefusal-trees c.args.pres.now c.args.name.now _ c.in_ok-presentation.presentation
    (c.in_ok-presentation.ensures.read words) c.named.result c.named.ensures.refused
