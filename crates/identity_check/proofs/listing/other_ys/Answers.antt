use Rattle.std.proofs.Common.{◌++◌, ◌∙◌, ap, sym, subst}
use Rattle.std.specs.Prelude.{All}
use Rattle.binom_poly.specs.Monomial.{IsVariable}
use Rattle.identity_check.specs.Sides.{other_ys}
use Rattle.identity_check.proofs.Pushing.{made_others, variables-other_ys}
use Rattle.identity_check.proofs.listing.other_ys.Goals as goal

pub returns-clause-other_ys : goal.returns-clause-other_ys
returns-clause-other_ys c =
    made_others c.args.table.now c.args.j c.push_other_ys.new.vars.items c.new-vars.result.items
    c.level.result c.last.result c.level.ensures.level c.last.ensures.last
    c.in_ok-push_other_ys.ensures
    ∙ ap (λ vs. vs ++ other_ys c.args.table.now c.args.j) c.new-vars.ensures.items

pub returns-clause-variables : goal.returns-clause-variables
returns-clause-variables c =
    subst (All IsVariable) (sym (returns-clause-other_ys c))
    (variables-other_ys c.args.table.now c.args.j c.last.ensures.form)
