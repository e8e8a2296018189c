use Rattle.std.proofs.Common.{sym, subst}
use Rattle.std.specs.Prelude.{All}
use Rattle.binom_poly.specs.Monomial.{IsVariable}
use Rattle.identity_check.proofs.Pushing.{made_cleared, variables-cleared}
use Rattle.identity_check.proofs.listing.cleared.Goals as goal

pub returns-clause-cleared : goal.returns-clause-cleared
returns-clause-cleared c =
    made_cleared c.args.table.now c.args.j c.push_other_ys.new.vars.items c.push_xs.new.vars.items
    c.new-vars.result.items c.level.result c.last-end.result c.last-end.result c.new-vars.ensures.items
    c.level.ensures.level c.last-end.ensures.last c.last-end.ensures.last c.in_ok-push_xs.ensures
    c.in_ok-push_other_ys.ensures

pub returns-clause-variables : goal.returns-clause-variables
returns-clause-variables c =
    subst (All IsVariable) (sym (returns-clause-cleared c))
    (variables-cleared c.args.table.now c.args.j c.level.ensures.form)
