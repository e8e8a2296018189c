use Rattle.std.proofs.Common.{sym, subst}
use Rattle.std.specs.Prelude.{All}
use Rattle.binom_poly.specs.Monomial.{IsVariable}
use Rattle.identity_check.proofs.Pushing.{made_xs, variables-xs}
use Rattle.identity_check.proofs.listing.xs.Goals as goal

pub returns-clause-xs : goal.returns-clause-xs
returns-clause-xs c =
    made_xs c.args.table.now c.push_xs.new.vars.items c.new-vars.result.items c.level.result
    c.last.result c.new-vars.ensures.items c.level.ensures.level c.last.ensures.last
    c.in_ok-push_xs.ensures

pub returns-clause-variables : goal.returns-clause-variables
returns-clause-variables c =
    subst (All IsVariable) (sym (returns-clause-xs c)) (variables-xs c.args.table.now c.last.ensures.form)
