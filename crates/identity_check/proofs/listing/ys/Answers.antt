use Rattle.std.proofs.Common.{sym, subst}
use Rattle.std.specs.Prelude.{All}
use Rattle.binom_poly.specs.Monomial.{IsVariable}
use Rattle.identity_check.proofs.Pushing.{made_ys, variables-ys}
use Rattle.identity_check.proofs.listing.ys.Goals as goal

pub returns-clause-ys : goal.returns-clause-ys
returns-clause-ys c =
    made_ys c.args.table.now c.push_ys.new.vars.items c.new-vars.result.items c.level.result
    c.last.result c.new-vars.ensures.items c.level.ensures.level c.last.ensures.last
    c.in_ok-push_ys.ensures

pub returns-clause-variables : goal.returns-clause-variables
returns-clause-variables c =
    subst (All IsVariable) (sym (returns-clause-ys c)) (variables-ys c.args.table.now c.last.ensures.form)
