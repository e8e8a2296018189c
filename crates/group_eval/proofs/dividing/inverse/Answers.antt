use Rattle.std.proofs.Common.{rules}
use Rattle.group_eval.proofs.dividing.inverse.Goals as goal

pub returns-clause-order : goal.returns-clause-order
returns-clause-order c = search rules

pub returns-clause-element : goal.returns-clause-element
returns-clause-element c = λ u.
    c.elements_of.ensures.inverses c.args.a.now c.swap.new.x u (returns-clause-order c)
