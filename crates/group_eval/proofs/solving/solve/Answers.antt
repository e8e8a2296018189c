use Rattle.std.proofs.Common.{rules}
use Rattle.group_eval.proofs.solving.solve.Goals as goal

pub returns-clause-order : goal.returns-clause-order
returns-clause-order c = search rules

pub returns-clause-element : goal.returns-clause-element
returns-clause-element c = λ u v.
    c.elements_of.ensures.solutions c.args.a.now c.args.b.now c.swap.new.x u v
    (returns-clause-order c)
