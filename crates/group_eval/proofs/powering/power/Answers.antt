use Rattle.std.proofs.Common.{rules, arith}
use Rattle.std.proofs.lemmas.Grind.{common_steps}
use Rattle.group_eval.proofs.powering.power.Goals as goal

pub returns-clause-order : goal.returns-clause-order
returns-clause-order c = first_of (search rules, grind (arith, common_steps))

pub returns-clause-element : goal.returns-clause-element
returns-clause-element c = λ u.
    c.elements_of.ensures.powers c.args.a.now c.swap.new.x c.args.e u (returns-clause-order c)
