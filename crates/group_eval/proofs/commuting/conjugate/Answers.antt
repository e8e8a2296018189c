use Rattle.std.proofs.Common.{◌∙◌, List, ℤ, sym, ap}
use Rattle.std.specs.Prelude.{Ok}
use Rattle.group_eval.proofs.Products.{conjugated-from}
use Rattle.group_eval.proofs.commuting.conjugate.Goals as goal

pub returns-clause-order : goal.returns-clause-order
returns-clause-order c =
    conjugated-from c.args.checked.now.table c.table-table.result.now c.args.u.now c.args.v.now
    c.multiply_into.new.out _ c.table-table.ensures.table c.in_ok-multiply_into.ensures.order
    (c.in_ok-solve_into.ensures.order ∙ ap (λ (v : List ℤ). Ok v) (sym c.swap.ensures.x_after))

pub returns-clause-element : goal.returns-clause-element
returns-clause-element c = λ w z.
    c.elements_of.ensures.conjugates c.args.u.now c.args.v.now c.swap.new.x w z
    (returns-clause-order c)
