use Rattle.std.proofs.Common.{◌∙◌, List, ℤ, sym, ap}
use Rattle.std.specs.Prelude.{Ok}
use Rattle.std.proofs.lemmas.Result.{err_from_is_err_and}
use Rattle.group_eval.proofs.Products.{commuted-from}
use Rattle.group_eval.proofs.commuting.commutator.Goals as goal

pub returns-in_err-solve_into-clause-order : goal.returns-in_err-solve_into-clause-order
returns-in_err-solve_into-clause-order c =
    let p = err_from_is_err_and c.from_residual-in_err-solve_into.result
    c.from_residual-in_err-solve_into.ensures.1 in
    rw (p.1, p.2)
    (commuted-from c.args.checked.now.table c.table-table.result.now c.args.u.now c.args.v.now
    c.multiply_into.new.out c.multiply_into-2.new.out _ c.table-table.ensures.table
    c.in_ok-multiply_into.ensures.order c.in_ok-multiply_into-2.ensures.order
    c.in_err-solve_into.ensures.order)

pub returns-clause-order : goal.returns-clause-order
returns-clause-order c =
    commuted-from c.args.checked.now.table c.table-table.result.now c.args.u.now c.args.v.now
    c.multiply_into.new.out c.multiply_into-2.new.out _ c.table-table.ensures.table
    c.in_ok-multiply_into.ensures.order c.in_ok-multiply_into-2.ensures.order
    (c.in_ok-solve_into.ensures.order ∙ ap (λ (v : List ℤ). Ok v) (sym c.swap.ensures.x_after))

pub returns-clause-element : goal.returns-clause-element
returns-clause-element c = λ w z.
    c.elements_of.ensures.commutators c.args.u.now c.args.v.now c.swap.new.x w z
    (returns-clause-order c)
