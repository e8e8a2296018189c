use Rattle.std.proofs.lemmas.Result.{MatchResult-weaker}
use Rattle.group_eval.proofs.Products.{divided-from}
use Rattle.group_eval.proofs.Rooms.{zero_is}
use Rattle.group_eval.proofs.dividing.quotient.Goals as goal

pub returns-clause-order : goal.returns-clause-order
returns-clause-order c =
    let from = divided-from c.args.checked.now.table c.table-table.result.now c.args.a.now
    c.args.b.now c.solve_into.new.x c.ws.inside.zero in
    let zero = zero_is c.ws.inside.zero _ c.requires.ws c.table-table.ensures.multiplies
    c.ws.view_is c.ws.invariant.3 in
    MatchResult-weaker c.multiply_into.result c.multiply_into.ensures.order
    (λ _. from _ c.table-table.ensures.table zero c.in_ok-solve_into.ensures.order)
    (λ _. from _ c.table-table.ensures.table zero c.in_ok-solve_into.ensures.order)

pub returns-clause-element : goal.returns-clause-element
returns-clause-element c =
    MatchResult-weaker c.multiply_into.result (returns-clause-order c)
    (λ _ h u v.
    c.elements_of.ensures.quotients c.args.a.now c.args.b.now c.multiply_into.new.out u v h)
    (λ _ _. tt)
