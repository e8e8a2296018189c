use Rattle.std.proofs.Common.{subst}
use Rattle.std.proofs.lemmas.Result.{MatchResult-weaker}
use Rattle.hall_table.specs.Order.{multiplied}
use Rattle.hall_table.specs.Tabled.{Tabled}
use Rattle.nil_num.specs.Outcome.{Writes}
use Rattle.group_eval.proofs.multiplying.multiply.Goals as goal

pub returns-clause-order : goal.returns-clause-order
returns-clause-order c =
    subst
    (λ (t : Tabled).
    Writes c.multiply_into.result c.multiply_into.new.out (multiplied t c.args.a.now c.args.b.now))
    c.table.ensures.table c.multiply_into.ensures.order

pub returns-clause-element : goal.returns-clause-element
returns-clause-element c =
    MatchResult-weaker c.multiply_into.result (returns-clause-order c)
    (λ _ h u v.
    c.elements_of.ensures.products c.args.a.now c.args.b.now c.multiply_into.new.out u v h)
    (λ _ _. tt)
