use Rattle.std.proofs.lemmas.Result.{MatchResult-weaker}
use Rattle.group_eval.specs.Order.{Outcome}
use Rattle.group_eval.proofs.Halving.{odd_power}
use Rattle.group_eval.proofs.powering.+raise.Goals as goal

-- the square is multiplied with the base, or that product overflows
pub returns-then-e-eq1-2-clause-order : goal.returns-then-e-eq1-2-clause-order
returns-then-e-eq1-2-clause-order t c = λ d l.
    let power = λ (r : Outcome).
    odd_power c.args.table.now c.args.base.now c.raise.new.half c.multiply_into.new.out c.args.e r
    c.in_ok-raise.ensures.order c.if-e-eq0.false c.if-e-eq1.false
    c.in_ok-multiply_into.ensures.order c.if-e-eq1-2.true in
    MatchResult-weaker c.multiply_into-then-e-eq1-2.result
    c.multiply_into-then-e-eq1-2.ensures.order (λ _ h. power _ h d l) (λ _ h. power _ h d l)
