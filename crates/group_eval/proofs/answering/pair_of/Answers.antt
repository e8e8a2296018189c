use Rattle.std.proofs.Common.{◌≡◌, Ok, sym, ◌∙◌, ap, subst}
use Rattle.nil_num.specs.Outcome.{Gives}
use Rattle.group_eval.specs.Expressions.{evaluated}
use Rattle.group_eval.specs.Fault.{place_of}
use Rattle.group_eval.specs.Order.{both}
use Rattle.group_eval.proofs.Parts.{length-evaluated}
use Rattle.group_eval.proofs.answering.pair_of.Goals as goal

pub pair-requires-clause-vectors : goal.pair-requires-clause-vectors
pair-requires-clause-vectors c = (
  length-evaluated c.args.checked.now c.args.left.now c.in_ok-a.a c.requires.left
      c.in_ok-a.ensures.order,
  (
    length-evaluated c.args.checked.now c.args.right.now c.in_ok-b.b c.requires.right
        c.in_ok-b.ensures.order,
    tt,
  ),
)

pub returns-clause-order : goal.returns-clause-order
returns-clause-order c =
    let table = c.args.checked.now.table in
    subst (λ o. Gives place_of c.pair.result (λ r. o ≡ r))
    (sym (ap (λ o. both table c.args.pairing o (evaluated table c.args.right.now))
    c.in_ok-a.ensures.order
    ∙ ap (λ o. both table c.args.pairing (Ok c.in_ok-a.a) o) c.in_ok-b.ensures.order))
    c.pair.ensures.order
