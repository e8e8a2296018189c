use Rattle.std.proofs.Common.{◌∙◌, inl, inr, arith}
use Rattle.std.proofs.lemmas.Bool.Decides.{nat_tests}
use Rattle.identity_check.proofs.Crossings.{own_last, often_last, past_last}
use Rattle.identity_check.proofs.crossing.crosses.Goals.{then-last-k-via-then-last-k, then-last-k-via-else-last-k+then-last-y_of}
use Rattle.identity_check.proofs.crossing.crosses.Goals as goal

pub returns-then-last-k : goal.returns-then-last-k
returns-then-last-k c = λ true.
    elim c.then-last-k.branch [
      | then-last-k-via-then-last-k w ↦
          own_last c.args.k c.args.parts.now c.if-count-eq0.false (inl w.if-last-k.true)
      | then-last-k-via-else-last-k+then-last-y_of w ↦
          own_last c.args.k c.args.parts.now c.if-count-eq0.false (inr (w.if-last-y_of.true ∙ w.y_of.ensures))
    ]

pub returns-then-last-gt1 : goal.returns-then-last-gt1
returns-then-last-gt1 c = λ true.
    often_last c.args.k c.args.parts.now c.if-count-eq0.false c.if-last-lt-SIDE.false c.if-last-gt1.true

pub returns-then-count-gt1 : goal.returns-then-count-gt1
returns-then-count-gt1 c = λ h.
    past_last c.args.k c.args.parts.now c.if-count-gt1.true c.if-last-lt-SIDE.false
    (grind (arith, nat_tests, h))
