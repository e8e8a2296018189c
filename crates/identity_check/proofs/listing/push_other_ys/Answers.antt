use Rattle.std.proofs.Common.{◌++◌, ◌-◌, ◌≡◌, ◌∙◌, ap, arith}
use Rattle.nil_word.specs.Exponents.{numbers}
use Rattle.identity_check.proofs.Holding.{others}
use Rattle.identity_check.proofs.Pushing.{push_other, push_none}
use Rattle.identity_check.proofs.listing.push_other_ys.Goals as goal
use Rattle.identity_check.proofs.listing.push_other_ys.Goals.{then-k-j+in_ok-push, else-k-j}

pub loop-k-preserved : goal.loop-k-preserved
loop-k-preserved c =
    elim c.if-k-j.branch [
      | then-k-j+in_ok-push w ↦
          push_other c.loop-k.vars.items c.args.vars.now.items c.if-k-j.vars.items c.args.low c.loop-k.k
          c.args.j w.y_of.result (omega arith) w.if-k-j.true w.y_of.ensures c.loop-k.invariant
          (ap (λ v. v.items) w.vars-is ∙ w.in_ok-push.ensures.items)
      | else-k-j w ↦
          ap (λ v. v.items) w.vars-is
          ∙ push_none c.loop-k.vars.items c.args.vars.now.items c.args.low c.loop-k.k c.args.j
          (omega arith) w.if-k-j.false c.loop-k.invariant
    ]

pub returns : goal.returns
returns c =
    let e : c.loop-k.k - c.args.low ≡ c.args.end - c.args.low = omega arith in
    c.loop-k.invariant ∙ ap (λ d. c.args.vars.now.items ++ others c.args.j (numbers c.args.low d)) e
