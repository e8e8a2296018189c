use Rattle.std.proofs.Common.{◌++◌, ◌-◌, ◌≡◌, ◌∙◌, ap, arith}
use Rattle.nil_word.specs.Exponents.{numbers}
use Rattle.identity_check.proofs.Pushing.{push_x}
use Rattle.identity_check.proofs.listing.push_xs.Goals as goal

pub loop-k-preserved : goal.loop-k-preserved
loop-k-preserved c =
    push_x c.loop-k.vars.items c.args.vars.now.items c.push.new.self.items c.args.low c.loop-k.k
    (omega arith) c.loop-k.invariant c.in_ok-push.ensures.items

pub returns : goal.returns
returns c =
    let e : c.loop-k.k - c.args.low ≡ c.args.end - c.args.low = omega arith in
    c.loop-k.invariant ∙ ap (λ d. c.args.vars.now.items ++ numbers c.args.low d) e
