use Rattle.std.proofs.Common.{rules, FitsSigned, refl}
use Rattle.std.specs.Int.{w128}
use Rattle.group_eval.proofs.Differences.{wide_unfit, wide_least, difference_is}
use Rattle.group_eval.proofs.solving.difference_at.Goals as goal

-- the difference doesn't fit
pub returns-in_default-clause-wide : goal.returns-in_default-clause-wide
returns-in_default-clause-wide c =
    let g : FitsSigned w128 c.in_ok-value.value = search rules in (
      refl,
      wide_unfit _ c.args.b c.in_ok-value.value _ c.ranges.b g c.in_ok-value.ensures.value
          c.in_default.ensures,
    )

-- it is the least number of 128 bits
pub returns-then-difference-clause-wide : goal.returns-then-difference-clause-wide
returns-then-difference-clause-wide c =
    let g : FitsSigned w128 c.in_ok-value.value = search rules in
    let d : FitsSigned w128 c.in-Some.difference = search rules in (
      refl,
      wide_least _ c.args.b c.in_ok-value.value _ c.in-Some.difference c.ranges.b g
          c.in_ok-value.ensures.value d c.in-Some.ensures.1 c.if-difference.true,
    )

pub returns-clause-value : goal.returns-clause-value
returns-clause-value c =
    let g : FitsSigned w128 c.in_ok-value.value = search rules in
    let d : FitsSigned w128 c.in-Some.difference = search rules in
    difference_is c.args.b c.in_ok-value.value _ c.in-Some.difference c.ranges.b g
    c.in_ok-value.ensures.value d c.in-Some.ensures.1
