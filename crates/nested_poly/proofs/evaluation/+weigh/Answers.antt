use Rattle.std.proofs.Common.{◌≡◌, length, ◌∙◌, sym, ap, subst, arith, rules, FitsSigned, of_z, ◌+◌, ◌^◌, ◌≤◌}
use Rattle.std.specs.Int.{w128}
use Rattle.std.proofs.lemmas.Int.{to_z-of_z}
use Rattle.std.proofs.lemmas.Result.{err_from_is_err_and}
use Rattle.binom_poly.specs.Readings.{value_at}
use Rattle.binom_poly.proofs.Sorting.{zero_of_bits}
use Rattle.nested_poly.specs.Nodes.{terms_of}
use Rattle.nested_poly.proofs.Branching.{covered_first, covered_below, lower_overflows, branch_overflows, branch_weighs, Front}
use Rattle.nested_poly.proofs.Levels.{sum_begins, rest_front, first_of_rest, sum_more, sum_stays, sum_overflows, sum_ends, First}
use Rattle.nested_poly.proofs.evaluation.+weigh.Goals as goal

-- ---- a branch
pub weigh_branch-weigh-requires : goal.weigh_branch-weigh-requires
weigh_branch-weigh-requires t c = (search rules, (c.requires.form, (covered_below c.args.rows.now c.args.node.now.part _ c.requires.covered).1))

pub weigh_branch-returns-in_err-lower : goal.weigh_branch-returns-in_err-lower
weigh_branch-returns-in_err-lower t c =
    let p = err_from_is_err_and c.from_residual.result c.from_residual.ensures.1 in
    rw (p.1)
    (lower_overflows (value_at c.args.rows.now) c.args.node.now (terms_of c.args.below.now) c.args.factor c.requires.factor c.requires.nonzero c.in_err-lower.ensures)

pub weigh_branch-returns-in_err-whole : goal.weigh_branch-returns-in_err-whole
weigh_branch-returns-in_err-whole t c =
    let f : FitsSigned w128 c.args.node.now.coefficient = search rules in
    let e = to_z-of_z w128 c.args.node.now.coefficient f in
    let p = err_from_is_err_and c.from_residual-in_err-whole.result c.from_residual-in_err-whole.ensures.1 in
    rw (p.1)
    (branch_overflows (value_at c.args.rows.now) c.args.node.now (terms_of c.args.below.now) c.args.factor _ c.in_ok-lower.lower.magnitude c.requires.factor c.requires.nonzero
    c.in_ok-lower.ensures.1 e c.in_err-whole.ensures)

pub weigh_branch-returns : goal.weigh_branch-returns
weigh_branch-returns t c =
    let f : FitsSigned w128 c.args.node.now.coefficient = search rules in
    let e = to_z-of_z w128 c.args.node.now.coefficient f in
    branch_weighs (value_at c.args.rows.now) c.args.node.now (terms_of c.args.below.now) _ c.args.factor _ c.in_ok-lower.lower c.in_ok-whole.whole c.times.result (to_z-of_z w128 c.args.factor c.ranges.factor) c.requires.factor e
    c.in_ok-lower.ensures c.in_ok-whole.ensures c.times.ensures

-- ---- one level
pub weigh-siblings-init : goal.weigh-siblings-init
weigh-siblings-init t c = sum_begins c.args.rows.now c.args.nodes.now c.requires.form c.requires.covered

pub weigh-split_at-requires : goal.weigh-split_at-requires
weigh-split_at-requires t c =
    let h : Front c.in-Some.node.now c.in-Some.after.now = rest_front c.args.rows.now c.args.nodes.now c.siblings.rest.now c.in-Some.after.now c.in-Some.node.now c.siblings.sum.value c.siblings.sum.magnitude c.in-Some.ensures.cases.0 c.siblings.invariant in h.within

pub weigh-at-factor-requires : goal.weigh-at-factor-requires
weigh-at-factor-requires t c =
    let h : First c.args.rows.now c.in-Some.node.now c.split_at.result.0.now c.split_at.result.1.now =
    first_of_rest c.args.rows.now c.args.nodes.now c.siblings.rest.now c.in-Some.after.now c.split_at.result.0.now c.split_at.result.1.now c.in-Some.node.now c.siblings.sum.value c.siblings.sum.magnitude c.in-Some.ensures.cases.0 c.split_at.ensures.front c.split_at.ensures.back c.siblings.invariant in
    covered_first c.args.rows.now c.in-Some.node.now (terms_of c.split_at.result.0.now) h.covered

pub weigh-weigh_branch-requires : goal.weigh-weigh_branch-requires
weigh-weigh_branch-requires t c =
    let i : FitsSigned w128 c.at-factor.result = search rules in
    let d = to_z-of_z w128 c.at-factor.result i in
    let h : First c.args.rows.now c.in-Some.node.now c.split_at.result.0.now c.split_at.result.1.now =
    first_of_rest c.args.rows.now c.args.nodes.now c.siblings.rest.now c.in-Some.after.now c.split_at.result.0.now c.split_at.result.1.now c.in-Some.node.now c.siblings.sum.value c.siblings.sum.magnitude c.in-Some.ensures.cases.0 c.split_at.ensures.front c.split_at.ensures.back c.siblings.invariant in
    let x : length c.in-Some.after.now + 1 ≡ length c.siblings.rest.now = c.in-Some.ensures.cases.1 in
    let y : length c.split_at.result.0.now ≤ length c.in-Some.after.now = omega (arith, c.split_at.ensures.front_len, c.split_at.ensures.back_len) in
    let z : length c.siblings.rest.now ≤ length c.args.nodes.now = c.siblings.invariant.shorter in
    (search rules, (h.form, (h.covered, (d ∙ c.at-factor.ensures, λ o. c.if-factor-ne0.true (ap (of_z w128) (sym d ∙ o))))))

pub weigh-returns-in_err-more : goal.weigh-returns-in_err-more
weigh-returns-in_err-more t c =
    let p = err_from_is_err_and c.from_residual.result c.from_residual.ensures.1 in
    rw (p.1)
    (sum_overflows c.args.rows.now c.args.nodes.now c.siblings.rest.now c.in-Some.after.now c.split_at.result.0.now c.split_at.result.1.now c.in-Some.node.now c.siblings.sum c.in-Some.ensures.cases.0 c.split_at.ensures.front c.split_at.ensures.back c.siblings.invariant
    (omega (arith, c.in_err-more.ensures)))

pub weigh-returns-in_err-sum : goal.weigh-returns-in_err-sum
weigh-returns-in_err-sum t c =
    let p = err_from_is_err_and c.from_residual-in_err-sum.result c.from_residual-in_err-sum.ensures.1 in
    rw (p.1)
    (sum_overflows c.args.rows.now c.args.nodes.now c.siblings.rest.now c.in-Some.after.now c.split_at.result.0.now c.split_at.result.1.now c.in-Some.node.now c.siblings.sum c.in-Some.ensures.cases.0 c.split_at.ensures.front c.split_at.ensures.back c.siblings.invariant
    (subst (λ n. 2 ^ 127 ≤ c.siblings.sum.magnitude + n) c.in_ok-more.ensures.1 c.in_err-sum.ensures))

pub weigh-siblings-preserved : goal.weigh-siblings-preserved
weigh-siblings-preserved t c =
    let f : FitsSigned w128 c.at-factor.result = search rules in
    sum_stays c.args.rows.now c.args.nodes.now c.siblings.rest.now c.in-Some.after.now c.split_at.result.0.now c.split_at.result.1.now c.in-Some.node.now c.siblings.sum c.at-factor.result c.in-Some.ensures.cases.0 c.split_at.ensures.front c.split_at.ensures.back c.siblings.invariant
    c.at-factor.ensures (zero_of_bits c.at-factor.result f c.if-factor-ne0.false)

pub weigh-siblings-preserved-in_ok-sum : goal.weigh-siblings-preserved-in_ok-sum
weigh-siblings-preserved-in_ok-sum t c =
    sum_more c.args.rows.now c.args.nodes.now c.siblings.rest.now c.in-Some.after.now c.split_at.result.0.now c.split_at.result.1.now c.in-Some.node.now c.siblings.sum c.in_ok-more.more c.in_ok-sum.sum c.in-Some.ensures.cases.0 c.split_at.ensures.front c.split_at.ensures.back c.siblings.invariant
    c.in_ok-more.ensures c.in_ok-sum.ensures

pub weigh-returns : goal.weigh-returns
weigh-returns t c = sum_ends c.args.rows.now c.args.nodes.now c.siblings.rest.now c.siblings.sum c.in_default.ensures.cases c.siblings.invariant
