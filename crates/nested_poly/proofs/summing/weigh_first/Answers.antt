use Rattle.std.proofs.Common.{◌∙◌, sym, ap, subst}
use Rattle.std.specs.Int.{w128}
use Rattle.std.proofs.lemmas.Int.{to_z-of_z}
use Rattle.integer.specs.Binomial.{choose}
use Rattle.binom_poly.specs.Readings.{value_at, IsCovered}
use Rattle.binom_poly.specs.declared.part.Part.{Part}
use Rattle.nested_poly.specs.Nodes.{IsForest, Weighs}
use Rattle.nested_poly.proofs.Firsts.{no_first, first_of, first_is}
use Rattle.nested_poly.proofs.summing.weigh_first.Goals as goal

pub returns-in_default : goal.returns-in_default
returns-in_default c = absurd (no_first c.args.part c.args.nodes.now c.in_default.ensures.cases c.requires.form)

pub split_at-requires : goal.split_at-requires
split_at-requires c = (first_of c.args.part c.args.nodes.now c.in-Some.after.now c.in-Some.node.now c.in-Some.ensures.cases.0 c.requires.form).front.within

pub weigh_branch-requires-clause-form : goal.weigh_branch-requires-clause-form
weigh_branch-requires-clause-form c =
    subst IsForest (sym c.split_at.ensures.front) (first_of c.args.part c.args.nodes.now c.in-Some.after.now c.in-Some.node.now c.in-Some.ensures.cases.0 c.requires.form).front.below

pub weigh_branch-requires-clause-covered : goal.weigh_branch-requires-clause-covered
weigh_branch-requires-clause-covered c =
    subst (IsCovered c.args.rows.now) (first_is c.args.nodes.now c.in-Some.after.now c.split_at.result.0.now c.in-Some.node.now c.in-Some.ensures.cases.0 c.split_at.ensures.front) c.requires.covered

pub weigh_branch-requires-clause-factor : goal.weigh_branch-requires-clause-factor
weigh_branch-requires-clause-factor c =
    let e = (first_of c.args.part c.args.nodes.now c.in-Some.after.now c.in-Some.node.now c.in-Some.ensures.cases.0 c.requires.form).part in
    to_z-of_z w128 c.args.factor c.ranges.factor ∙ c.requires.factor ∙ ap (λ (p : Part). choose (value_at c.args.rows.now p.var) p.exp) (sym e)

pub weigh_branch-requires-clause-nonzero : goal.weigh_branch-requires-clause-nonzero
weigh_branch-requires-clause-nonzero c = λ z. c.requires.nonzero (sym (to_z-of_z w128 c.args.factor c.ranges.factor) ∙ z)

pub returns : goal.returns
returns c =
    subst (λ ts. Weighs (value_at c.args.rows.now) ts c.weigh_branch.result)
    (sym (first_is c.args.nodes.now c.in-Some.after.now c.split_at.result.0.now c.in-Some.node.now c.in-Some.ensures.cases.0 c.split_at.ensures.front)) c.weigh_branch.ensures
