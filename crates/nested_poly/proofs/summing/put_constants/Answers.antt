use Rattle.std.proofs.Common.{◌∙◌, length-set, get_or, refl, sym, ap, subst, arith, rules, FitsSigned}
use Rattle.std.specs.Prelude.{unsigned_abs}
use Rattle.std.specs.Int.{w128}
use Rattle.std.proofs.lemmas.Int.{to_z-of_z}
use Rattle.nested_poly.specs.declared.tree.Tree.{Tree}
use Rattle.nested_poly.proofs.Starting.{begun_more, all_totals}
use Rattle.nested_poly.proofs.summing.put_constants.Goals as goal

pub loop-place-preserved : goal.loop-place-preserved
loop-place-preserved c =
    let t = get_or c.args.trees.now c.loop-place.place c.index-trees-place.result in
    let f : FitsSigned w128 c.index-trees-place.result.constant = search rules in
    let g : FitsSigned w128 t.constant = subst (λ (u : Tree). FitsSigned w128 u.constant) c.index-trees-place.is f in
    let e = to_z-of_z w128 t.constant g ∙ ap (λ (u : Tree). u.constant) (sym c.index-trees-place.is) in
    begun_more c.args.trees.now c.loop-place.sums _ c.loop-place.place c.index-trees-place.result c.of.result c.loop-place-test.true c.index-trees-place.is refl (length-set c.loop-place.sums c.loop-place.place c.of.result)
    (c.of.ensures.value ∙ e) (c.of.ensures.magnitude ∙ ap unsigned_abs e) c.loop-place.invariant

pub returns-clause-totals : goal.returns-clause-totals
returns-clause-totals c = all_totals c.args.trees.now c.loop-place.sums c.loop-place.place c.loop-place-test.false c.loop-place.invariant

pub returns-clause-begun : goal.returns-clause-begun
returns-clause-begun c a k l = c.loop-place.invariant.begun a k (omega (arith, c.loop-place-test.false))
