use Rattle.std.proofs.Common.{◌∙◌, ◌≤◌, get_or, length, length-set, take, drop, refl, sym, ap, subst}
use Rattle.std.proofs.lemmas.Grind.{take_at_read}
use Rattle.binom_poly.specs.Readings.{value_at, IsCovered}
use Rattle.nested_poly.specs.declared.tree.Tree.{Tree}
use Rattle.nested_poly.specs.Roots.{first_branch, HasFirst}
use Rattle.nested_poly.specs.Counts.{weighed_at, Counts}
use Rattle.nested_poly.proofs.Totals.{weighs_ok, root_nodes_are, root_start, roots_begin, roots_next, roots_end}
use Rattle.nested_poly.proofs.summing.add_roots.Goals as goal

pub loop-root-init : goal.loop-root-init
loop-root-init c = roots_begin (value_at c.args.rows.now) c.args.trees.now c.args.sums.now c.requires.length c.requires.totals

pub split_at-requires : goal.split_at-requires
split_at-requires c =
    let r = get_or c.args.roots.now c.loop-root.root-index record { place = 0; start = 0 } in
    subst (λ ns. r.start ≤ length ns) (sym (c.deref.ensures.value ∙ ap (λ (t : Tree). t.nodes.items) (sym c.index-trees-root.is)))
    (root_start c.args.trees.now c.args.part r c.index-trees-root.result (c.requires.roots c.loop-root.root-index _ c.loop-root-test.true) c.index-trees-root.is)

pub weigh_first-more-requires-clause-form : goal.weigh_first-more-requires-clause-form
weigh_first-more-requires-clause-form c =
    let r = get_or c.args.roots.now c.loop-root.root-index record { place = 0; start = 0 } in
    let h = c.requires.roots c.loop-root.root-index record { place = 0; start = 0 } c.loop-root-test.true in
    subst (HasFirst c.args.part)
    (root_nodes_are c.args.trees.now r c.index-trees-root.result c.split_at.result.1.now h.within c.index-trees-root.is (c.split_at.ensures.back ∙ ap (drop r.start) (c.deref.ensures.value ∙ ap (λ (t : Tree). t.nodes.items) (sym c.index-trees-root.is))))
    h.first

pub weigh_first-more-requires-clause-covered : goal.weigh_first-more-requires-clause-covered
weigh_first-more-requires-clause-covered c =
    let r = get_or c.args.roots.now c.loop-root.root-index record { place = 0; start = 0 } in
    let h = c.requires.roots c.loop-root.root-index record { place = 0; start = 0 } c.loop-root-test.true in
    subst (λ ns. IsCovered c.args.rows.now (first_branch ns))
    (root_nodes_are c.args.trees.now r c.index-trees-root.result c.split_at.result.1.now h.within c.index-trees-root.is (c.split_at.ensures.back ∙ ap (drop r.start) (c.deref.ensures.value ∙ ap (λ (t : Tree). t.nodes.items) (sym c.index-trees-root.is))))
    (c.requires.covered c.loop-root.root-index record { place = 0; start = 0 } c.loop-root-test.true)

pub loop-root-preserved : goal.loop-root-preserved
loop-root-preserved c =
    let a = value_at c.args.rows.now in
    let r = get_or c.args.roots.now c.loop-root.root-index record { place = 0; start = 0 } in
    let h = c.requires.roots c.loop-root.root-index record { place = 0; start = 0 } c.loop-root-test.true in
    let is =
    root_nodes_are c.args.trees.now r c.index-trees-root.result c.split_at.result.1.now h.within c.index-trees-root.is (c.split_at.ensures.back ∙ ap (drop r.start) (c.deref.ensures.value ∙ ap (λ (t : Tree). t.nodes.items) (sym c.index-trees-root.is))) in
    roots_next a c.args.trees.now c.args.sums.now c.loop-root.sums _ (take c.loop-root.root-index c.args.roots.now) _ r c.with.result (take_at_read c.args.roots.now c.loop-root.root-index record { place = 0; start = 0 } c.loop-root-test.true).1 h.within
    (subst (λ ns. Counts a (first_branch ns) (weighed_at c.loop-root.sums r.place) c.with.result) (sym is) (c.with.ensures.counts a (first_branch c.split_at.result.1.now) c.weigh_first-more.ensures))
    c.with.ensures.total refl (length-set c.loop-root.sums r.place c.with.result) c.loop-root.invariant

pub with-requires-clause-more : goal.with-requires-clause-more
with-requires-clause-more c = weighs_ok (value_at c.args.rows.now) (first_branch c.split_at.result.1.now) c.weigh_first-more.result c.weigh_first-more.ensures

pub returns-clause-sums : goal.returns-clause-sums
returns-clause-sums c = (roots_end (value_at c.args.rows.now) c.args.trees.now c.args.sums.now c.loop-root.sums c.args.roots.now c.loop-root.root-index c.loop-root-test.false c.loop-root.invariant).counted
