use Rattle.std.proofs.Common.{◌∙◌, sym, ap}
use Rattle.nested_poly.specs.declared.tree.Tree.{Tree}
use Rattle.nested_poly.proofs.Gathering.{index_begins, index_more, nodes_read}
use Rattle.nested_poly.proofs.indexing.index.Goals as goal

pub loop-place-init : goal.loop-place-init
loop-place-init c = index_begins c.args.trees.now c.new-groups.result.items c.new-groups.ensures.items

pub loop-place-preserved : goal.loop-place-preserved
loop-place-preserved c =
    index_more c.args.trees.now c.loop-place.groups.items c.add_tree.new.groups.items c.loop-place.place
    (c.in_ok-add_tree.ensures c.args.trees.now c.loop-place-test.true (nodes_read c.args.trees.now c.loop-place.place c.index-trees-place.result c.loop-place-test.true c.index-trees-place.is ∙ ap (λ (t : Tree). t.nodes.items) c.index-trees-place.is ∙ sym c.deref.ensures.value))
    c.loop-place.invariant
