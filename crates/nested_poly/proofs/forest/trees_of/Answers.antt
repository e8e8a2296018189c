use Rattle.std.proofs.Common.{arith}
use Rattle.nested_poly.proofs.Forests.{trees_begin, trees_more, all_trees}
use Rattle.nested_poly.proofs.forest.trees_of.Goals as goal

pub loop-poly-init : goal.loop-poly-init
loop-poly-init c = trees_begin c.in_ok-trees.trees.items c.args.polys.now c.in_ok-trees.ensures.items

pub loop-poly-preserved : goal.loop-poly-preserved
loop-poly-preserved c =
    trees_more c.loop-poly.trees.items c.push.new.self.items c.args.polys.now c.loop-poly.poly-index _ c.poly-item.result (omega arith) c.poly-item.is c.in_ok-push.ensures.items c.in_ok-of.ensures.nest c.in_ok-of.ensures.form c.loop-poly.invariant

pub returns-clause-nests : goal.returns-clause-nests
returns-clause-nests c = (all_trees c.loop-poly.trees.items c.args.polys.now c.loop-poly.poly-index c.loop-poly-test.false c.loop-poly.invariant).nests

pub returns-clause-forms : goal.returns-clause-forms
returns-clause-forms c = (all_trees c.loop-poly.trees.items c.args.polys.now c.loop-poly.poly-index c.loop-poly-test.false c.loop-poly.invariant).forms
