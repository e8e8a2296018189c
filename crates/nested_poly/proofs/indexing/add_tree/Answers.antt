use Rattle.std.proofs.Common.{◌-◌, length, refl, subst}
use Rattle.nested_poly.specs.Nodes.{IsForest}
use Rattle.nested_poly.proofs.Branching.{forest_front}
use Rattle.nested_poly.proofs.Gathering.{part_begins, part_more, tree_begins, tree_more, tree_ends}
use Rattle.nested_poly.proofs.indexing.add_tree.Goals as goal

pub roots-init : goal.roots-init
roots-init c = record {
  part = part_begins c.args.nodes.now c.requires;
  tree = λ ts _ _. tree_begins ts c.args.groups.now.items c.args.place c.args.nodes.now;
}

pub split_at-requires : goal.split_at-requires
split_at-requires c = (forest_front c.in-Some.node.now c.in-Some.after.now (subst IsForest c.in-Some.ensures.cases.0 c.roots.invariant.part.form)).within

pub roots-preserved : goal.roots-preserved
roots-preserved c = record {
  part = part_more c.args.nodes.now c.roots.rest.now c.in-Some.after.now c.split_at.result.1.now c.in-Some.node.now c.in-Some.ensures.cases.0 c.split_at.ensures.back c.roots.invariant.part;
  tree = λ ts l d.
      tree_more ts c.args.groups.now.items c.roots.groups.items c.add_root.new.groups.items c.args.place c.args.nodes.now c.roots.rest.now c.in-Some.after.now c.split_at.result.1.now c.in-Some.node.now
      record { place = c.args.place; start = length c.args.nodes.now - length c.roots.rest.now }
      l d c.in-Some.ensures.cases.0 c.split_at.ensures.back refl refl c.roots.invariant.part c.in_ok-add_root.ensures (c.roots.invariant.tree ts l d);
}

pub returns : goal.returns
returns c = λ ts l d. tree_ends ts c.args.groups.now.items c.roots.groups.items c.args.place c.args.nodes.now c.roots.rest.now d c.in_default.ensures.cases (c.roots.invariant.tree ts l d)
