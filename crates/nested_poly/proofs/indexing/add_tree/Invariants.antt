use Rattle.std.proofs.Common.{◌≡◌, ◌<◌, List, length}
use Rattle.nested_poly.specs.declared.tree.Tree.{Tree}
use Rattle.nested_poly.specs.Trees.{nodes_at}
use Rattle.nested_poly.proofs.Gathering.{Part_of, TreeSoFar}
use Rattle.nested_poly.proofs.indexing.add_tree.Given as goal

abbrev pub invariant-roots : goal.invariant-roots
invariant-roots l = record {
  part : Part_of l.nodes l.rest;
  tree : (ts : List Tree) → l.place < length ts → nodes_at ts l.place ≡ l.nodes → TreeSoFar ts l.initial.groups.items l.groups.items l.place l.nodes l.rest;
}

abbrev pub decreases-roots : goal.decreases-roots
decreases-roots l = length l.rest
