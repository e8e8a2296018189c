-- Trees of polynomials.
--   tree_terms t      the terms of a tree: its constant and those of its nodes
--   forest_terms ts   those of each tree
--   nodes_at ts k     the nodes of the tree at place k, and none past the end
--   AreNests ns ps    ns are the trees of the polynomials ps, in order
-- t tree · ts trees · k place · n ns trees, as their terms · p ps polynomials
use Rattle.std.specs.Prelude.{ℕ, List, [], ◌∷◌}
use Rattle.std.proofs.Common.{zero, suc}
use Rattle.binom_poly.specs.declared.term.Term.{Term}
use Rattle.nested_poly.specs.declared.node.Node.{Node}
use Rattle.nested_poly.specs.declared.tree.Tree.{Tree}
use Rattle.nested_poly.specs.Nodes.{nested_terms, IsNestOf}

abbrev pub tree_terms : Tree → List Term
tree_terms t = nested_terms t.constant t.nodes.items

unfoldable pub forest_terms : List Tree → List (List Term)
forest_terms [] = []
forest_terms (t ∷ ts) = tree_terms t ∷ forest_terms ts

unfoldable pub nodes_at : List Tree → ℕ → List Node
nodes_at [] k = []
nodes_at (t ∷ ts) zero = t.nodes.items
nodes_at (t ∷ ts) (suc k) = nodes_at ts k

unfoldable pub AreNests : List (List Term) → List (List Term) → Type 0
AreNests [] [] = Unit {0}
AreNests [] (p ∷ ps) = ⊥
AreNests (n ∷ ns) [] = ⊥
AreNests (n ∷ ns) (p ∷ ps) = IsNestOf n p × AreNests ns ps
