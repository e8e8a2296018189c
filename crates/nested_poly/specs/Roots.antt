-- The branches at the roots of trees, by their parts.
--   first_branch ns        the terms of the first branch of nodes
--   HasFirst p ns          nodes whose first one has the part p
--   IsRoot ts p r          r is a root of one of the trees, of the part p
--   AreRoots ts gs         each group has roots of its part
--   only k j ts            the terms where j is k, else none
--   roots_at ts k rs       the terms of those of the roots that are of the tree at k
--   groups_at ts k gs      the same for the roots of groups
--   AreCovered rows ts rs  the rows cover the terms of the roots
--   AddsRoot old new p r   the groups new have the roots of old and r of the part p
--   AddsTree ts old new j  the groups new have the roots of old and those of the tree at j
--   IsIndex ts gs          the groups have the roots of all trees
-- p part · n ns nodes · ts terms or trees · j k places · r rs roots · g gs groups
use Rattle.std.specs.Prelude.{◌≡◌, ℕ, ◌<◌, ◌==◌, List, [], ◌∷◌, ◌++◌, length, All, cond}
use Rattle.std.proofs.Common.{take, drop}
use Rattle.binom_poly.specs.declared.part.Part.{Part}
use Rattle.binom_poly.specs.declared.term.Term.{Term}
use Rattle.binom_poly.specs.Reading.{Reading}
use Rattle.binom_poly.specs.Readings.{IsCovered}
use Rattle.nested_poly.specs.declared.node.Node.{Node}
use Rattle.nested_poly.specs.declared.root.Root.{Root}
use Rattle.nested_poly.specs.declared.root.Group.{Group}
use Rattle.nested_poly.specs.declared.tree.Tree.{Tree}
use Rattle.nested_poly.specs.Nodes.{branch_terms, terms_of, IsForest, IsNestOf}
use Rattle.nested_poly.specs.Trees.{nodes_at}

unfoldable pub first_branch : List Node → List Term
first_branch [] = []
first_branch (n ∷ ns) = branch_terms n (terms_of (take n.below ns))

unfoldable pub HasFirst : Part → List Node → Type 0
HasFirst p [] = ⊥
HasFirst p (n ∷ ns) = (n.part ≡ p) × IsForest (n ∷ ns)

abbrev pub root_nodes : List Tree → Root → List Node
root_nodes ts r = drop r.start (nodes_at ts r.place)

pub record IsRoot (ts : List Tree) (p : Part) (r : Root) : Type 0 where
  pub within : r.place < length ts
  pub first : HasFirst p (root_nodes ts r)

unfoldable pub AreRoots : List Tree → List Group → Type 0
AreRoots ts [] = Unit {0}
AreRoots ts (g ∷ gs) = All (IsRoot ts g.part) g.roots.items × AreRoots ts gs

abbrev pub only : ℕ → ℕ → List Term → List Term
only k j ts = cond (j == k) ts []

unfoldable pub roots_at : List Tree → ℕ → List Root → List Term
roots_at ts k [] = []
roots_at ts k (r ∷ rs) = only k r.place (first_branch (root_nodes ts r)) ++ roots_at ts k rs

unfoldable pub groups_at : List Tree → ℕ → List Group → List Term
groups_at ts k [] = []
groups_at ts k (g ∷ gs) = roots_at ts k g.roots.items ++ groups_at ts k gs

abbrev pub AreCovered : List Reading → List Tree → List Root → Type 0
AreCovered rows ts rs = All (λ r. IsCovered rows (first_branch (root_nodes ts r))) rs

pub record AddsRoot (old new : List Group) (p : Part) (r : Root) : Type 0 where
  pub terms : (ts : List Tree) (k : ℕ)
      → IsNestOf (groups_at ts k new) (groups_at ts k old ++ roots_at ts k (r ∷ []))
  pub roots : (ts : List Tree) → AreRoots ts old → IsRoot ts p r → AreRoots ts new

pub record AddsTree (ts : List Tree) (old new : List Group) (j : ℕ) : Type 0 where
  pub terms : (k : ℕ)
      → IsNestOf (groups_at ts k new) (groups_at ts k old ++ only k j (terms_of (nodes_at ts j)))
  pub roots : AreRoots ts old → AreRoots ts new

pub record IsIndex (ts : List Tree) (gs : List Group) : Type 0 where
  pub roots : AreRoots ts gs
  pub terms : (k : ℕ) → k < length ts → IsNestOf (groups_at ts k gs) (terms_of (nodes_at ts k))
