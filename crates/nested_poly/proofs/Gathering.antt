-- The roots of trees, one tree after another
use Rattle.std.proofs.Common.{◌≡◌, ◌≢◌, ℕ, zero, suc, ◌+◌, ◌-◌, ◌<◌, ◌≤◌, Bool, cond, eqb, List, [], ◌∷◌, ◌++◌, length, take, drop, get_or, refl, sym, ap, ◌∙◌, subst, arith, inl, inr, append_assoc}
use Rattle.std.proofs.lemmas.Bool.{cases_Bool, eqb-true, eq-eqb, false≢true}
use Rattle.std.proofs.lemmas.Grind.{common_steps}
use Rattle.binom_poly.specs.declared.term.Term.{Term}
use Rattle.nested_poly.specs.declared.node.Node.{Node}
use Rattle.nested_poly.specs.declared.root.Group.{Group}
use Rattle.nested_poly.specs.declared.root.Root.{Root}
use Rattle.nested_poly.specs.declared.tree.Tree.{Tree}
use Rattle.nested_poly.specs.Nodes.{terms_of, terms_within, IsForest, IsNestOf}
use Rattle.nested_poly.specs.Trees.{nodes_at}
use Rattle.nested_poly.specs.Roots.{first_branch, only, root_nodes, roots_at, groups_at, HasFirst, AreRoots, AddsRoot, AddsTree, IsIndex}
use Rattle.nested_poly.proofs.Branching.{forest_front}
use Rattle.nested_poly.proofs.Firsts.{first_and_next}
use Rattle.nested_poly.proofs.Nesting.{nest_same, nest_trans, nest_append, nest_equal}
use Rattle.nested_poly.proofs.Rooting.{append_none}

only-append : (k j : ℕ) (ts us : List Term) → only k j (ts ++ us) ≡ only k j ts ++ only k j us
only-append k j ts us =
    elim (cases_Bool (eqb j k)) [
      | inl b ↦ ap (λ (c : Bool). cond c (ts ++ us) []) b ∙ sym (ap (λ (c : Bool). cond c ts [] ++ cond c us []) b)
      | inr b ↦ ap (λ (c : Bool). cond c (ts ++ us) []) b ∙ sym (ap (λ (c : Bool). cond c ts [] ++ cond c us []) b)
    ]

only-none : (k j : ℕ) → only k j [] ≡ []
only-none k j =
    elim (cases_Bool (eqb j k)) [
      | inl b ↦ ap (λ (c : Bool). cond c [] []) b
      | inr b ↦ ap (λ (c : Bool). cond c [] []) b
    ]

pub only-same : (k j : ℕ) (ts : List Term) → j ≡ k → only k j ts ≡ ts
only-same k j ts e = ap (λ (c : Bool). cond c ts []) (eq-eqb j k e)

pub only-other : (k j : ℕ) (ts : List Term) → j ≢ k → only k j ts ≡ []
only-other k j ts n =
    elim (cases_Bool (eqb j k)) [
      | inl b ↦ absurd (n (eqb-true j k b))
      | inr b ↦ ap (λ (c : Bool). cond c ts []) b
    ]

pub roots_at-one : (ts : List Tree) (k : ℕ) (r : Root) → roots_at ts k (r ∷ []) ≡ only k r.place (first_branch (root_nodes ts r))
unfolding roots_at
roots_at-one ts k r = append_none (only k r.place (first_branch (root_nodes ts r)))

-- ---- a tree, of which the nodes rest are still to be added
pub record Part_of (nodes rest : List Node) : Type 0 where
  pub front : List Node
  pub whole : nodes ≡ front ++ rest
  pub form : IsForest rest

pub record TreeSoFar (ts : List Tree) (old now : List Group) (j : ℕ) (nodes rest : List Node) : Type 0 where
  pub terms : (k : ℕ) → IsNestOf (groups_at ts k now ++ only k j (terms_of rest)) (groups_at ts k old ++ only k j (terms_of nodes))
  pub roots : AreRoots ts old → AreRoots ts now

pub tree_begins : (ts : List Tree) (gs : List Group) (j : ℕ) (nodes : List Node) → TreeSoFar ts gs gs j nodes nodes
tree_begins ts gs j nodes = record { terms = λ k. nest_same (groups_at ts k gs ++ only k j (terms_of nodes)); roots = λ h. h }

drop_front : (xs ys : List Node) (i : ℕ) → i ≡ length (xs ++ ys) - length ys → drop i (xs ++ ys) ≡ ys
drop_front xs ys i e = grind (arith, common_steps)

pub rest_is : (nodes rest : List Node) (i : ℕ) → i ≡ length nodes - length rest → Part_of nodes rest → drop i nodes ≡ rest
rest_is nodes rest i e h =
    ap (drop i) h.whole ∙ drop_front h.front rest i (e ∙ ap (λ xs. length xs - length rest) h.whole)

pub part_begins : (nodes : List Node) → IsForest nodes → Part_of nodes nodes
part_begins nodes h = record { front = []; whole = refl; form = h }

take_drop : (i : ℕ) (xs : List Node) → xs ≡ take i xs ++ drop i xs
take_drop i xs = grind (arith, common_steps)

pub part_more : (nodes rest after next : List Node) (n : Node) → rest ≡ n ∷ after → next ≡ drop n.below after → Part_of nodes rest → Part_of nodes next
part_more nodes rest after next n e f h = record {
  front = h.front ++ (n ∷ take n.below after);
  whole =
      h.whole ∙ ap (λ xs. h.front ++ xs) (e ∙ ap (λ xs. n ∷ xs) (take_drop n.below after ∙ ap (λ xs. take n.below after ++ xs) (sym f)))
      ∙ sym (append_assoc h.front (n ∷ take n.below after) next);
  form = subst IsForest (sym f) (forest_front n after (subst IsForest e h.form)).next;
}

has_first : (ns after : List Node) (n : Node) → ns ≡ n ∷ after → IsForest ns → HasFirst n.part ns
unfolding HasFirst
has_first ns after n e h = subst (HasFirst n.part) (sym e) (refl, subst IsForest e h)

pub tree_more : (ts : List Tree) (old now new : List Group) (j : ℕ) (nodes rest after next : List Node) (n : Node) (r : Root) → j < length ts → nodes_at ts j ≡ nodes
    → rest ≡ n ∷ after → next ≡ drop n.below after → r.place ≡ j → r.start ≡ length nodes - length rest → Part_of nodes rest → AddsRoot now new n.part r
    → TreeSoFar ts old now j nodes rest → TreeSoFar ts old new j nodes next
tree_more ts old now new j nodes rest after next n r l d e f g i p b h =
    let is : root_nodes ts r ≡ rest = ap (λ m. drop r.start (nodes_at ts m)) g ∙ ap (drop r.start) d ∙ rest_is nodes rest r.start i p in
    record {
      terms = λ k.
          let x = groups_at ts k now in
          let y = only k j (first_branch rest) in
          let z = only k j (terms_of next) in
          let one : roots_at ts k (r ∷ []) ≡ y = roots_at-one ts k r ∙ ap (λ m. only k m (first_branch (root_nodes ts r))) g ∙ ap (λ ms. only k j (first_branch ms)) is in
          let both : y ++ z ≡ only k j (terms_of rest) = sym (only-append k j (first_branch rest) (terms_of next)) ∙ ap (only k j) (sym (first_and_next rest after next n e f)) in
          nest_trans (groups_at ts k new ++ z) ((x ++ y) ++ z) (groups_at ts k old ++ only k j (terms_of nodes))
          (nest_append (groups_at ts k new) (x ++ y) z z (subst (λ us. IsNestOf (groups_at ts k new) (x ++ us)) one (b.terms ts k)) (nest_same z))
          (subst (λ us. IsNestOf us (groups_at ts k old ++ only k j (terms_of nodes))) (sym (append_assoc x y z ∙ ap (λ us. x ++ us) both)) (h.terms k));
      roots = λ q.
          b.roots ts (h.roots q)
          record { within = subst (λ m. m < length ts) (sym g) l; first = subst (HasFirst n.part) (sym is) (has_first rest after n e p.form) };
    }

no_nodes : (ns : List Node) → length ns ≡ 0 → ns ≡ []
no_nodes [] h = refl
no_nodes (n ∷ ns) h = absurd (omega arith)

no_terms : terms_of [] ≡ []
unfolding terms_within
no_terms = refl

pub tree_ends : (ts : List Tree) (old now : List Group) (j : ℕ) (nodes rest : List Node) → nodes_at ts j ≡ nodes → length rest ≡ 0 → TreeSoFar ts old now j nodes rest → AddsTree ts old now j
tree_ends ts old now j nodes rest d l h = record {
  terms = λ k.
      let none : only k j (terms_of rest) ≡ [] = ap (λ ms. only k j (terms_of ms)) (no_nodes rest l) ∙ ap (only k j) no_terms ∙ only-none k j in
      subst (λ us. IsNestOf (groups_at ts k now) (groups_at ts k old ++ only k j (terms_of us))) (sym d)
      (subst (λ us. IsNestOf us (groups_at ts k old ++ only k j (terms_of nodes))) (ap (λ us. groups_at ts k now ++ us) none ∙ append_none (groups_at ts k now)) (h.terms k));
  roots = h.roots;
}

-- ---- the trees before the place j
pub record IndexSoFar (ts : List Tree) (gs : List Group) (j : ℕ) : Type 0 where
  pub roots : AreRoots ts gs
  pub added : (k : ℕ) → k < j → IsNestOf (groups_at ts k gs) (terms_of (nodes_at ts k))
  pub later : (k : ℕ) → j ≤ k → IsNestOf (groups_at ts k gs) []

pub index_begins : (ts : List Tree) (gs : List Group) → gs ≡ [] → IndexSoFar ts gs 0
unfolding AreRoots groups_at
index_begins ts gs e = record {
  roots = subst (AreRoots ts) (sym e) tt;
  added = λ k l. absurd (omega arith);
  later = λ k l. subst (λ xs. IsNestOf (groups_at ts k xs) []) (sym e) (nest_same []);
}

pub index_more : (ts : List Tree) (gs news : List Group) (j : ℕ) → AddsTree ts gs news j → IndexSoFar ts gs j → IndexSoFar ts news (j + 1)
index_more ts gs news j b h = record {
  roots = b.roots h.roots;
  added = λ k l.
      elim (cases_Bool (eqb j k)) [
        | inl e ↦
            let same = eqb-true j k e in
            nest_trans (groups_at ts k news) (groups_at ts k gs ++ only k j (terms_of (nodes_at ts j))) (terms_of (nodes_at ts k)) (b.terms k)
            (subst (λ us. IsNestOf (groups_at ts k gs ++ us) (terms_of (nodes_at ts k))) (sym (only-same k j (terms_of (nodes_at ts j)) same ∙ ap (λ m. terms_of (nodes_at ts m)) same))
            (nest_append (groups_at ts k gs) [] (terms_of (nodes_at ts k)) (terms_of (nodes_at ts k)) (h.later k (omega arith)) (nest_same (terms_of (nodes_at ts k)))))
        | inr e ↦
            let other : j ≢ k = λ q. false≢true (sym e ∙ eq-eqb j k q) in
            subst (λ us. IsNestOf (groups_at ts k news) us) (append_none (terms_of (nodes_at ts k)))
            (nest_trans (groups_at ts k news) (groups_at ts k gs ++ only k j (terms_of (nodes_at ts j))) (terms_of (nodes_at ts k) ++ []) (b.terms k)
            (nest_append (groups_at ts k gs) (terms_of (nodes_at ts k)) (only k j (terms_of (nodes_at ts j))) [] (h.added k (omega arith)) (nest_equal (only k j (terms_of (nodes_at ts j))) [] (only-other k j (terms_of (nodes_at ts j)) other))))
      ];
  later = λ k l.
      let other : j ≢ k = omega arith in
      nest_trans (groups_at ts k news) (groups_at ts k gs ++ only k j (terms_of (nodes_at ts j))) [] (b.terms k)
      (nest_append (groups_at ts k gs) [] (only k j (terms_of (nodes_at ts j))) [] (h.later k (omega arith)) (nest_equal (only k j (terms_of (nodes_at ts j))) [] (only-other k j (terms_of (nodes_at ts j)) other)));
}

pub index_ends : (ts : List Tree) (gs : List Group) (j : ℕ) → length ts ≤ j → IndexSoFar ts gs j → IsIndex ts gs
index_ends ts gs j l h = record { roots = h.roots; terms = λ k m. h.added k (omega arith) }

pub nodes_read : (ts : List Tree) (i : ℕ) (t : Tree) → i < length ts → t ≡ get_or ts i t → nodes_at ts i ≡ t.nodes.items
unfolding nodes_at
nodes_read [] i t l e = absurd (omega arith)
nodes_read (u ∷ us) zero t l e = ap (λ (x : Tree). x.nodes.items) (sym e)
nodes_read (u ∷ us) (suc i) t l e = nodes_read us i t (omega arith) e
