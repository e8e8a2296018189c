-- Roots that are added to those of their part
use Rattle.std.proofs.Common.{◌≡◌, ℕ, zero, suc, ◌<◌, List, [], ◌∷◌, ◌++◌, length, set, get_or, refl, sym, ap, ◌∙◌, subst, arith, append_assoc}
use Rattle.std.specs.Prelude.{All}
use Rattle.std.proofs.lemmas.List.Elements.{All-nil, All-push}
use Rattle.binom_poly.specs.declared.part.Part.{Part}
use Rattle.binom_poly.specs.declared.term.Term.{Term}
use Rattle.nested_poly.specs.declared.root.Group.{Group}
use Rattle.nested_poly.specs.declared.root.Root.{Root}
use Rattle.nested_poly.specs.declared.tree.Tree.{Tree}
use Rattle.nested_poly.specs.Nodes.{IsNestOf}
use Rattle.nested_poly.specs.Roots.{first_branch, only, root_nodes, roots_at, groups_at, IsRoot, AreRoots, AddsRoot}
use Rattle.nested_poly.proofs.Nesting.{nest_same, nest_trans, nest_append, nest_swap, nest_equal}

-- ---- one root
pub append_none : (ts : List Term) → ts ++ [] ≡ ts
append_none [] = refl
append_none (t ∷ ts) = ap (λ us. t ∷ us) (append_none ts)

pub roots_at-append : (ts : List Tree) (k : ℕ) (rs ss : List Root) → roots_at ts k (rs ++ ss) ≡ roots_at ts k rs ++ roots_at ts k ss
unfolding roots_at
roots_at-append ts k [] ss = refl
roots_at-append ts k (r ∷ rs) ss =
    ap (λ us. only k r.place (first_branch (root_nodes ts r)) ++ us) (roots_at-append ts k rs ss)
    ∙ sym (append_assoc (only k r.place (first_branch (root_nodes ts r))) (roots_at ts k rs) (roots_at ts k ss))

group_more : (ts : List Tree) (k : ℕ) (gs : List Group) (i : ℕ) (g new : Group) (r : Root) → i < length gs → g ≡ get_or gs i g → new.roots.items ≡ g.roots.items ++ r ∷ []
    → IsNestOf (groups_at ts k (set gs i new)) (groups_at ts k gs ++ roots_at ts k (r ∷ []))
unfolding groups_at
group_more ts k [] i g new r l e f = absurd (omega arith)
group_more ts k (h ∷ hs) zero g new r l e f =
    let more : roots_at ts k new.roots.items ≡ roots_at ts k h.roots.items ++ roots_at ts k (r ∷ []) =
    ap (roots_at ts k) (f ∙ ap (λ (x : Group). x.roots.items ++ r ∷ []) e) ∙ roots_at-append ts k h.roots.items (r ∷ []) in
    nest_trans (roots_at ts k new.roots.items ++ groups_at ts k hs) ((roots_at ts k h.roots.items ++ roots_at ts k (r ∷ [])) ++ groups_at ts k hs)
    ((roots_at ts k h.roots.items ++ groups_at ts k hs) ++ roots_at ts k (r ∷ []))
    (nest_equal (roots_at ts k new.roots.items ++ groups_at ts k hs) ((roots_at ts k h.roots.items ++ roots_at ts k (r ∷ [])) ++ groups_at ts k hs) (ap (λ us. us ++ groups_at ts k hs) more))
    (nest_swap (roots_at ts k h.roots.items) (roots_at ts k (r ∷ [])) (groups_at ts k hs))
group_more ts k (h ∷ hs) (suc i) g new r l e f =
    nest_trans (roots_at ts k h.roots.items ++ groups_at ts k (set hs i new)) (roots_at ts k h.roots.items ++ (groups_at ts k hs ++ roots_at ts k (r ∷ [])))
    ((roots_at ts k h.roots.items ++ groups_at ts k hs) ++ roots_at ts k (r ∷ []))
    (nest_append (roots_at ts k h.roots.items) (roots_at ts k h.roots.items) (groups_at ts k (set hs i new)) (groups_at ts k hs ++ roots_at ts k (r ∷ [])) (nest_same (roots_at ts k h.roots.items))
    (group_more ts k hs i g new r (omega arith) e f))
    (nest_equal (roots_at ts k h.roots.items ++ (groups_at ts k hs ++ roots_at ts k (r ∷ []))) ((roots_at ts k h.roots.items ++ groups_at ts k hs) ++ roots_at ts k (r ∷ []))
    (sym (append_assoc (roots_at ts k h.roots.items) (groups_at ts k hs) (roots_at ts k (r ∷ [])))))

roots_more : (ts : List Tree) (gs : List Group) (i : ℕ) (g new : Group) (r : Root) → i < length gs → g ≡ get_or gs i g → new.part ≡ g.part → new.roots.items ≡ g.roots.items ++ r ∷ []
    → AreRoots ts gs → IsRoot ts g.part r → AreRoots ts (set gs i new)
unfolding AreRoots
roots_more ts [] i g new r l e d f h k = absurd (omega arith)
roots_more ts (h ∷ hs) zero g new r l e d f m k =
    let first : All (IsRoot ts g.part) g.roots.items = subst (λ (x : Group). All (IsRoot ts x.part) x.roots.items) (sym e) m.0 in (
      subst (λ p. All (IsRoot ts p) new.roots.items) (sym d) (subst (All (IsRoot ts g.part)) (sym f) (All-push (IsRoot ts g.part) g.roots.items r first k)),
      m.1,
    )
roots_more ts (h ∷ hs) (suc i) g new r l e d f m k = (m.0, roots_more ts hs i g new r (omega arith) e d f m.1 k)

pub adds_to_group : (gs news : List Group) (i : ℕ) (g new : Group) (p : Part) (r : Root) → i < length gs → g ≡ get_or gs i g → news ≡ set gs i new → new.part ≡ g.part → g.part ≡ p
    → new.roots.items ≡ g.roots.items ++ r ∷ [] → AddsRoot gs news p r
adds_to_group gs news i g new p r l e n d q f = record {
  terms = λ ts k. subst (λ xs. IsNestOf (groups_at ts k xs) (groups_at ts k gs ++ roots_at ts k (r ∷ []))) (sym n) (group_more ts k gs i g new r l e f);
  roots = λ ts h k. subst (AreRoots ts) (sym n) (roots_more ts gs i g new r l e d f h (subst (λ x. IsRoot ts x r) (sym q) k));
}

pub groups_at-push : (ts : List Tree) (k : ℕ) (gs : List Group) (g : Group) → groups_at ts k (gs ++ g ∷ []) ≡ groups_at ts k gs ++ roots_at ts k g.roots.items
unfolding groups_at
groups_at-push ts k [] g = append_none (roots_at ts k g.roots.items)
groups_at-push ts k (h ∷ hs) g =
    ap (λ us. roots_at ts k h.roots.items ++ us) (groups_at-push ts k hs g)
    ∙ sym (append_assoc (roots_at ts k h.roots.items) (groups_at ts k hs) (roots_at ts k g.roots.items))

AreRoots-push : (ts : List Tree) (gs : List Group) (g : Group) → AreRoots ts gs → All (IsRoot ts g.part) g.roots.items → AreRoots ts (gs ++ g ∷ [])
unfolding AreRoots
AreRoots-push ts [] g h k = (k, tt)
AreRoots-push ts (x ∷ xs) g h k = (h.0, AreRoots-push ts xs g h.1 k)

pub adds_group : (gs news : List Group) (g : Group) (p : Part) (r : Root) → news ≡ gs ++ g ∷ [] → g.part ≡ p → g.roots.items ≡ r ∷ [] → AddsRoot gs news p r
adds_group gs news g p r n q f = record {
  terms = λ ts k. nest_equal (groups_at ts k news) (groups_at ts k gs ++ roots_at ts k (r ∷ [])) (ap (groups_at ts k) n ∙ groups_at-push ts k gs g ∙ ap (λ rs. groups_at ts k gs ++ roots_at ts k rs) f);
  roots = λ ts h k.
      subst (AreRoots ts) (sym n) (AreRoots-push ts gs g h (subst (λ x. All (IsRoot ts x) g.roots.items) (sym q)
      (subst (All (IsRoot ts p)) (sym f) (All-push (IsRoot ts p) [] r (All-nil (IsRoot ts p)) k))));
}

pub read_twice : (gs : List Group) (i : ℕ) (g h : Group) (p : Part) → i < length gs → g ≡ get_or gs i g → h ≡ get_or gs i h → g.part ≡ p → h.part ≡ p
read_twice [] i g h p l e f q = absurd (omega arith)
read_twice (x ∷ xs) zero g h p l e f q = ap (λ (y : Group). y.part) (f ∙ sym e) ∙ q
read_twice (x ∷ xs) (suc i) g h p l e f q = read_twice xs i g h p (omega arith) e f q
