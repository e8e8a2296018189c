-- The sums of trees after groups of roots, one after another
use Rattle.std.proofs.Common.{◌≡◌, ◌≢◌, ℕ, zero, suc, ◌+◌, ◌*◌, ◌<◌, ◌≤◌, Bool, true, false, cond, eqb, List, [], ◌∷◌, ◌++◌, length, take, get_or, refl, sym, ap, ◌∙◌, subst, arith}
use Rattle.std.specs.Prelude.{All, unsigned_abs}
use Rattle.std.proofs.lemmas.Grind.{common_steps, take_at_read}
use Rattle.std.proofs.lemmas.List.Elements.{All-head, All-tail}
use lib.IntN.{ℤ, pos, ◌+ℤ◌, ◌*ℤ◌, zero-*ℤ}
use Rattle.integer.specs.Binomial.{choose}
use Rattle.binom_poly.specs.declared.part.Part.{Part}
use Rattle.binom_poly.specs.declared.term.Term.{Term}
use Rattle.binom_poly.specs.Polynomial.{value_of}
use Rattle.binom_poly.specs.Reading.{Reading}
use Rattle.binom_poly.specs.Readings.{width_at, magnitude_of, IsCovered}
use Rattle.nested_poly.specs.declared.node.Node.{Node}
use Rattle.nested_poly.specs.declared.root.Group.{Group}
use Rattle.nested_poly.specs.declared.root.Root.{Root}
use Rattle.nested_poly.specs.declared.tree.Tree.{Tree}
use Rattle.nested_poly.specs.declared.weighed.Weighed.{Weighed}
use Rattle.nested_poly.specs.Nodes.{terms_of}
use Rattle.nested_poly.specs.Roots.{first_branch, only, root_nodes, roots_at, groups_at, HasFirst, IsRoot, AreRoots, AreCovered}
use Rattle.nested_poly.specs.Counts.{weighed_at, AreTotals, Counts}
use Rattle.nested_poly.proofs.Branching.{value_branch, magnitude_branch, covered_first, covered_left, covered_right}
use Rattle.nested_poly.proofs.Counting.{counts_none, counts_append, counts_zero}
use Rattle.nested_poly.proofs.Gathering.{only-same}
use Rattle.nested_poly.proofs.Rooting.{groups_at-push}

-- ---- what the rows cover
root_covered : (rows : List Reading) (ts : List Tree) (rs : List Root) (i : ℕ) (d : Root) → i < length rs → IsCovered rows (roots_at ts (get_or rs i d).place rs) → IsCovered rows (first_branch (root_nodes ts (get_or rs i d)))
unfolding roots_at
root_covered rows ts [] i d l h = absurd (omega arith)
root_covered rows ts (r ∷ rs) zero d l h =
    subst (IsCovered rows) (only-same r.place r.place (first_branch (root_nodes ts r)) refl) (covered_left rows (only r.place r.place (first_branch (root_nodes ts r))) (roots_at ts r.place rs) h)
root_covered rows ts (r ∷ rs) (suc i) d l h =
    root_covered rows ts rs i d (omega arith) (covered_right rows (only (get_or rs i d).place r.place (first_branch (root_nodes ts r))) (roots_at ts (get_or rs i d).place rs) h)

group_covered : (rows : List Reading) (ts : List Tree) (k : ℕ) (gs : List Group) (i : ℕ) (g : Group) → i < length gs → g ≡ get_or gs i g → IsCovered rows (groups_at ts k gs) → IsCovered rows (roots_at ts k g.roots.items)
unfolding groups_at
group_covered rows ts k [] i g l e h = absurd (omega arith)
group_covered rows ts k (x ∷ xs) zero g l e h =
    subst (λ (y : Group). IsCovered rows (roots_at ts k y.roots.items)) (sym e) (covered_left rows (roots_at ts k x.roots.items) (groups_at ts k xs) h)
group_covered rows ts k (x ∷ xs) (suc i) g l e h = group_covered rows ts k xs i g (omega arith) e (covered_right rows (roots_at ts k x.roots.items) (groups_at ts k xs) h)

pub roots_of_group : (ts : List Tree) (gs : List Group) (i : ℕ) (g : Group) → i < length gs → g ≡ get_or gs i g → AreRoots ts gs → All (IsRoot ts g.part) g.roots.items
unfolding AreRoots
roots_of_group ts [] i g l e h = absurd (omega arith)
roots_of_group ts (x ∷ xs) zero g l e h = subst (λ (y : Group). All (IsRoot ts y.part) y.roots.items) (sym e) h.0
roots_of_group ts (x ∷ xs) (suc i) g l e h = roots_of_group ts xs i g (omega arith) e h.1

pub covered_of_group : (rows : List Reading) (ts : List Tree) (gs : List Group) (i : ℕ) (g : Group) → i < length gs → g ≡ get_or gs i g → AreRoots ts gs → ((k : ℕ) → k < length ts → IsCovered rows (groups_at ts k gs))
    → AreCovered rows ts g.roots.items
covered_of_group rows ts gs i g l e h c j d m =
    let r = roots_of_group ts gs i g l e h j d m in
    root_covered rows ts g.roots.items j d m (group_covered rows ts (get_or g.roots.items j d).place gs i g l e (c (get_or g.roots.items j d).place r.within))

-- ---- a group
first_width : (rows : List Reading) (p : Part) (ns : List Node) → HasFirst p ns → IsCovered rows (first_branch ns) → p.exp < width_at rows p.var
unfolding HasFirst first_branch
first_width rows p [] h c = absurd h
first_width rows p (n ∷ ns) h c = subst (λ (q : Part). q.exp < width_at rows q.var) h.0 (covered_first rows n (terms_of (take n.below ns)) c)

pub group_width : (rows : List Reading) (ts : List Tree) (p : Part) (rs : List Root) → length rs ≢ 0 → All (IsRoot ts p) rs → AreCovered rows ts rs → p.exp < width_at rows p.var
group_width rows ts p [] n h c = absurd (n refl)
group_width rows ts p (r ∷ rs) n h c =
    first_width rows p (root_nodes ts r) (All-head (IsRoot ts p) r rs h).first (All-head (λ q. IsCovered rows (first_branch (root_nodes ts q))) r rs c)

none : (m : ℕ) → 0 * m ≡ 0
none m = omega arith

first_zero : (a : ℕ → ℤ) (p : Part) (ns : List Node) → HasFirst p ns → choose (a p.var) p.exp ≡ pos 0 → (value_of a (first_branch ns) ≡ pos 0) × (magnitude_of a (first_branch ns) ≡ 0)
unfolding HasFirst first_branch
first_zero a p [] h z = absurd h
first_zero a p (n ∷ ns) h z =
    let ts = terms_of (take n.below ns) in
    let e = ap (λ (q : Part). choose (a q.var) q.exp) h.0 ∙ z in (
      value_branch a n ts ∙ ap (λ x. x *ℤ (value_of a ts +ℤ n.coefficient)) e ∙ zero-*ℤ (value_of a ts +ℤ n.coefficient),
      magnitude_branch a n ts ∙ ap (λ x. unsigned_abs x * (magnitude_of a ts + unsigned_abs n.coefficient)) e ∙ none (magnitude_of a ts + unsigned_abs n.coefficient),
    )

only_counted : (a : ℕ → ℤ) (k j : ℕ) (ts : List Term) (w : Weighed) → Counts a ts w w → Counts a (only k j ts) w w
only_counted a k j ts w h = only_if (eqb j k)
  where
    only_if : (b : Bool) → Counts a (cond b ts []) w w
    only_if true = h
    only_if false = counts_none a w

pub zero_roots : (a : ℕ → ℤ) (ts : List Tree) (p : Part) (k : ℕ) (rs : List Root) (w : Weighed) → All (IsRoot ts p) rs → choose (a p.var) p.exp ≡ pos 0 → Counts a (roots_at ts k rs) w w
unfolding roots_at
zero_roots a ts p k [] w h z = counts_none a w
zero_roots a ts p k (r ∷ rs) w h z =
    let f = first_zero a p (root_nodes ts r) (All-head (IsRoot ts p) r rs h).first z in
    counts_append a (only k r.place (first_branch (root_nodes ts r))) (roots_at ts k rs) w w w
    (only_counted a k r.place (first_branch (root_nodes ts r)) w (counts_zero a (first_branch (root_nodes ts r)) w f.0 f.1))
    (zero_roots a ts p k rs w (All-tail (IsRoot ts p) r rs h) z)

pub no_roots : (a : ℕ → ℤ) (ts : List Tree) (k : ℕ) (rs : List Root) (w : Weighed) → length rs ≡ 0 → Counts a (roots_at ts k rs) w w
unfolding roots_at
no_roots a ts k [] w l = counts_none a w
no_roots a ts k (r ∷ rs) w l = absurd (omega arith)

-- ---- the first of some groups
pub record GroupsSoFar (a : ℕ → ℤ) (ts : List Tree) (old now : List Weighed) (gs : List Group) : Type 0 where
  pub size : length now ≡ length ts
  pub totals : AreTotals now
  pub counted : (k : ℕ) → Counts a (groups_at ts k gs) (weighed_at old k) (weighed_at now k)

pub groups_begin : (a : ℕ → ℤ) (ts : List Tree) (old : List Weighed) → length old ≡ length ts → AreTotals old → GroupsSoFar a ts old old []
unfolding groups_at
groups_begin a ts old l h = record { size = l; totals = h; counted = λ k. counts_none a (weighed_at old k) }

pub groups_next : (a : ℕ → ℤ) (ts : List Tree) (old now new : List Weighed) (gs : List Group) (i : ℕ) (g : Group) → i < length gs → g ≡ get_or gs i g → length new ≡ length ts → AreTotals new
    → ((k : ℕ) → Counts a (roots_at ts k g.roots.items) (weighed_at now k) (weighed_at new k)) → GroupsSoFar a ts old now (take i gs) → GroupsSoFar a ts old new (take (i + 1) gs)
groups_next a ts old now new gs i g l e m t h s = record {
  size = m;
  totals = t;
  counted = λ k.
      subst (λ us. Counts a us (weighed_at old k) (weighed_at new k)) (sym (ap (groups_at ts k) ((take_at_read gs i g l).1 ∙ ap (λ x. take i gs ++ x ∷ []) (sym e)) ∙ groups_at-push ts k (take i gs) g))
      (counts_append a (groups_at ts k (take i gs)) (roots_at ts k g.roots.items) (weighed_at old k) (weighed_at now k) (weighed_at new k) (s.counted k) (h k));
}

pub groups_end : (a : ℕ → ℤ) (ts : List Tree) (old now : List Weighed) (gs : List Group) (i : ℕ) → length gs ≤ i → GroupsSoFar a ts old now (take i gs) → GroupsSoFar a ts old now gs
groups_end a ts old now gs i l s = subst (GroupsSoFar a ts old now) (all_taken gs i l) s
  where
    all_taken : (xs : List Group) (j : ℕ) → length xs ≤ j → take j xs ≡ xs
    all_taken xs j m = grind (arith, common_steps)
