-- The sums of trees after roots, one after another
use Rattle.std.proofs.Common.{◌≡◌, ◌≢◌, ℕ, zero, suc, ◌<◌, ◌≤◌, eqb, List, [], ◌∷◌, ◌++◌, length, take, drop, set, get_or, sym, ap, ◌∙◌, subst, arith, inl, inr, get_or-set_same, get_or-set_other}
use Rattle.std.specs.Prelude.{Result, Ok, Err, IfOk}
use Rattle.std.proofs.lemmas.Bool.{cases_Bool, eqb-true, eq-eqb, false≢true}
use Rattle.std.proofs.lemmas.Grind.{common_steps}
use lib.IntN.{ℤ}
use Rattle.binom_poly.specs.declared.fault.Wide.{Wide}
use Rattle.binom_poly.specs.declared.part.Part.{Part}
use Rattle.binom_poly.specs.declared.term.Term.{Term}
use Rattle.nested_poly.specs.declared.node.Node.{Node}
use Rattle.nested_poly.specs.declared.root.Root.{Root}
use Rattle.nested_poly.specs.declared.tree.Tree.{Tree}
use Rattle.nested_poly.specs.declared.weighed.Weighed.{Weighed}
use Rattle.nested_poly.specs.Nodes.{IsWeighed, Weighs}
use Rattle.nested_poly.specs.Roots.{first_branch, root_nodes, roots_at, HasFirst, IsRoot}
use Rattle.nested_poly.specs.Counts.{weighed_at, IsTotal, AreTotals, Counts}
use Rattle.nested_poly.proofs.Counting.{counts_none, counts_append}
use Rattle.nested_poly.proofs.Gathering.{nodes_read, only-same, only-other, roots_at-one}
use Rattle.nested_poly.proofs.Rooting.{roots_at-append}

pub weighs_ok : (a : ℕ → ℤ) (ts : List Term) (r : Result Weighed Wide) → Weighs a ts r → IfOk r IsWeighed
weighs_ok a ts (Ok w) h = h.2
weighs_ok a ts (Err e) h = tt

-- ---- what a root asks for
pub root_nodes_are : (ts : List Tree) (r : Root) (t : Tree) (ns : List Node) → r.place < length ts → t ≡ get_or ts r.place t → ns ≡ drop r.start t.nodes.items → root_nodes ts r ≡ ns
root_nodes_are ts r t ns l e f = ap (drop r.start) (nodes_read ts r.place t l e) ∙ sym f

pub start_within : (p : Part) (ns : List Node) (i : ℕ) → HasFirst p (drop i ns) → i ≤ length ns
unfolding HasFirst
start_within p [] zero h = omega arith
start_within p [] (suc i) h = absurd h
start_within p (n ∷ ns) zero h = omega arith
start_within p (n ∷ ns) (suc i) h = omega (arith, start_within p ns i h)

pub root_start : (ts : List Tree) (p : Part) (r : Root) (t : Tree) → IsRoot ts p r → t ≡ get_or ts r.place t → r.start ≤ length t.nodes.items
root_start ts p r t h e = start_within p t.nodes.items r.start (subst (λ ns. HasFirst p (drop r.start ns)) (nodes_read ts r.place t h.within e) h.first)

-- ---- one root
pub one_counted : (a : ℕ → ℤ) (ts : List Tree) (k : ℕ) (r : Root) (now new : List Weighed) (w : Weighed) → r.place < length now → Counts a (first_branch (root_nodes ts r)) (weighed_at now r.place) w → new ≡ set now r.place w
    → Counts a (roots_at ts k (r ∷ [])) (weighed_at now k) (weighed_at new k)
one_counted a ts k r now new w l h e =
    subst (λ us. Counts a us (weighed_at now k) (weighed_at new k)) (sym (roots_at-one ts k r))
    (elim (cases_Bool (eqb r.place k)) [
      | inl b ↦
          let same = eqb-true r.place k b in
          let is : weighed_at new k ≡ w = ap (λ ws. weighed_at ws k) e ∙ ap (weighed_at (set now r.place w)) (sym same) ∙ get_or-set_same now r.place w _ l in
          subst (λ us. Counts a us (weighed_at now k) (weighed_at new k)) (sym (only-same k r.place (first_branch (root_nodes ts r)) same))
          (subst (λ v. Counts a (first_branch (root_nodes ts r)) (weighed_at now k) v) (sym is)
          (subst (λ j. Counts a (first_branch (root_nodes ts r)) (weighed_at now j) w) same h))
      | inr b ↦
          let other : r.place ≢ k = λ q. false≢true (sym b ∙ eq-eqb r.place k q) in
          let is : weighed_at new k ≡ weighed_at now k = ap (λ ws. weighed_at ws k) e ∙ get_or-set_other now r.place k w _ (λ q. other (sym q)) in
          subst (λ us. Counts a us (weighed_at now k) (weighed_at new k)) (sym (only-other k r.place (first_branch (root_nodes ts r)) other))
          (subst (λ v. Counts a [] (weighed_at now k) v) (sym is) (counts_none a (weighed_at now k)))
    ])

pub totals_more : (now new : List Weighed) (i : ℕ) (w : Weighed) → i < length now → AreTotals now → IsTotal w → new ≡ set now i w → AreTotals new
totals_more now new i w l h t e k =
    subst (λ ws. IsTotal (weighed_at ws k)) (sym e)
    (elim (cases_Bool (eqb i k)) [
      | inl b ↦ subst IsTotal (sym (ap (weighed_at (set now i w)) (sym (eqb-true i k b)) ∙ get_or-set_same now i w _ l)) t
      | inr b ↦
          let other : i ≢ k = λ q. false≢true (sym b ∙ eq-eqb i k q) in
          subst IsTotal (sym (get_or-set_other now i k w _ (λ q. other (sym q)))) (h k)
    ])

-- ---- the first of some roots
pub record RootsSoFar (a : ℕ → ℤ) (ts : List Tree) (old now : List Weighed) (rs : List Root) : Type 0 where
  pub size : length now ≡ length ts
  pub totals : AreTotals now
  pub counted : (k : ℕ) → Counts a (roots_at ts k rs) (weighed_at old k) (weighed_at now k)

pub roots_begin : (a : ℕ → ℤ) (ts : List Tree) (old : List Weighed) → length old ≡ length ts → AreTotals old → RootsSoFar a ts old old []
unfolding roots_at
roots_begin a ts old l h = record { size = l; totals = h; counted = λ k. counts_none a (weighed_at old k) }

pub roots_next : (a : ℕ → ℤ) (ts : List Tree) (old now new : List Weighed) (rs ss : List Root) (r : Root) (w : Weighed) → ss ≡ rs ++ r ∷ [] → r.place < length ts
    → Counts a (first_branch (root_nodes ts r)) (weighed_at now r.place) w → IsTotal w → new ≡ set now r.place w → length new ≡ length now
    → RootsSoFar a ts old now rs → RootsSoFar a ts old new ss
roots_next a ts old now new rs ss r w e l h t n m s =
    let size : length now ≡ length ts = s.size in
    record {
      size = m ∙ s.size;
      totals = totals_more now new r.place w (omega arith) s.totals t n;
      counted = λ k.
          subst (λ us. Counts a us (weighed_at old k) (weighed_at new k)) (sym (ap (roots_at ts k) e ∙ roots_at-append ts k rs (r ∷ [])))
          (counts_append a (roots_at ts k rs) (roots_at ts k (r ∷ [])) (weighed_at old k) (weighed_at now k) (weighed_at new k) (s.counted k)
          (one_counted a ts k r now new w (omega arith) h n));
    }

pub roots_end : (a : ℕ → ℤ) (ts : List Tree) (old now : List Weighed) (rs : List Root) (i : ℕ) → length rs ≤ i → RootsSoFar a ts old now (take i rs) → RootsSoFar a ts old now rs
roots_end a ts old now rs i l s = subst (RootsSoFar a ts old now) (all_taken rs i l) s
  where
    all_taken : (xs : List Root) (j : ℕ) → length xs ≤ j → take j xs ≡ xs
    all_taken xs j m = grind (arith, common_steps)
