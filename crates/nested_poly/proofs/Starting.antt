-- The constants of trees, with which their sums begin
use Rattle.std.proofs.Common.{◌≡◌, ◌≢◌, ℕ, zero, suc, ◌+◌, ◌<◌, ◌≤◌, eqb, List, [], ◌∷◌, ◌++◌, length, set, get_or, refl, sym, ap, ◌∙◌, subst, arith, inl, inr, get_or-set_same, get_or-set_other}
use Rattle.std.specs.Prelude.{All, unsigned_abs}
use Rattle.std.proofs.lemmas.Bool.{cases_Bool, cases_lt, eqb-true, eq-eqb, false≢true}
use lib.IntN.{ℤ, pos, ◌+ℤ◌, +ℤ_comm}
use Rattle.binom_poly.specs.declared.term.Term.{Term}
use Rattle.binom_poly.specs.Polynomial.{value_of}
use Rattle.binom_poly.specs.Reading.{Reading}
use Rattle.binom_poly.specs.Readings.{IsCovered}
use Rattle.nested_poly.specs.declared.root.Group.{Group}
use Rattle.nested_poly.specs.declared.tree.Tree.{Tree}
use Rattle.nested_poly.specs.declared.weighed.Weighed.{Weighed}
use Rattle.nested_poly.specs.Nodes.{terms_of, IsNestOf}
use Rattle.nested_poly.specs.Trees.{nodes_at, tree_terms, forest_terms}
use Rattle.nested_poly.specs.Roots.{groups_at, IsIndex}
use Rattle.nested_poly.specs.Counts.{weighed_at, IsTotal, AreTotals, IsPartial, Counts, IsSumOf}
use Rattle.nested_poly.proofs.Counting.{sum_of_partial}
use Rattle.nested_poly.proofs.Forests.{forest_at, place_within}
use Rattle.nested_poly.proofs.Gathering.{nodes_read}
use Rattle.nested_poly.proofs.Rooting.{append_none}
use Rattle.nested_poly.proofs.Wholes.{value_whole, magnitude_whole}

-- ---- the first of some trees
pub record BegunSoFar (ts : List Tree) (sums : List Weighed) (i : ℕ) : Type 0 where
  pub size : length sums ≡ length ts
  pub totals : (k : ℕ) → k < i → IsTotal (weighed_at sums k)
  pub begun : (a : ℕ → ℤ) (k : ℕ) → k < i → IsPartial a (get_or (forest_terms ts) k []) (weighed_at sums k) (terms_of (nodes_at ts k))

constant_begins : (a : ℕ → ℤ) (t : Tree) (w : Weighed) → w.value ≡ t.constant → w.magnitude ≡ unsigned_abs t.constant → IsPartial a (tree_terms t) w (terms_of t.nodes.items)
constant_begins a t w e f =
    let m = magnitude_whole a t.constant (terms_of t.nodes.items) in
    record {
      past = λ o. omega arith;
      value = λ _. value_whole a t.constant (terms_of t.nodes.items) ∙ +ℤ_comm (value_of a (terms_of t.nodes.items)) t.constant ∙ ap (λ z. z +ℤ value_of a (terms_of t.nodes.items)) (sym e);
      magnitude = λ _. omega arith;
    }

constant_total : (c : ℤ) (w : Weighed) → w.value ≡ c → w.magnitude ≡ unsigned_abs c → IsTotal w
constant_total c w e f = let g : unsigned_abs w.value ≡ unsigned_abs c = ap unsigned_abs e in omega arith

pub begun_more : (ts : List Tree) (sums new : List Weighed) (i : ℕ) (t : Tree) (w : Weighed) → i < length ts → t ≡ get_or ts i t → new ≡ set sums i w → length new ≡ length sums → w.value ≡ t.constant → w.magnitude ≡ unsigned_abs t.constant
    → BegunSoFar ts sums i → BegunSoFar ts new (i + 1)
begun_more ts sums new i t w l e n m f g s =
    let size : length sums ≡ length ts = s.size in
    let here : weighed_at new i ≡ w = ap (λ ws. weighed_at ws i) n ∙ get_or-set_same sums i w _ (omega arith) in
    let there : (k : ℕ) → k ≢ i → weighed_at new k ≡ weighed_at sums k = λ k o. ap (λ ws. weighed_at ws k) n ∙ get_or-set_other sums i k w _ o in
    record {
      size = m ∙ s.size;
      totals = λ k h.
          elim (cases_Bool (eqb k i)) [
            | inl b ↦ subst (λ j. IsTotal (weighed_at new j)) (sym (eqb-true k i b)) (subst IsTotal (sym here) (constant_total t.constant w f g))
            | inr b ↦
                let o : k ≢ i = λ q. false≢true (sym b ∙ eq-eqb k i q) in
                subst IsTotal (sym (there k o)) (s.totals k (omega arith))
          ];
      begun = λ a k h.
          elim (cases_Bool (eqb k i)) [
            | inl b ↦
                subst (λ j. IsPartial a (get_or (forest_terms ts) j []) (weighed_at new j) (terms_of (nodes_at ts j))) (sym (eqb-true k i b))
                (subst (λ v. IsPartial a (get_or (forest_terms ts) i []) v (terms_of (nodes_at ts i))) (sym here)
                (subst (λ us. IsPartial a us w (terms_of (nodes_at ts i))) (sym (forest_at ts i t l e))
                (subst (λ ns. IsPartial a (tree_terms t) w (terms_of ns)) (sym (nodes_read ts i t l e)) (constant_begins a t w f g))))
            | inr b ↦
                let o : k ≢ i = λ q. false≢true (sym b ∙ eq-eqb k i q) in
                subst (λ v. IsPartial a (get_or (forest_terms ts) k []) v (terms_of (nodes_at ts k))) (sym (there k o)) (s.begun a k (omega arith))
          ];
    }

past_end : (xs : List Weighed) (k : ℕ) (d : Weighed) → length xs ≤ k → get_or xs k d ≡ d
past_end [] k d l = refl
past_end (x ∷ xs) zero d l = absurd (omega arith)
past_end (x ∷ xs) (suc k) d l = past_end xs k d (omega arith)

pub all_totals : (ts : List Tree) (sums : List Weighed) (i : ℕ) → length ts ≤ i → BegunSoFar ts sums i → AreTotals sums
all_totals ts sums i l s k =
    let size : length sums ≡ length ts = s.size in
    elim (cases_lt k i) [
      | inl h ↦ s.totals k h
      | inr h ↦ subst IsTotal (sym (past_end sums k record { value = pos 0; magnitude = 0 } (omega arith))) (omega arith)
    ]

-- ---- the whole sums
nest_partial : (a : ℕ → ℤ) (ps ts us : List Term) (w : Weighed) → IsNestOf ts us → IsPartial a ps w us → IsPartial a ps w (ts ++ [])
nest_partial a ps ts us w h p =
    subst (IsPartial a ps w) (sym (append_none ts))
    record {
      past = p.past;
      value = λ i. p.value i ∙ ap (λ z. w.value +ℤ z) (sym (h.values a));
      magnitude = λ i. p.magnitude i ∙ ap (λ z. w.magnitude + z) (sym (h.magnitudes a));
    }

pub sums_end : (a : ℕ → ℤ) (ts : List Tree) (gs : List Group) (now : List (List Term)) (begun sums : List Weighed) (k : ℕ) → forest_terms ts ≡ now → k < length now → IsIndex ts gs
    → ((k : ℕ) → k < length ts → IsPartial a (get_or (forest_terms ts) k []) (weighed_at begun k) (terms_of (nodes_at ts k)))
    → ((k : ℕ) → Counts a (groups_at ts k gs) (weighed_at begun k) (weighed_at sums k)) → IsSumOf a (get_or now k []) (weighed_at sums k)
sums_end a ts gs now begun sums k e l h b c =
    let m = place_within ts now k e l in
    let whole = get_or (forest_terms ts) k [] in
    subst (λ us. IsSumOf a (get_or us k []) (weighed_at sums k)) e
    (sum_of_partial a whole (weighed_at sums k)
    (c k whole [] (nest_partial a whole (groups_at ts k gs) (terms_of (nodes_at ts k)) (weighed_at begun k) (h.terms k m) (b k m))))

nodes_covered : (rows : List Reading) (ts : List Tree) (k : ℕ) → k < length ts → IsCovered rows (get_or (forest_terms ts) k []) → IsCovered rows (terms_of (nodes_at ts k))
unfolding forest_terms nodes_at
nodes_covered rows [] k l h = absurd (omega arith)
nodes_covered rows (t ∷ ts) zero l h = h.1
nodes_covered rows (t ∷ ts) (suc k) l h = nodes_covered rows ts k (omega arith) h

pub groups_covered : (rows : List Reading) (ts : List Tree) (gs : List Group) (now : List (List Term)) → forest_terms ts ≡ now → length ts ≡ length now → IsIndex ts gs → All (IsCovered rows) now → (k : ℕ) → k < length ts → IsCovered rows (groups_at ts k gs)
groups_covered rows ts gs now e n h c k l =
    (h.terms k l).covers rows (nodes_covered rows ts k l (subst (λ us. IsCovered rows (get_or us k [])) (sym e) (c k [] (omega arith))))

pub begun_at : (a : ℕ → ℤ) (us ts : List Tree) (begun : List Weighed) → us ≡ ts
    → ((k : ℕ) → k < length us → IsPartial a (get_or (forest_terms us) k []) (weighed_at begun k) (terms_of (nodes_at us k)))
    → (k : ℕ) → k < length ts → IsPartial a (get_or (forest_terms ts) k []) (weighed_at begun k) (terms_of (nodes_at ts k))
begun_at a us ts begun e h = subst (λ (vs : List Tree). (k : ℕ) → k < length vs → IsPartial a (get_or (forest_terms vs) k []) (weighed_at begun k) (terms_of (nodes_at vs k))) e h

pub counted_at : (a : ℕ → ℤ) (us ts : List Tree) (hs gs : List Group) (x y : Weighed) (k : ℕ) → us ≡ ts → hs ≡ gs → Counts a (groups_at us k hs) x y → Counts a (groups_at ts k gs) x y
counted_at a us ts hs gs x y k e f h = subst (λ vs. Counts a (groups_at vs k gs) x y) e (subst (λ is. Counts a (groups_at us k is) x y) f h)
