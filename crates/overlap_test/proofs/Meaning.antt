-- What the two ways by the written order are by the table's values, and what follows for the group.
--   c presentation with a table above level i · Q its powers · j < k, l generators above i
--   s factor · a b v x vectors · o overlap
use Rattle.std.proofs.Common.{◌≡◌, ◌≢◌, ℕ, suc, ◌+◌, ◌<◌, ◌≤◌, ℤ, pos, List, [], ◌∷◌, length, All, refl, sym, ◌∙◌, ap, subst, arith, add-one}
use Rattle.std.specs.Prelude.{Ok}
use Rattle.std.proofs.lemmas.List.Elements.{All-head, All-tail, All-weaker}
use Rattle.nil_word.specs.declared.letter.Letter.{Letter}
use Rattle.nil_word.specs.Words.{up, ordered, IsVector}
use Rattle.nil_word.specs.Congruence.{Congruent, IsConsistent, Relations}
use Rattle.nil_word.specs.Factors.{Factor, IsFactored}
use Rattle.nil_word.proofs.Congruences.{trans, back}
use Rattle.nil_pres.specs.Relations.{relations_of, between}
use Rattle.hall_law.specs.Agreement.{OfPlans, FirstWaysStand, SecondWaysStand}
use Rattle.hall_law.specs.Existence.{HasPowers}
use Rattle.hall_law.specs.Plan.{Powers, IsPower, IsPlanned, collected, first_way, second_way, put}
use Rattle.hall_law.specs.Table.{Operation, IsPresentation, IsTable}
use Rattle.hall_law.proofs.Automorphism.{image_at}
use Rattle.hall_law.proofs.Overlaps.{consistent_higher}
use Rattle.hall_law.proofs.Pairs.{IsAt-put, lower_at, pair_whole}
use Rattle.hall_law.proofs.Vectors.{IsAt, Vec, at_of, vector_of}
use Rattle.hall_table.specs.Agreement.{IsPowerOf, HaveEqualWays}
use Rattle.hall_table.specs.Multiplies.{Paired, IsChecked}
use Rattle.hall_table.specs.Order.{multiplied}
use Rattle.hall_table.specs.Values.{values}
use Rattle.group_eval.specs.ByValues.{IsIn, MultipliedByValues, PoweredByValues}
use Rattle.group_eval.specs.Order.{powered}
use Rattle.group_eval.proofs.Outcomes.{and_then_ok}
use Rattle.overlap_test.specs.declared.overlap.Overlap.{Overlap}
use Rattle.overlap_test.specs.declared.level_result.LevelResult.{LevelResult}
use Rattle.overlap_test.specs.declared.level_result.LevelResult.TheVariants.{Agree, Differ, Wide}
use Rattle.overlap_test.specs.Inconsistent.{ShowsInconsistent}
use Rattle.overlap_test.specs.Laws.{AgreementIs, DifferenceIs}
use Rattle.overlap_test.specs.Verdict.{overlaps, overlap_of, tried, verdict, IfAgree, IfDiffer}
use Rattle.overlap_test.specs.Ways.{image, joined_to, collected_written, first_written, second_written}
use Rattle.overlap_test.proofs.Judging.{judged_agree, judged_differ}
use Rattle.overlap_test.proofs.Listing.{of_overlaps, overlap_in}
use Rattle.overlap_test.proofs.Verdicts.{each_agrees, first_of_verdict, differs_not}

-- ---- the ways by the table's values
pub record Grounds (c : Paired) (i : ℕ) : Type 0 where
  pub presents : IsPresentation (relations_of c.pres)
  pub factored : IsFactored (relations_of c.pres) (between c.pres)
  pub checked : IsChecked c
  pub least : 1 ≤ i
  pub level : c.table.level ≡ i + 1
  pub products : MultipliedByValues c
  pub powers : PoweredByValues c

module _ (c : Paired) (i : ℕ) (g : Grounds c i) where
  abbrev rels : Relations
  rels = relations_of c.pres

  abbrev n : ℕ
  n = length c.pres.names

  abbrev f : Operation
  f = values c.table

  above : c.table.level ≡ suc i
  above = g.level ∙ add-one i

  pub below_last : i < n
  below_last = omega (arith, above, g.checked.multiplies.most)

  pub is_table : IsTable rels (suc i) f
  is_table = subst (λ (m : ℕ). IsTable rels m f) above g.checked.multiplies

  module _ (Q : Powers) (q : IsPowerOf c Q) where
    pub ready : IsPlanned rels (between c.pres) i f Q
    ready = record {
      presentation = g.presents;
      factored = g.factored;
      least = g.least;
      table = is_table;
      powers = subst (λ (m : ℕ). IsPower n m f Q) above q;
    }

    image_in : (l : ℕ) → i < l → l ≤ n → IsIn c (image c.pres i l)
    image_in l a b =
        subst (λ (m : ℕ). IsVector n m (image c.pres i l)) (sym above)
        (vector_of n (suc i) (image c.pres i l) (omega (arith, below_last))
        (image_at ready l a b))

    abbrev AreAbove : List Factor → Type 0
    AreAbove ss = All (λ s. (i < s.number) × (s.number ≤ n)) ss

    collected_is : (ss : List Factor) (v x : List ℤ) → AreAbove ss → IsIn c v
        → collected_written c.table (image c.pres i) ss v ≡ Ok x
        → IsIn c x × (collected f Q (image c.pres i) ss v ≡ x)
    collected_is [] v x h hv is = let e : v ≡ x = cc in (subst (IsIn c) e hv, e)
    collected_is (s ∷ ss) v x h hv is =
        let rest = λ (w : List ℤ). collected_written c.table (image c.pres i) ss w in
        let z_of = powered c.table (image c.pres i s.number) s.exp in
        let (w, joined, later) = and_then_ok (joined_to c.table v z_of) rest x is in
        let (z, raised, product) = and_then_ok z_of (multiplied c.table v) w joined in
        let here = All-head (λ t. (i < t.number) × (t.number ≤ n)) s ss h in
        let power = g.powers Q q (image c.pres i s.number) z s.exp
        (image_in s.number here.0 here.1) raised in
        let made = g.products v z w hv power.0 product in
        let more = collected_is ss w x (All-tail (λ t. (i < t.number) × (t.number ≤ n)) s ss h)
        made.0.vector later in (
          more.0,
          ap (collected f Q (image c.pres i) ss) (sym (made.1 ∙ ap (f v) power.1)) ∙ more.1,
        )

    pub first_is : (j k : ℕ) → i < j → j < k → k ≤ n → (x : List ℤ) → first_written c i j k ≡ Ok x
        → IsIn c x × (first_way rels (between c.pres) i f Q j k ≡ x)
    first_is j k a b d x is =
        let rest = λ (v : List ℤ).
        collected_written c.table (image c.pres i) (between c.pres j k) v in
        let (v, product, later) =
        and_then_ok (multiplied c.table (image c.pres i j) (image c.pres i k)) rest x is in
        let made = g.products (image c.pres i j) (image c.pres i k) v
        (image_in j a (omega arith)) (image_in k (omega arith) d) product in
        let factors : AreAbove (between c.pres j k) =
        All-weaker (λ s. (k < s.number) × (s.number ≤ n)) (λ s. (i < s.number) × (s.number ≤ n))
        (λ s p. (omega (arith, p.0), p.1)) (between c.pres j k)
        (g.factored.above j k (omega arith) b d) in
        let more = collected_is (between c.pres j k) v x factors made.0.vector later in (
          more.0,
          ap (collected f Q (image c.pres i) (between c.pres j k)) (sym made.1) ∙ more.1,
        )

    pub second_is : (j k : ℕ) → i < j → j < k → k ≤ n → (x : List ℤ)
        → second_written c i j k ≡ Ok x → IsIn c x × (second_way rels i f j k ≡ x)
    second_is j k a b d x is =
        let made = g.products (image c.pres i k) (image c.pres i j) x
        (image_in k (omega arith) d) (image_in j a (omega arith)) is in
        (made.0.vector, sym made.1)

  -- ---- agreement
  pub equal_ways : verdict c i ≡ Agree → HaveEqualWays c i
  equal_ways h Q q j k a b d =
      let says = of_overlaps (λ o. tried c i o ≡ Agree) n i
      (each_agrees (tried c i) (overlaps n i) h) j k a b d in
      let at = judged_agree i j k (first_written c i j k) (second_written c i j k) says in
      (first_is Q q j k a b d at.way at.first).1
      ∙ sym (second_is Q q j k a b d at.way at.second).1

  -- ---- a difference
  -- what 1 at place i hides comes back with 0 there
  put_back : (a : List ℤ) → IsIn c a → put (put a i (pos 1)) i (pos 0) ≡ a
  put_back a h =
      let at : IsAt n (suc i) a =
      at_of n (suc i) a (subst (λ (m : ℕ). IsVector n m a) above h) in
      let p : ℤ × Vec n (suc i) = (pos 1, (a, at)) in
      ap (λ (q : ℤ × Vec n (suc i)). q.1.0)
      (pair_whole n i g.least (omega (arith, below_last)) p)

  whole_in : (a : List ℤ) → IsIn c a → IsVector n i (put a i (pos 1))
  whole_in a h =
      let at : IsAt n (suc i) a =
      at_of n (suc i) a (subst (λ (m : ℕ). IsVector n m a) above h) in
      vector_of n i (put a i (pos 1)) (omega (arith, below_last))
      (IsAt-put n i a (pos 1) g.least (lower_at n i a at))

  abbrev word : ℕ → ℕ → List Letter
  word j k = up k ∷ up j ∷ up i ∷ []

  module _ (firsts : OfPlans FirstWaysStand) (seconds : OfPlans SecondWaysStand)
      (exist : HasPowers rels c.table.level f) where
    shown : (j k : ℕ) → i < j → j < k → k ≤ n → (a b : List ℤ) → first_written c i j k ≡ Ok a
        → second_written c i j k ≡ Ok b → a ≢ b → ShowsInconsistent rels (overlap_of i j k a b)
    shown j k low mid high a b first second ne =
        let (Q, q) = exist in
        let one = first_is Q q j k low mid high a first in
        let two = second_is Q q j k low mid high b second in
        let left : Congruent rels i (ordered (put a i (pos 1))) (word j k) =
        subst (λ v. Congruent rels i (ordered (put v i (pos 1))) (word j k)) one.1
        (firsts rels (between c.pres) i f Q (ready Q q) j k low mid high) in
        let right : Congruent rels i (ordered (put b i (pos 1))) (word j k) =
        subst (λ v. Congruent rels i (ordered (put v i (pos 1))) (word j k)) two.1
        (seconds rels (between c.pres) i f Q (ready Q q) j k low mid high) in
        let different : put a i (pos 1) ≢ put b i (pos 1) = λ e.
        ne (sym (put_back a one.0) ∙ ap (λ (v : List ℤ). put v i (pos 0)) e ∙ put_back b two.0) in
        let level : ¬ IsConsistent rels i = λ consistent.
        different (consistent (put a i (pos 1)) (put b i (pos 1)) (whole_in a one.0)
        (whole_in b two.0) (trans rels i left (back rels i right))) in
        record {
          left = left;
          right = right;
          different = different;
          level = level;
          presentation = λ consistent. level (consistent_higher rels i g.least consistent);
        }

    pub shows : (o : Overlap) → verdict c i ≡ Differ o → ShowsInconsistent rels o
    shows o h =
        let found = first_of_verdict c i (Differ o) (differs_not c i o) h in
        let is = overlap_in n i found.before found.overlap found.after
        (omega (arith, below_last)) found.listed in
        let at = judged_differ i found.overlap.0 found.overlap.1
        (first_written c i found.overlap.0 found.overlap.1)
        (second_written c i found.overlap.0 found.overlap.1) o found.says in
        subst (ShowsInconsistent rels) (sym at.is)
        (shown found.overlap.0 found.overlap.1 is.0 is.1 is.2 at.left at.right at.first at.second
        at.different)

-- ---- as clauses say it
if_agree : (r : LevelResult) (P : Type 0) → (r ≡ Agree → P) → IfAgree r P
if_agree Agree P h = h refl
if_agree (Differ o) P h = tt
if_agree (Wide j k) P h = tt

if_differ : (r : LevelResult) (P : Overlap → Type 0) → ((o : Overlap) → r ≡ Differ o → P o)
    → IfDiffer r P
if_differ Agree P h = tt
if_differ (Differ o) P h = h o refl
if_differ (Wide j k) P h = tt

pub agreement : (c : Paired) (i : ℕ) → Grounds c i → AgreementIs c i
agreement c i g = if_agree (verdict c i) (HaveEqualWays c i) (equal_ways c i g)

pub difference : (c : Paired) (i : ℕ) → Grounds c i → OfPlans FirstWaysStand
    → OfPlans SecondWaysStand → HasPowers (relations_of c.pres) c.table.level (values c.table)
    → DifferenceIs c i
difference c i g firsts seconds exist =
    if_differ (verdict c i) (ShowsInconsistent (relations_of c.pres))
    (shows c i g firsts seconds exist)
