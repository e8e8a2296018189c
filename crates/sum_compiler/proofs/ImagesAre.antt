-- The polynomials of the image plan are images, whatever the values of the other variables.
--   rels presentation · t table of the level above i · P its powers · b a point of the other
--   variables · s an integer · j l k generators · made all images, that of the last generator first
use Rattle.std.proofs.Common.{◌≡◌, ℕ, suc, ◌+◌, ◌-◌, ◌<◌, ◌≤◌, List, [], ◌∷◌, ◌++◌, length, map, get_or, replicate, refl, sym, ap, ◌∙◌, subst, arith, inl, inr}
use Rattle.std.specs.Prelude.{All}
use Rattle.std.proofs.lemmas.Bool.{cases_lt}
use Rattle.std.proofs.lemmas.Bool.Decides.{eqb_tells}
use Rattle.std.proofs.lemmas.Bool.{eq-eqb, ne_eqb}
use Rattle.std.proofs.lemmas.List.{get_or_append_left, length-replicate, get_or-replicate, length-map}
use Rattle.std.proofs.lemmas.List.Elements.{All-head, All-tail, All-weaker}
use Rattle.std.proofs.Math.Seq.{get_or-append_seam}
use lib.IntN.{ℤ, pos, ◌+ℤ◌}
use Rattle.nil_word.specs.Words.{IsVector}
use Rattle.nil_word.specs.Congruence.{Relations}
use Rattle.nil_word.specs.Exponents.{entry}
use Rattle.nil_word.specs.Factors.{Factor, Factoring}
use Rattle.hall_law.specs.Plan.{Powers, Images, IsPower, collected, AreImages, IsPlanned}
use Rattle.hall_law.specs.Shape.{AreStepped}
use Rattle.hall_law.specs.Table.{zeros, IsTable}
use Rattle.hall_law.proofs.Stepping.{are_images}
use Rattle.hall_law.proofs.Vectors.{IsAt-zeros, entry-zeros}
use Rattle.binom_poly.specs.declared.term.Term.{Term}
use Rattle.binom_poly.specs.Collected.{constant_terms}
use Rattle.binom_poly.specs.Polynomial.{value_of}
use Rattle.binom_poly.specs.Variable.{step_variable}
use Rattle.binom_poly.proofs.Canonical.{value-constant_terms}
use Rattle.poly_subst.specs.Steps.{bump}
use Rattle.poly_subst.specs.Substitute.{substituted}
use Rattle.hall_table.specs.Order.{generators}
use Rattle.hall_table.specs.Tabled.{Tabled, IsTabled, last_of, poly_in}
use Rattle.hall_table.specs.Values.{values}
use Rattle.sum_compiler.specs.declared.sum_step.SumStep.TheVariants as step
use Rattle.sum_compiler.specs.Calls.{IsMade}
use Rattle.sum_compiler.specs.Putting.{to_power}
use Rattle.sum_compiler.specs.Summing.{with_sums, sum_calls}
use Rattle.sum_compiler.specs.Joining.{power_of, power_calls, joined_calls}
use Rattle.sum_compiler.specs.Powers.{zs, powers, power_plan}
use Rattle.sum_compiler.specs.Images.{image_at, right_power, right_of, right_calls, first_of, next_generator, images, all_images, image_plan}
use Rattle.sum_compiler.specs.Readings.{read, at_time}
use Rattle.sum_compiler.proofs.Walking.{made_left, made_right}
use Rattle.sum_compiler.proofs.SumsSoFar.{length-with_sums}
use Rattle.sum_compiler.proofs.ReadAt.{funext, bounds_of, entry-read, IsAt-read, IsVector-read, read_is}
use Rattle.sum_compiler.proofs.Moving.{nothing, with_sums-none, kept_at, entry-start, entry-step}
use Rattle.sum_compiler.proofs.JoinedSoFar.{length-joined}
use Rattle.sum_compiler.proofs.ReadPut.{read-power, read-joined}
use Rattle.sum_compiler.proofs.ImageEntries.{length-first_of, generator_is, images-at, image-next, length-image, calls_of}

pub bump-at_time : (b : ℕ → ℤ) (s : ℤ) → at_time b (s +ℤ pos 1) ≡ bump step_variable (at_time b s)
bump-at_time b s =
    funext (at_time b (s +ℤ pos 1)) (bump step_variable (at_time b s))
    (λ v. elim (eqb_tells v 200) [
      | inl same ↦ rw (eq-eqb v 200 same.1) refl
      | inr other ↦ rw (ne_eqb v 200 other.1) refl
    ])

-- ---- the entries of A_j up to j
abbrev none : List Term
none = []

first_below : (t : Tabled) (j k : ℕ) → t.level ≤ k → k < j → poly_in t.level (first_of t j) k ≡ []
first_below t j k low high =
    let size = length-replicate (j - t.level) none in
    get_or_append_left (replicate (j - t.level) []) (constant_terms (pos 1) ∷ []) [] (k - t.level)
    (omega arith)
    ∙ get_or-replicate (j - t.level) (k - t.level) [] [] (omega arith)

first_at : (t : Tabled) (j : ℕ) → t.level ≤ j
    → poly_in t.level (first_of t j) j ≡ constant_terms (pos 1)
first_at t j low =
    ap (λ (i : ℕ). get_or (first_of t j) i []) (sym (length-replicate (j - t.level) none))
    ∙ get_or-append_seam (replicate (j - t.level) []) (constant_terms (pos 1)) [] []

module _ (rels : Relations) (factors : Factoring) (i : ℕ) (t : Tabled) (P : Powers)
    (planned : IsPlanned rels factors i (values t) P) (h : IsTabled t) (level : t.level ≡ suc i)
    (same : last_of t ≡ rels.count) (powers_made : All IsMade (power_plan t))
    (images_made : All IsMade (image_plan t (factors i))) (b : ℕ → ℤ) (A : Images)
    (A_is : (j : ℕ) (s : ℤ) → i < j → j ≤ last_of t
    → A j s ≡ read t (at_time b s) (image_at (all_images t (factors i)) t j)) where
  abbrev n : ℕ
  n = last_of t

  abbrev made : List (List (List Term))
  made = all_images t (factors i)

  is_table : IsTable rels t.level (values t)
  is_table = subst (λ (m : ℕ). IsTable rels m (values t)) (sym level) planned.table

  is_power : IsPower rels.count t.level (values t) P
  is_power = subst (λ (m : ℕ). IsPower rels.count m (values t) P) (sym level) planned.powers

  abbrev before : ℕ → List (List (List Term))
  before j = images t (factors i) (n - j)

  abbrev steps : ℕ → List (List Term)
  steps j = right_of (before j) t j (factors i j)

  end_of : t.level + length t.polys ≡ suc n
  end_of = (bounds_of t h).end

  generator : (j : ℕ) → i < j → j ≤ n → next_generator t (before j) ≡ j
  generator j low high =
      generator_is t (factors i) (n - j) ∙ (let e : n - (n - j) ≡ j = omega arith in e)

  image_is : (j : ℕ) → i < j → j ≤ n
      → image_at made t j ≡ with_sums t (steps j) (first_of t j) (n - j)
  image_is j low high =
      let end : t.level + length t.polys ≡ suc n = end_of in
      image-next t (factors i) (n - j) (generators t) (omega arith)
      ∙ ap (λ (m : ℕ). with_sums t (right_of (before j) t m (factors i m)) (first_of t m) (n - m))
      (generator j low high)

  calls : (j : ℕ) → i < j → j ≤ n → All IsMade (right_calls (before j) t j (factors i j))
      × All IsMade (sum_calls step.Image j t (steps j) (first_of t j) (n - j))
  calls j low high =
      let end : t.level + length t.polys ≡ suc n = end_of in
      let both = subst (λ (m : ℕ). All IsMade (right_calls (before j) t m (factors i m)
      ++ sum_calls step.Image m t (right_of (before j) t m (factors i m)) (first_of t m) (n - m)))
      (generator j low high)
      (calls_of t (factors i) (n - j) (generators t) (omega arith) images_made) in (
        made_left (right_calls (before j) t j (factors i j))
            (sum_calls step.Image j t (steps j) (first_of t j) (n - j)) both,
        made_right (right_calls (before j) t j (factors i j))
            (sum_calls step.Image j t (steps j) (first_of t j) (n - j)) both,
      )

  -- ---- the product that a step multiplies by
  Fact : ℕ → ℤ → Factor → Type 0
  Fact j s x = (length (right_power (before j) t j x).vector ≡ generators t)
      × (read t (at_time b s) (right_power (before j) t j x).vector ≡ A x.number s)
      × (value_of (at_time b s) (right_power (before j) t j x).exponent ≡ x.exp)

  fact : (j : ℕ) (s : ℤ) (x : Factor) → i < j → j ≤ n → j < x.number → x.number ≤ n → Fact j s x
  unfolding Fact
  fact j s x low high above most =
      let end : t.level + length t.polys ≡ suc n = end_of in (
        length-image t (factors i) (n - j) (n - x.number) h (omega arith) (omega arith),
        ap (read t (at_time b s))
            (sym (images-at t (factors i) (n - j) (generators t) (n - x.number) (omega arith)
            (omega arith)))
            ∙ sym (A_is x.number s (omega arith) most),
        value-constant_terms (at_time b s) x.exp,
      )

  facts : (j : ℕ) (s : ℤ) → i < j → j ≤ n → All (Fact j s) (factors i j)
  facts j s low high =
      All-weaker (λ (x : Factor). (j < x.number) × (x.number ≤ rels.count)) (Fact j s)
      (λ x p. fact j s x low high p.0 (omega (arith, p.1))) (factors i j)
      (planned.factored.above i j planned.least low (omega arith))

  no_power : (s : ℤ) → read t (at_time b s) (replicate (generators t) []) ≡ zeros rels.count
  no_power s =
      let end : t.level + length t.polys ≡ suc n = end_of in
      read_is t (at_time b s) (replicate (generators t) []) (zeros n) (bounds_of t h)
      (IsAt-zeros n t.level)
      (λ k low high.
      ap (value_of (at_time b s))
      (get_or-replicate (generators t) (k - t.level) [] [] (omega arith))
      ∙ nothing (at_time b s) ∙ sym (entry-zeros n k))
      ∙ ap zeros same

  with_zeros : (v : List ℤ) → IsVector n t.level v → values t (zeros rels.count) v ≡ v
  with_zeros v hv =
      (is_table.multiplies.unit v (subst (λ (m : ℕ). IsVector m t.level v) same hv)).1

  read-right : (j : ℕ) (s : ℤ) (ss : List Factor) → All (Fact j s) ss
      → All IsMade (right_calls (before j) t j ss)
      → read t (at_time b s) (right_of (before j) t j ss)
      ≡ collected (values t) P (λ l. A l s) ss (zeros rels.count)
  unfolding Fact
  read-right j s [] all made = no_power s
  read-right j s (x ∷ ss) all made =
      let g = right_power (before j) t j x in
      let a = at_time b s in
      let bounds = bounds_of t h in
      let w = power_of t (powers t) g in
      let size = length-with_sums t (zs t) [] (generators t) in
      let here = All-head (Fact j s) x ss all in
      let first : read t a w ≡ P (A x.number s) x.exp =
      read-power rels t planned.presentation h is_table same powers_made P is_power step.Image g a here.0
      (made_left (power_calls step.Image t (powers t) g)
      (joined_calls step.Image t (powers t) w (map (right_power (before j) t j) ss)) made)
      ∙ ap (λ (u : List ℤ). P u (value_of a g.exponent)) here.1
      ∙ ap (P (A x.number s)) here.2 in
      read-joined rels t planned.presentation h is_table same powers_made P is_power step.Image
      (right_power (before j) t j) (λ l. A l s) ss w a
      (length-map (powers t) (λ p. substituted p (to_power t.level g.vector g.exponent)) ∙ omega arith)
      (All-tail (Fact j s) x ss all)
      (made_right (power_calls step.Image t (powers t) g)
      (joined_calls step.Image t (powers t) w (map (right_power (before j) t j) ss)) made)
      ∙ ap (collected (values t) P (λ l. A l s) ss)
      (sym (with_zeros (read t a w) (IsVector-read t a w bounds.most))
      ∙ ap (values t (zeros rels.count)) first)

  -- ---- entry by entry
  length-steps : (j : ℕ) (ss : List Factor) → length (right_of (before j) t j ss) ≡ generators t
  length-steps j [] = length-replicate (generators t) []
  length-steps j (x ∷ ss) =
      let g = right_power (before j) t j x in
      let size = length-with_sums t (zs t) [] (generators t) in
      length-joined t (powers t) (power_of t (powers t) g) (map (right_power (before j) t j) ss)
      (length-map (powers t) (λ p. substituted p (to_power t.level g.vector g.exponent)) ∙ omega arith)

  early : (j k : ℕ) → i < j → j ≤ n → t.level ≤ k → k ≤ j
      → poly_in t.level (image_at made t j) k ≡ poly_in t.level (first_of t j) k
  early j k low high least most =
      let size = length-first_of t j (omega arith) in
      ap (λ (ps : List (List Term)). poly_in t.level ps k) (image_is j low high)
      ∙ kept_at t (steps j) (first_of t j) 0 (n - j) (k - t.level) (omega arith) (omega arith)
      ∙ ap (λ (ps : List (List Term)). poly_in t.level ps k) (with_sums-none t (steps j) (first_of t j))

  entry-image : (j k : ℕ) (s : ℤ) → i < j → j ≤ n → t.level ≤ k → k ≤ n
      → entry (A j s) k ≡ value_of (at_time b s) (poly_in t.level (image_at made t j) k)
  entry-image j k s low high least most =
      ap (λ (u : List ℤ). entry u k) (A_is j s low high)
      ∙ entry-read t (at_time b s) (image_at made t j) k (bounds_of t h).least least most

  below : (j : ℕ) (s : ℤ) (k : ℕ) → i < j → j ≤ n → 1 ≤ k → k < j → entry (A j s) k ≡ pos 0
  below j s k low high one l =
      elim (cases_lt k t.level) [
        | inl u ↦
            ap (λ (v : List ℤ). entry v k) (A_is j s low high)
            ∙ (IsAt-read t (at_time b s) (image_at made t j) (bounds_of t h).most).clear k one u
        | inr u ↦
            entry-image j k s low high u (omega arith)
            ∙ ap (value_of (at_time b s)) (early j k low high u (omega arith) ∙ first_below t j k u l)
            ∙ nothing (at_time b s)
      ]

  at_own : (j : ℕ) (s : ℤ) → i < j → j ≤ n → entry (A j s) j ≡ pos 1
  at_own j s low high =
      entry-image j j s low high (omega arith) high
      ∙ ap (value_of (at_time b s)) (early j j low high (omega arith) (omega arith) ∙ first_at t j (omega arith))
      ∙ value-constant_terms (at_time b s) (pos 1)

  starts : (j k : ℕ) → i < j → j < k → k ≤ n → entry (A j (pos 0)) k ≡ pos 0
  starts j k low above most =
      let size = length-first_of t j (omega arith) in
      let end : t.level + length t.polys ≡ suc n = end_of in
      entry-image j k (pos 0) low (omega arith) (omega arith) most
      ∙ ap (λ (ps : List (List Term)). value_of (at_time b (pos 0)) (poly_in t.level ps k))
      (image_is j low (omega arith))
      ∙ entry-start step.Image j t (steps j) (first_of t j) (n - j) k (at_time b (pos 0))
      ((calls j low (omega arith)).1) (omega arith) (omega arith) refl

  moves : (j : ℕ) (s : ℤ) (k : ℕ) → i < j → j < k → k ≤ n
      → entry (A j (s +ℤ pos 1)) k
      ≡ entry (values t (A j s) (collected (values t) P (λ l. A l s) (factors i j) (zeros rels.count))) k
  moves j s k low above most =
      let size = length-first_of t j (omega arith) in
      let end : t.level + length t.polys ≡ suc n = end_of in
      let a = at_time b s in
      let is = image_is j low (omega arith) in
      let both = calls j low (omega arith) in
      entry-image j k (s +ℤ pos 1) low (omega arith) (omega arith) most
      ∙ ap (λ (c : ℕ → ℤ). value_of c (poly_in t.level (image_at made t j) k)) (bump-at_time b s)
      ∙ ap (λ (ps : List (List Term)). value_of (bump step_variable a) (poly_in t.level ps k)) is
      ∙ entry-step step.Image j t (steps j) (first_of t j) (n - j) k a h (length-steps j (factors i j))
      (omega arith) both.1 (omega arith) most
      ∙ ap (λ (ps : List (List Term)). entry (values t (read t a ps) (read t a (steps j))) k) (sym is)
      ∙ ap (λ (u : List ℤ). entry (values t u (read t a (steps j))) k) (sym (A_is j s low (omega arith)))
      ∙ ap (λ (u : List ℤ). entry (values t (A j s) u) k)
      (read-right j s (factors i j) (facts j s low (omega arith)) both.0)

  are_stepped : AreStepped rels factors i (values t) P A
  are_stepped = record {
    size = λ j s low high.
        ap length (A_is j s low (omega arith))
        ∙ (IsAt-read t (at_time b s) (image_at made t j) (bounds_of t h).most).size ∙ same;
    below = λ j s k low high one l. below j s k low (omega arith) one l;
    first = λ j s low high. at_own j s low (omega arith);
    start = λ j k low above high. starts j k low above (omega arith);
    next = λ j s k low above high. moves j s k low above (omega arith);
  }

  pub images_are : AreImages rels factors i (values t) P A
  images_are = are_images rels factors i (values t) P planned A are_stepped

  pub images_stepped : AreStepped rels factors i (values t) P A
  images_stepped = are_stepped
