-- The product of the images, read at a point.
--   rels presentation · t table of the level above i · P its powers · a point · A images
--   made the images' polynomials · x v vectors · j k m generators · s factor · e entry
use Rattle.std.proofs.Common.{◌≡◌, ℕ, suc, ◌+◌, ◌-◌, ◌<◌, ◌≤◌, List, [], ◌∷◌, ◌++◌, length, map, drop, get_or, refl, sym, ap, ◌∙◌, subst, arith, inl, inr}
use Rattle.std.specs.Prelude.{All}
use Rattle.std.proofs.lemmas.Bool.{cases_lt, ne_eqb}
use Rattle.std.proofs.lemmas.Bool.Decides.{eqb_tells}
use Rattle.std.proofs.lemmas.List.{length-drop, get_or-drop, length-map}
use Rattle.std.proofs.lemmas.List.Elements.{All-nil, All-cons}
use Rattle.std.proofs.Math.Seq.{drop-cons}
use lib.IntN.{ℤ, pos}
use Rattle.nil_word.specs.Words.{IsVector}
use Rattle.nil_word.specs.Congruence.{Relations}
use Rattle.nil_word.specs.Exponents.{entry, numbers}
use Rattle.nil_word.specs.Factors.{Factor, Factoring, factors_from}
use Rattle.hall_law.specs.Plan.{Powers, Images, IsPower, collected, assembled, IsPlanned}
use Rattle.hall_law.specs.Table.{zeros, IsTable}
use Rattle.binom_poly.specs.declared.term.Term.{Term}
use Rattle.binom_poly.specs.Collected.{var_terms}
use Rattle.binom_poly.specs.Polynomial.{value_of}
use Rattle.binom_poly.specs.Variable.{x_of, y_of}
use Rattle.binom_poly.proofs.Canonical.{value-var_terms}
use Rattle.poly_subst.specs.Substitute.{replaced, substituted}
use Rattle.hall_table.specs.Order.{generators}
use Rattle.hall_table.specs.Tabled.{Tabled, IsTabled, last_of, poly_in}
use Rattle.hall_table.specs.Values.{values}
use Rattle.sum_compiler.specs.declared.sum_step.SumStep.TheVariants as step
use Rattle.sum_compiler.specs.Calls.{IsMade}
use Rattle.sum_compiler.specs.Putting.{put_in}
use Rattle.sum_compiler.specs.Joining.{Powering, power_of, power_calls, joined, joined_calls}
use Rattle.sum_compiler.specs.Powers.{powers, power_plan}
use Rattle.sum_compiler.specs.Images.{image_at}
use Rattle.sum_compiler.specs.Products.{at_y, product_power, later_powers, product, at_y_calls, all_at_y_calls, product_plan}
use Rattle.sum_compiler.specs.Readings.{read, at_time}
use Rattle.sum_compiler.proofs.Walking.{made_left, made_right}
use Rattle.sum_compiler.proofs.Replacing.{replaced-t, replaced-other}
use Rattle.sum_compiler.proofs.ReadAt.{funext, bounds_of, entry-read, IsAt-read, IsVector-read, read_is}
use Rattle.sum_compiler.proofs.JoinedSoFar.{length-power_of}
use Rattle.sum_compiler.proofs.ReadPut.{value-put_in, read-power, read-joined}
use Rattle.sum_compiler.proofs.BasesSoFar.{bases_at}

module _ (rels : Relations) (factors : Factoring) (i : ℕ) (t : Tabled) (P : Powers)
    (planned : IsPlanned rels factors i (values t) P) (h : IsTabled t) (level : t.level ≡ suc i)
    (same : last_of t ≡ rels.count) (powers_made : All IsMade (power_plan t))
    (made : List (List (List Term))) (a : ℕ → ℤ) (A : Images)
    (A_is : (j : ℕ) (s : ℤ) → i < j → j ≤ last_of t
    → A j s ≡ read t (at_time a s) (image_at made t j))
    (size : (j : ℕ) → i < j → j ≤ last_of t → length (image_at made t j) ≡ generators t)
    (product_made : All IsMade (product_plan made t i)) where
  abbrev n : ℕ
  n = last_of t

  abbrev image : ℕ → List ℤ
  image j = A j (a (y_of i))

  abbrev of : Factor → Powering
  of s = product_power made t i s.number

  is_table : IsTable rels t.level (values t)
  is_table = subst (λ (m : ℕ). IsTable rels m (values t)) (sym level) planned.table

  is_power : IsPower rels.count t.level (values t) P
  is_power = subst (λ (m : ℕ). IsPower rels.count m (values t) P) (sym level) planned.powers

  with_zeros : (v : List ℤ) → IsVector n t.level v → values t (zeros rels.count) v ≡ v
  with_zeros v hv =
      (is_table.multiplies.unit v (subst (λ (m : ℕ). IsVector m t.level v) same hv)).1

  -- ---- the calls
  at_y_made : (j : ℕ) → i < j → j ≤ n → All IsMade (at_y_calls made t i j)
  at_y_made j low high =
      let end : t.level + length t.polys ≡ suc n = (bounds_of t h).end in
      let g = product_power made t i t.level in
      bases_at made t i j (generators t) (omega arith) (omega arith)
      (made_left (all_at_y_calls made t i (numbers t.level (generators t)))
      (power_calls step.Product t (powers t) g
      ++ joined_calls step.Product t (powers t) (power_of t (powers t) g) (later_powers made t i))
      product_made)

  rest_made : All IsMade (power_calls step.Product t (powers t) (product_power made t i t.level))
      × All IsMade (joined_calls step.Product t (powers t)
      (power_of t (powers t) (product_power made t i t.level)) (later_powers made t i))
  rest_made =
      let g = product_power made t i t.level in
      let first = power_calls step.Product t (powers t) g in
      let later = joined_calls step.Product t (powers t) (power_of t (powers t) g)
      (later_powers made t i) in
      let both = made_right (all_at_y_calls made t i (numbers t.level (generators t)))
      (first ++ later) product_made in
      (made_left first later both, made_right first later both)

  -- ---- y_i in place of t
  at_y_is : replaced (at_y t i) a ≡ at_time a (a (y_of i))
  at_y_is =
      let b = bounds_of t h in
      let most : t.level ≤ last_of t = b.most in
      let last : last_of t ≤ 48 = b.last in
      funext (replaced (at_y t i) a) (at_time a (a (y_of i)))
      (λ v. elim (eqb_tells v 200) [
        | inl e ↦
            subst (λ (w : ℕ). replaced (at_y t i) a w ≡ at_time a (a (y_of i)) w) (sym e.1)
            (replaced-t t.level [] (var_terms (y_of i)) a (omega arith)
            ∙ value-var_terms a (y_of i))
        | inr other ↦
            replaced-other t.level [] (var_terms (y_of i)) a v other.1
            (elim (cases_lt v (128 + t.level)) [ inl l ↦ inl l | inr g ↦ inr (omega arith) ])
            ∙ sym (rw (ne_eqb v 200 other.1) refl)
      ])

  read-at_y : (j : ℕ) → i < j → j ≤ n
      → read t a (put_in (at_y t i) (image_at made t j)) ≡ image j
  read-at_y j low high =
      let b = bounds_of t h in
      let end : t.level + length t.polys ≡ suc n = b.end in
      let long = size j low high in
      let c = at_time a (a (y_of i)) in
      read_is t a (put_in (at_y t i) (image_at made t j)) (read t c (image_at made t j)) b
      (IsAt-read t c (image_at made t j) b.most)
      (λ k least most.
      value-put_in step.Product j t.level (at_y t i) (image_at made t j) (k - t.level) a
      (omega arith) (at_y_made j low high)
      ∙ ap (λ (d : ℕ → ℤ). value_of d (poly_in t.level (image_at made t j) k)) at_y_is
      ∙ sym (entry-read t c (image_at made t j) k b.least least most))
      ∙ sym (A_is j (a (y_of i)) low high)

  -- ---- the powers
  abbrev Fact : Factor → Type 0
  Fact s =
      (length (of s).vector ≡ generators t)
      × (read t a (of s).vector ≡ image s.number) × (value_of a (of s).exponent ≡ s.exp)

  fact : (s : Factor) → i < s.number → s.number ≤ n → a s.number ≡ s.exp → Fact s
  fact s low high e = (
    length-map (image_at made t s.number) (λ p. substituted p (at_y t i)) ∙ size s.number low high,
    read-at_y s.number low high,
    value-var_terms a (x_of s.number) ∙ e,
  )

  facts : (m : ℕ) (v : List ℤ) → i < m → m + length v ≤ suc n
      → ((l : ℕ) → l < length v → a (m + l) ≡ get_or v l (pos 0)) → All Fact (factors_from m v)
  facts m [] low high e = All-nil Fact
  facts m (x ∷ v) low high e =
      All-cons Fact record { number = m; exp = x } (factors_from (suc m) v)
      (fact record { number = m; exp = x } low (omega arith)
      (ap a (let z : m ≡ m + 0 = omega arith in z) ∙ e 0 (omega arith)))
      (facts (suc m) v (omega arith) (omega arith)
      (λ l u. ap a (let z : suc m + l ≡ m + suc l = omega arith in z) ∙ e (suc l) (omega arith)))

  of-factors : (m : ℕ) (v : List ℤ)
      → map of (factors_from m v) ≡ map (product_power made t i) (numbers m (length v))
  of-factors m [] = refl
  of-factors m (x ∷ v) =
      ap (λ (gs : List Powering). product_power made t i m ∷ gs) (of-factors (suc m) v)

  -- ---- the product
  module _ (x : List ℤ) (long : length x ≡ rels.count)
      (x_is : (m : ℕ) → i < m → m ≤ last_of t → a m ≡ entry x m) where
    abbrev v : List ℤ
    v = drop (suc i) x

    abbrev e : ℤ
    e = get_or x i (pos 0)

    abbrev w : List (List Term)
    w = power_of t (powers t) (product_power made t i t.level)

    length-v : length v ≡ generators t - 1
    length-v =
        let end : t.level + length t.polys ≡ suc n = (bounds_of t h).end in
        length-drop (suc i) x ∙ omega arith

    later_is : later_powers made t i ≡ map of (factors_from (suc t.level) v)
    later_is =
        ap (λ (d : ℕ). map (product_power made t i) (numbers (suc t.level) d)) (sym length-v)
        ∙ sym (of-factors (suc t.level) v)

    first_fact : Fact record { number = t.level; exp = e }
    first_fact =
        let most : t.level ≤ last_of t = (bounds_of t h).most in
        fact record { number = t.level; exp = e } (omega arith) most
        (x_is t.level (omega arith) most
        ∙ ap (λ (m : ℕ). get_or x m (pos 0)) (let z : t.level - 1 ≡ i = omega arith in z))

    later_facts : All Fact (factors_from (suc t.level) v)
    later_facts =
        let end : t.level + length t.polys ≡ suc n = (bounds_of t h).end in
        let some : t.level ≤ last_of t = (bounds_of t h).most in
        let few = length-v in
        facts (suc t.level) v (omega arith) (omega arith)
        (λ l u. x_is (suc t.level + l) (omega arith) (omega arith)
        ∙ ap (λ (m : ℕ). get_or x m (pos 0))
        (let z : suc t.level + l - 1 ≡ suc i + l = omega arith in z)
        ∙ sym (get_or-drop (suc i) x l (pos 0)))

    first_read : read t a w ≡ P (image t.level) e
    first_read =
        let g = product_power made t i t.level in
        read-power rels t planned.presentation h is_table same powers_made P is_power step.Product g
        a first_fact.0 rest_made.0
        ∙ ap (λ (u : List ℤ). P u (value_of a g.exponent)) first_fact.1
        ∙ ap (P (image t.level)) first_fact.2

    abbrev joined_from : ℕ → List ℤ → List ℤ
    joined_from m u = collected (values t) P image (factors_from m u) (zeros rels.count)

    pub read-product : read t a (product made t i)
        ≡ assembled rels.count (suc i) (values t) P image x
    read-product =
        let b = bounds_of t h in
        let some : t.level ≤ last_of t = b.most in
        ap (λ (gs : List Powering). read t a (joined t (powers t) w gs)) later_is
        ∙ read-joined rels t planned.presentation h is_table same powers_made P is_power
        step.Product of image (factors_from (suc t.level) v) w a
        (length-power_of t (product_power made t i t.level)) later_facts
        (subst (λ (gs : List Powering). All IsMade (joined_calls step.Product t (powers t) w gs))
        later_is rest_made.1)
        ∙ ap (collected (values t) P image (factors_from (suc t.level) v))
        (sym (with_zeros (read t a w) (IsVector-read t a w b.most))
        ∙ ap (values t (zeros rels.count)) first_read)
        ∙ ap (λ (m : ℕ). joined_from m (e ∷ v)) level
        ∙ ap (joined_from (suc i)) (sym (drop-cons x i (pos 0) (omega arith)))
        ∙ ap (λ (k : ℕ). joined_from (suc i) (drop k x))
        (let z : i ≡ suc i - 1 = omega arith in z)
