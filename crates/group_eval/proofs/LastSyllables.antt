-- The sums of a product with a power of a generator, where the left vector is 0 above it: |x_g| and
-- |e| make the sum at the generator, and |x_k| alone that at each other.
--   g k generators · e exponent · v variable · a point · x vector · t table
use Rattle.std.proofs.Common.{◌≡◌, ◌≢◌, ℕ, ◌+◌, ◌-◌, ◌<◌, ◌≤◌, true, List, [], ◌∷◌, sym, ap, ◌∙◌, subst, arith, inl, inr}
use Rattle.std.specs.Prelude.{IsTrue, unsigned_abs}
use Rattle.std.proofs.lemmas.Bool.{cases_lt}
use Rattle.std.proofs.lemmas.Bool.Decides.{eqb_tells}
use Rattle.std.proofs.lemmas.List.Elements.{All-weaker}
use lib.IntN.{ℤ}
use Rattle.nil_word.specs.Exponents.{entry}
use Rattle.hall_law.specs.Table.{single, IsZeroAbove}
use Rattle.binom_poly.specs.declared.part.Part.{Part}
use Rattle.binom_poly.specs.declared.term.Term.{Term}
use Rattle.binom_poly.specs.Polynomial.{IsPolynomial}
use Rattle.binom_poly.specs.Readings.{magnitude_of}
use Rattle.binom_poly.specs.Variable.{y_of}
use Rattle.hall_table.specs.Shape.{is_lower, AreLower}
use Rattle.hall_table.specs.Tabled.{Tabled, last_of, poly_at}
use Rattle.hall_table.specs.Values.{point_of}
use Rattle.hall_table.proofs.Covering.{poly_lower}
use Rattle.hall_table.proofs.Entries.{point_of-x, point_of-y, is_lower-bounds_x, is_lower-bounds_y}
use Rattle.hall_table.proofs.Putting.{Agree, magnitude-agree}
use Rattle.group_eval.proofs.FewVariables.{of_var, IsPolynomial-one, IsPolynomial-two, magnitude-one, magnitude-two}
use Rattle.group_eval.proofs.Magnitudes.{magnitude-masked}
use Rattle.group_eval.proofs.CutPoints.{is_free, AddsAt, cut, positive, most, cut-free, cut-y, cut-x_above, cut-y_other, entry-own, entry-other, value-below, value-own, value-above, form}

module _ (t : Tabled) (g : ℕ) (s : AddsAt t g) (x : List ℤ) (e : ℤ) (above : IsZeroAbove g x) where
  abbrev here : ℕ → ℤ
  here = point_of x (single (last_of t) g e)

  abbrev at_free : ℕ → ℤ
  at_free = cut t g s here

  here-x : (k : ℕ) → k ≤ last_of t → here k ≡ entry x k
  here-x k u = let top = most t g s in point_of-x x (single (last_of t) g e) k (omega arith)

  here-y : here (y_of g) ≡ e
  here-y =
      let same : y_of g - 64 ≡ g = omega arith in
      point_of-y x (single (last_of t) g e) (y_of g) (omega arith)
      ∙ ap (entry (single (last_of t) g e)) same ∙ entry-own t g s e

  here-cut_x : (v : ℕ) → t.level ≤ v → v ≤ last_of t → here v ≡ at_free v
  here-cut_x v l u =
      let top = most t g s in
      elim (cases_lt g v) [
        | inl past ↦ here-x v u ∙ above v past ∙ sym (cut-x_above t g s here v past (omega arith))
        | inr within ↦ sym (cut-free t g s here v l within)
      ]

  here-cut_y : (v : ℕ) → 64 ≤ v → t.level ≤ v - 64 → here v ≡ at_free v
  here-cut_y v y l =
      let least = positive t g s in
      elim (eqb_tells v (y_of g)) [
        | inl same ↦
            subst (λ (w : ℕ). here w ≡ at_free w) (sym same.1) (sym (cut-y t g s here))
        | inr other ↦
            point_of-y x (single (last_of t) g e) v y
            ∙ entry-other t g s e (v - 64) (omega arith) (λ f. other.1 (omega arith))
            ∙ sym (cut-y_other t g s here v y other.1)
      ]

  here-cut : (v : ℕ) → is_lower t.level (last_of t + 1) v ≡ true → here v ≡ at_free v
  here-cut v l =
      let top = most t g s in
      elim (cases_lt v 64) [
        | inl y ↦
            (let b = is_lower-bounds_x t.level (last_of t + 1) v (omega arith) y l in
            here-cut_x v b.0 (omega (arith, b.1)))
        | inr y ↦
            (let b = is_lower-bounds_y t.level (last_of t + 1) v (omega arith) y l in
            here-cut_y v y b.0)
      ]

  magnitude-here : (k : ℕ) → t.level ≤ k → k ≤ last_of t
      → magnitude_of here (poly_at t k) ≡ magnitude_of at_free (poly_at t k)
  magnitude-here k l u =
      magnitude-agree here at_free (poly_at t k)
      (All-weaker (λ (w : Term). AreLower t.level (last_of t + 1) w.monomial)
      (λ (w : Term). Agree here at_free w.monomial)
      (λ w f. All-weaker (λ (q : Part). IsTrue (is_lower t.level (last_of t + 1) q.var))
      (λ (q : Part). here q.var ≡ at_free q.var) (λ q d. here-cut q.var d) w.monomial f)
      (poly_at t k) (poly_lower t k s.tabled l u))

  magnitude-below : (k : ℕ) → t.level ≤ k → k < g
      → magnitude_of here (poly_at t k) ≡ unsigned_abs (entry x k)
  magnitude-below k l u =
      let top = most t g s in
      let least = positive t g s in
      magnitude-here k l (omega arith)
      ∙ magnitude-masked (is_free t.level g) (poly_at t k) (of_var k ∷ [])
      (form t g s k l (omega arith)) (IsPolynomial-one k (omega arith) (omega arith))
      (λ a. value-below t g s a k l u) here
      ∙ magnitude-one here k ∙ ap unsigned_abs (here-x k (omega arith))

  magnitude-above : (k : ℕ) → g < k → k ≤ last_of t
      → magnitude_of here (poly_at t k) ≡ 0
  unfolding IsPolynomial magnitude_of
  magnitude-above k l u =
      magnitude-here k (omega arith) u
      ∙ magnitude-masked (is_free t.level g) (poly_at t k) [] (form t g s k (omega arith) u) tt
      (λ a. value-above t g s a k l u) here

  pub magnitude-own : magnitude_of here (poly_at t g) ≡ unsigned_abs (entry x g) + unsigned_abs e
  magnitude-own =
      let top = most t g s in
      let least = positive t g s in
      magnitude-here g s.low s.high
      ∙ magnitude-masked (is_free t.level g) (poly_at t g) (of_var g ∷ of_var (y_of g) ∷ [])
      (form t g s g s.low s.high) (IsPolynomial-two g (omega arith) (omega arith)) (value-own t g s) here
      ∙ magnitude-two here g
      ∙ ap (λ z. unsigned_abs z + unsigned_abs (here (y_of g))) (here-x g s.high)
      ∙ ap (λ z. unsigned_abs (entry x g) + unsigned_abs z) here-y

  pub magnitude-other : (k : ℕ) → t.level ≤ k → k ≤ last_of t → k ≢ g
      → magnitude_of here (poly_at t k) ≡ unsigned_abs (entry x k)
  magnitude-other k l u other =
      elim (cases_lt k g) [
        | inl below ↦ magnitude-below k l below
        | inr past ↦
            magnitude-above k (omega arith) u
            ∙ ap unsigned_abs (sym (above k (omega arith)))
      ]
