-- The product of two generators that commute, the later one on the left, by the written order: no
-- row and no sum overflows, since each is of 0 and 1.
--   t table · j < k m generators · v variable · a point · n last generator
use Rattle.std.proofs.Common.{◌≡◌, ◌≢◌, ℕ, ◌+◌, ◌-◌, ◌^◌, ◌<◌, ◌≤◌, true, List, [], length, sym, ap, ◌∙◌, subst, arith, inl, inr}
use Rattle.std.specs.Prelude.{IsTrue, unsigned_abs, Ok, None}
use Rattle.std.proofs.lemmas.Bool.{cases_lt, lt-leb}
use Rattle.std.proofs.lemmas.Bool.Decides.{eqb_tells}
use Rattle.std.proofs.lemmas.Int.{ints}
use Rattle.std.proofs.lemmas.List.Elements.{All-weaker}
use lib.IntN.{ℤ, pos, ◌+ℤ◌, ◌*ℤ◌}
use Rattle.nil_num.specs.First.{first_from}
use Rattle.nil_word.specs.Exponents.{entry}
use Rattle.hall_law.specs.Table.{single}
use Rattle.hall_law.proofs.Vectors.{part, part_same, part_other}
use Rattle.binom_poly.specs.declared.part.Part.{Part}
use Rattle.binom_poly.specs.declared.term.Term.{Term}
use Rattle.binom_poly.specs.Collected.{var_terms}
use Rattle.binom_poly.specs.Dependence.{alone}
use Rattle.binom_poly.specs.Polynomial.{monomial_value, value_of, IsPolynomial}
use Rattle.binom_poly.specs.Readings.{magnitude_of}
use Rattle.binom_poly.specs.Variable.{y_of}
use Rattle.binom_poly.proofs.Canonical.{polynomial-var, value-var_terms}
use Rattle.hall_table.specs.declared.wide_at.WideAt.TheVariants.{RowX, RowY, Sum}
use Rattle.hall_table.specs.Order.{generators, named, multiplied, x_overflows, y_overflows, sum_at_overflows}
use Rattle.hall_table.specs.Shape.{is_lower, AreLower}
use Rattle.hall_table.specs.Tabled.{Tabled, last_of, poly_at}
use Rattle.hall_table.specs.Values.{point_of, values}
use Rattle.hall_table.specs.Width.{width_for}
use Rattle.hall_table.proofs.Covering.{poly_lower}
use Rattle.hall_table.proofs.Entries.{point_of-x, point_of-y, is_lower-bounds_x, is_lower-bounds_y}
use Rattle.hall_table.proofs.Orders.{first_none}
use Rattle.hall_table.proofs.Putting.{Agree, magnitude-agree}
use Rattle.hall_table.proofs.Widths.{x_variable, y_variable}
use Rattle.group_eval.proofs.Appending.{entry-single}
use Rattle.group_eval.proofs.Magnitudes.{magnitude-masked}
use Rattle.group_eval.specs.Order.{Outcome}
use Rattle.overlap_test.proofs.Crossed.{Commutes, is_free, positive, most, cut, cut-x, cut-y, cut-other, value-k, value-j, value-other}
use Rattle.overlap_test.proofs.SmallRows.{IsBit, row_overflows-bit}

-- ---- rows
bit-single : (n k m : ℕ) → 1 ≤ k → k ≤ n → 1 ≤ m → IsBit (entry (single n k (pos 1)) m)
bit-single n k m low high first =
    let e = entry-single n k (pos 1) m low high first in
    elim (eqb_tells m k) [
      | inl same ↦ inr (e ∙ part_same m k (pos 1) same.1)
      | inr other ↦ inl (e ∙ part_other m k (pos 1) other.1)
    ]

pub rows-x : (t : Tabled) (n k : ℕ) → 1 ≤ t.level → 1 ≤ k → k ≤ n
    → first_from t.level (generators t) (x_overflows t (single n k (pos 1))) ≡ None
rows-x t n k least low high =
    first_none (x_overflows t (single n k (pos 1))) t.level (generators t)
    (λ m a b. row_overflows-bit (entry (single n k (pos 1)) m) (width_for t m)
    (bit-single n k m low high (omega arith)))

pub rows-y : (t : Tabled) (n k : ℕ) → 1 ≤ t.level → 1 ≤ k → k ≤ n
    → first_from t.level (generators t) (y_overflows t (single n k (pos 1))) ≡ None
rows-y t n k least low high =
    first_none (y_overflows t (single n k (pos 1))) t.level (generators t)
    (λ m a b. row_overflows-bit (entry (single n k (pos 1)) m) (width_for t (y_of m))
    (bit-single n k m low high (omega arith)))

-- ---- sums
magnitude-var : (a : ℕ → ℤ) (v : ℕ) → magnitude_of a (var_terms v) ≡ unsigned_abs (a v)
unfolding value_of magnitude_of
magnitude-var a v = own (pos 1 *ℤ monomial_value a (alone v)) (a v) (value-var_terms a v)
  where
    own : (w z : ℤ) → w +ℤ pos 0 ≡ z → unsigned_abs w + 0 ≡ unsigned_abs z
    own w z e = omega (arith, ints)

module _ (t : Tabled) (j k : ℕ) (c : Commutes t j k) where
  abbrev here : ℕ → ℤ
  here = point_of (single (last_of t) k (pos 1)) (single (last_of t) j (pos 1))

  abbrev at_free : ℕ → ℤ
  at_free = cut t j k c here

  here-x : (v : ℕ) → t.level ≤ v → v ≤ last_of t → here v ≡ part v k (pos 1)
  here-x v l u =
      let least = positive t j k c in
      let top = most t j k c in
      let low : t.level ≤ j = c.low in
      let between : j < k = c.between in
      point_of-x (single (last_of t) k (pos 1)) (single (last_of t) j (pos 1)) v (omega arith)
      ∙ entry-single (last_of t) k (pos 1) v (omega arith) c.high (omega arith)

  here-y : (v : ℕ) → 64 ≤ v → t.level ≤ v - 64 → here v ≡ part (v - 64) j (pos 1)
  here-y v y l =
      let least = positive t j k c in
      let low : t.level ≤ j = c.low in
      let between : j < k = c.between in
      let high : k ≤ last_of t = c.high in
      point_of-y (single (last_of t) k (pos 1)) (single (last_of t) j (pos 1)) v y
      ∙ entry-single (last_of t) j (pos 1) (v - 64) (omega arith) (omega arith) (omega arith)

  here-cut : (v : ℕ) → is_lower t.level (last_of t + 1) v ≡ true → here v ≡ at_free v
  here-cut v l =
      let top = most t j k c in
      let between : j < k = c.between in
      let high : k ≤ last_of t = c.high in
      elim (cases_lt v 64) [
        | inl x ↦
            (let b = is_lower-bounds_x t.level (last_of t + 1) v (omega arith) x l in
            elim (eqb_tells v k) [
              | inl same ↦
                  subst (λ (w : ℕ). here w ≡ at_free w) (sym same.1) (sym (cut-x t j k c here))
              | inr other ↦
                  here-x v b.0 (omega (arith, b.1)) ∙ part_other v k (pos 1) other.1
                  ∙ sym (cut-other t j k c here v other.1 (λ f. omega arith))
            ])
        | inr y ↦
            (let b = is_lower-bounds_y t.level (last_of t + 1) v (omega arith) y l in
            elim (eqb_tells v (y_of j)) [
              | inl same ↦
                  subst (λ (w : ℕ). here w ≡ at_free w) (sym same.1) (sym (cut-y t j k c here))
              | inr other ↦
                  here-y v y b.0
                  ∙ part_other (v - 64) j (pos 1) (λ f. other.1 (omega arith))
                  ∙ sym (cut-other t j k c here v (λ f. omega arith) other.1)
            ])
      ]

  magnitude-here : (m : ℕ) → t.level ≤ m → m ≤ last_of t
      → magnitude_of here (poly_at t m) ≡ magnitude_of at_free (poly_at t m)
  magnitude-here m l u =
      magnitude-agree here at_free (poly_at t m)
      (All-weaker (λ (w : Term). AreLower t.level (last_of t + 1) w.monomial)
      (λ (w : Term). Agree here at_free w.monomial)
      (λ w f. All-weaker (λ (q : Part). IsTrue (is_lower t.level (last_of t + 1) q.var))
      (λ (q : Part). here q.var ≡ at_free q.var) (λ q d. here-cut q.var d) w.monomial f)
      (poly_at t m) (poly_lower t m c.tabled l u))

  form : (m : ℕ) → t.level ≤ m → m ≤ last_of t → IsPolynomial (poly_at t m)
  form m l u = let some : 0 < length t.polys = c.tabled.nonempty in
      c.tabled.forms (m - t.level) (omega arith)

  magnitude-as : (m : ℕ) (q : List Term) → t.level ≤ m → m ≤ last_of t → IsPolynomial q
      → ((a : ℕ → ℤ) → value_of (cut t j k c a) (poly_at t m) ≡ value_of a q)
      → magnitude_of here (poly_at t m) ≡ magnitude_of here q
  magnitude-as m q l u h same =
      magnitude-here m l u ∙ magnitude-masked (is_free j k) (poly_at t m) q (form m l u) h same here

  magnitude-k : magnitude_of here (poly_at t k) ≡ 1
  magnitude-k =
      let least = positive t j k c in
      let top = most t j k c in
      let low : t.level ≤ j = c.low in
      let between : j < k = c.between in
      magnitude-as k (var_terms k) (omega arith) c.high
      (polynomial-var k (x_variable k (omega arith) (omega (arith, c.high))) (omega arith))
      (value-k t j k c)
      ∙ magnitude-var here k
      ∙ ap unsigned_abs (here-x k (omega arith) c.high ∙ part_same k k (pos 1) (omega arith))

  magnitude-j : magnitude_of here (poly_at t j) ≡ 1
  magnitude-j =
      let least = positive t j k c in
      let top = most t j k c in
      let low : t.level ≤ j = c.low in
      let between : j < k = c.between in
      let high : k ≤ last_of t = c.high in
      magnitude-as j (var_terms (y_of j)) low (omega arith)
      (polynomial-var (y_of j) (y_variable j (omega arith) (omega arith)) (omega arith))
      (value-j t j k c)
      ∙ magnitude-var here (y_of j)
      ∙ ap unsigned_abs (here-y (y_of j) (omega arith) (omega arith)
      ∙ part_same (y_of j - 64) j (pos 1) (omega arith))

  magnitude-other : (m : ℕ) → t.level ≤ m → m ≤ last_of t → m ≢ j → m ≢ k
      → magnitude_of here (poly_at t m) ≡ 0
  unfolding IsPolynomial magnitude_of
  magnitude-other m l u first second =
      magnitude-as m [] l u tt (λ a. value-other t j k c a m l u first second)

  magnitude-most : (m : ℕ) → t.level ≤ m → m ≤ last_of t → magnitude_of here (poly_at t m) ≤ 1
  magnitude-most m l u =
      elim (eqb_tells m k) [
        | inl same ↦
            subst (λ (i : ℕ). magnitude_of here (poly_at t i) ≤ 1) (sym same.1)
            (omega (arith, magnitude-k))
        | inr second ↦ (elim (eqb_tells m j) [
          | inl same ↦
              subst (λ (i : ℕ). magnitude_of here (poly_at t i) ≤ 1) (sym same.1)
              (omega (arith, magnitude-j))
          | inr first ↦ omega (arith, magnitude-other m l u first.1 second.1)
        ])
      ]

  sums : first_from t.level (generators t)
      (sum_at_overflows t (single (last_of t) k (pos 1)) (single (last_of t) j (pos 1))) ≡ None
  sums =
      let some : 0 < length t.polys = c.tabled.nonempty in
      first_none (sum_at_overflows t (single (last_of t) k (pos 1)) (single (last_of t) j (pos 1)))
      t.level (generators t)
      (λ m a b. lt-leb (2 ^ 127) (magnitude_of here (poly_at t m))
      (omega (arith, magnitude-most m a (omega arith))))

  -- ---- the outcome
  pub multiplied-turned : multiplied t (single (last_of t) k (pos 1)) (single (last_of t) j (pos 1))
      ≡ Ok (values t (single (last_of t) k (pos 1)) (single (last_of t) j (pos 1)))
  multiplied-turned =
      let least = positive t j k c in
      let low : t.level ≤ j = c.low in
      let between : j < k = c.between in
      let high : k ≤ last_of t = c.high in
      let x = single (last_of t) k (pos 1) in
      let y = single (last_of t) j (pos 1) in
      let sum : Outcome = named Sum (first_from t.level (generators t) (sum_at_overflows t x y))
      (Ok (values t x y)) in
      ap (λ i. named RowX i (named RowY (first_from t.level (generators t) (y_overflows t y)) sum))
      (rows-x t (last_of t) k least (omega arith) high)
      ∙ ap (λ i. named RowY i sum) (rows-y t (last_of t) j least (omega arith) (omega arith))
      ∙ ap (λ i. named Sum i (Ok (values t x y))) sums
