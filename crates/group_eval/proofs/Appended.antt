-- The product with a power of a generator by the written order, where the left vector is 0 above it:
-- the rows of the left vector, the row of the exponent, and the sum at the generator.
--   c presentation with its table · t table · g k generators · e exponent · x vector
--   n places of a row · p test of numbers · r what follows
use Rattle.std.proofs.Common.{◌≡◌, ◌≢◌, ℕ, zero, suc, ◌+◌, ◌-◌, ◌^◌, ◌<◌, ◌≤◌, Bool, true, false, cond, List, length, refl, sym, ap, ◌∙◌, subst, arith, inl, inr}
use Rattle.std.specs.Prelude.{Option, Some, None, Ok, ◌||◌, unsigned_abs}
use Rattle.std.proofs.lemmas.Bool.{cases_Bool, lt-leb}
use Rattle.std.proofs.lemmas.Bool.Decides.{eqb_tells}
use lib.IntN.{ℤ, pos, ◌-ℤ◌, ◌*ℤ◌, zero-*ℤ, *ℤ-zero}
use Rattle.integer.specs.Binomial.{choose}
use Rattle.integer.proofs.Binomial.{choose_past}
use Rattle.nil_num.specs.Bound.{overflows, IsNumber}
use Rattle.nil_num.specs.First.{first_from}
use Rattle.nil_num.specs.Row.{written_product}
use Rattle.nil_word.specs.Words.{IsVector}
use Rattle.nil_word.specs.Exponents.{entry}
use Rattle.nil_pres.specs.Relations.{relations_of}
use Rattle.hall_law.specs.Table.{added, single, IsPresentation, IsZeroAbove}
use Rattle.binom_poly.specs.Variable.{y_of}
use Rattle.hall_table.specs.declared.wide_at.WideAt.{WideAt}
use Rattle.hall_table.specs.declared.wide_at.WideAt.TheVariants.{RowX, RowY, Sum}
use Rattle.hall_table.specs.Multiplies.{Paired, IsChecked}
use Rattle.hall_table.specs.Tabled.{Tabled, IsTabled, last_of}
use Rattle.hall_table.specs.Values.{values}
use Rattle.hall_table.specs.Width.{width_for}
use Rattle.hall_table.specs.Order.{overflows_below, row_overflows, generators, named, x_overflows, y_overflows, sum_at_overflows, multiplied}
use Rattle.hall_table.proofs.Orders.{first_found, first_none}
use Rattle.group_eval.specs.Right.{AreSmall}
use Rattle.group_eval.specs.Order.{Outcome, unless}
use Rattle.group_eval.specs.Syllables.{appended, AppendedIs}
use Rattle.group_eval.proofs.Appending.{product-single}
use Rattle.group_eval.proofs.CutPoints.{AddsAt, entry-other, entry-own}
use Rattle.group_eval.proofs.LastSyllables.{magnitude-own, magnitude-other}

-- ---- the row of 0
written_product-zero : (k : ℕ) → written_product (pos 0) k ≡ pos 0
written_product-zero zero = *ℤ-zero (choose (pos 0) 0)
written_product-zero (suc k) =
    ap (λ z. z *ℤ (pos 0 -ℤ pos (suc k))) (choose_past 0 (suc k) (omega arith))
    ∙ zero-*ℤ (pos 0 -ℤ pos (suc k))

overflows_below-zero : (n : ℕ) → overflows_below (pos 0) n ≡ false
overflows_below-zero zero = refl
overflows_below-zero (suc n) =
    ap (λ z. overflows (unsigned_abs z) || overflows_below (pos 0) n) (written_product-zero n)
    ∙ overflows_below-zero n

row_overflows-zero : (n : ℕ) → row_overflows (pos 0) n ≡ false
row_overflows-zero zero = refl
row_overflows-zero (suc n) = overflows_below-zero n

-- ---- one number alone that may have the property
only : ℕ → Bool → Option ℕ
only g b = cond b (Some g) None

first_from-only : (p : ℕ → Bool) (low d g : ℕ) → low ≤ g → g < low + d
    → ((k : ℕ) → low ≤ k → k < low + d → k ≢ g → p k ≡ false) → first_from low d p ≡ only g (p g)
unfolding only
first_from-only p low d g from to others =
    elim (cases_Bool (p g)) [
      | inl holds ↦
          first_found p low d g from to (λ k a b. others k a (omega arith) (λ f. omega arith)) holds
          ∙ sym (ap (only g) holds)
      | inr fails ↦
          first_none p low d (λ k a b. elim (eqb_tells k g) [
            | inl same ↦ ap p same.1 ∙ fails
            | inr other ↦ others k a b other.1
          ])
          ∙ sym (ap (only g) fails)
    ]

named-only : (place : ℕ → WideAt) (g : ℕ) (b : Bool) (r : Outcome)
    → named place (only g b) r ≡ unless b (place g) r
unfolding only
named-only place g true r = refl
named-only place g false r = refl

-- ---- what is asked of the syllable
pub record Appends (t : Tabled) (g : ℕ) (x : List ℤ) : Type 0 where
  pub adds : AddsAt t g
  pub vector : IsVector (last_of t) t.level x
  pub small : AreSmall x
  pub above : IsZeroAbove g x

module _ (t : Tabled) (g : ℕ) (e : ℤ) (x : List ℤ) (s : Appends t g x) where
  abbrev y : List ℤ
  y = single (last_of t) g e

  top : g < t.level + generators t
  top = let some : 0 < length t.polys = s.adds.tabled.nonempty in omega (arith, s.adds.high)

  -- ---- rows
  row_own : y_overflows t y g ≡ row_overflows e (width_for t (y_of g))
  row_own =
      ap (λ z. row_overflows z (width_for t (y_of g)))
      (entry-own t g s.adds e)

  row_other : (k : ℕ) → t.level ≤ k → k ≢ g → y_overflows t y k ≡ false
  row_other k l other =
      let least : 1 ≤ t.level = s.adds.tabled.least in
      ap (λ z. row_overflows z (width_for t (y_of k)))
      (entry-other t g s.adds e k (omega arith) other)
      ∙ row_overflows-zero (width_for t (y_of k))

  first_row : first_from t.level (generators t) (y_overflows t y)
      ≡ only g (row_overflows e (width_for t (y_of g)))
  first_row =
      first_from-only (y_overflows t y) t.level (generators t) g s.adds.low top
      (λ k a b other. row_other k a other)
      ∙ ap (only g) row_own

  -- ---- sums
  sum_own : sum_at_overflows t x y g ≡ overflows (unsigned_abs (entry x g) + unsigned_abs e)
  sum_own =
      ap (λ n. overflows n) (magnitude-own t g s.adds x e s.above)

  entry_small : (k : ℕ) → 1 ≤ k → k ≤ last_of t → IsNumber (entry x k)
  entry_small k l u =
      s.small (k - 1) (pos 0) (omega (arith, s.vector.entries))

  sum_other : (k : ℕ) → t.level ≤ k → k ≤ last_of t → k ≢ g → sum_at_overflows t x y k ≡ false
  sum_other k l u other =
      let least : 1 ≤ t.level = s.adds.tabled.least in
      ap (λ n. overflows n)
      (magnitude-other t g s.adds x e s.above k l u other)
      ∙ lt-leb (2 ^ 127) (unsigned_abs (entry x k)) (entry_small k (omega arith) u)

  first_sum : first_from t.level (generators t) (sum_at_overflows t x y)
      ≡ only g (overflows (unsigned_abs (entry x g) + unsigned_abs e))
  first_sum =
      first_from-only (sum_at_overflows t x y) t.level (generators t) g s.adds.low top
      (λ k a b other. sum_other k a (omega arith) other)
      ∙ ap (only g) sum_own

  -- ---- the outcome
  abbrev after_x : Outcome → Outcome
  after_x r = named RowX (first_from t.level (generators t) (x_overflows t x)) r

  multiplied-single : multiplied t x y ≡ appended t x g e
  multiplied-single =
      let wide = overflows (unsigned_abs (entry x g) + unsigned_abs e) in
      let row = row_overflows e (width_for t (y_of g)) in
      let sum : Outcome = named Sum (first_from t.level (generators t) (sum_at_overflows t x y))
      (Ok (values t x y)) in
      ap (λ i. after_x (named RowY i sum)) first_row
      ∙ ap after_x (named-only RowY g row sum)
      ∙ ap (λ i. after_x (unless row (RowY g) (named Sum i (Ok (values t x y))))) first_sum
      ∙ ap (λ r. after_x (unless row (RowY g) r)) (named-only Sum g wide (Ok (values t x y)))
      ∙ ap (λ v. after_x (unless row (RowY g) (unless wide (Sum g) (Ok v))))
      (s.adds.adds e x s.vector s.above)

pub appended_is : (c : Paired) → IsTabled c.table → IsPresentation (relations_of c.pres) → IsChecked c
    → AppendedIs c
appended_is c tabled presents checked x g e written above syllable =
    let t = c.table in
    multiplied-single t g e x record {
      adds = record {
        tabled = tabled;
        low = syllable.least;
        high = omega (arith, syllable.most, checked.last);
        adds = λ d z h zero.
            subst (λ (m : ℕ). values t z (single m g d) ≡ added z g d) (sym checked.last)
            (product-single (relations_of c.pres) t.level (values t) presents checked.multiplies g d z
            syllable.least syllable.most (subst (λ (m : ℕ). IsVector m t.level z) checked.last h) zero);
      };
      vector = subst (λ (m : ℕ). IsVector m t.level x) (sym checked.last) written.vector;
      small = written.small;
      above = above;
    }
