-- The written order as the loops follow it.
--   low d numbers · p test · x number · n width
use Rattle.std.proofs.Common.{◌≡◌, ℕ, zero, suc, ◌+◌, ◌<◌, ◌≤◌, Bool, true, false, cond, refl, sym, ap, ◌∙◌, subst, arith, ◌⊎◌, inl, inr}
use Rattle.std.specs.Prelude.{unsigned_abs, Some, None, ◌||◌}
use Rattle.std.proofs.lemmas.Bool.{cases_Bool, false≢true, le-leb, leb-true}
use Rattle.std.proofs.lemmas.Bool.Decides.{nat_tests}
use lib.IntN.{ℤ}
use Rattle.nil_num.specs.Row.{written_product, RowOverflows}
use Rattle.nil_num.specs.Bound.{Overflows, overflows}
use Rattle.nil_num.specs.First.{first_from}
use Rattle.hall_table.specs.Order.{overflows_below, row_overflows}

-- ---- the first number with a property
none_before : (p : ℕ → Bool) (low d k : ℕ) → k ≤ low → low < k + d → ((j : ℕ) → k ≤ j → j < low → p j ≡ false)
    → p low ≡ true → first_from k d p ≡ Some low
none_before p low zero k a b h e = absurd (omega arith)
none_before p low (suc d) k a b h e =
    elim (cases_Bool (p k)) [
      | inl y ↦
          ap (λ (c : Bool). cond c (Some k) (first_from (suc k) d p)) y ∙ ap (λ (n : ℕ). Some n) (here (eq_or_less k low a) y)
      | inr n ↦
          ap (λ (c : Bool). cond c (Some k) (first_from (suc k) d p)) n
          ∙ none_before p low d (suc k) (above n) (omega arith) (λ j l m. h j (omega arith) m) e
    ]
  where
    eq_or_less : (i j : ℕ) → i ≤ j → (i ≡ j) ⊎ (i < j)
    eq_or_less i j l = grind (arith, nat_tests)

    here : (k ≡ low) ⊎ (k < low) → p k ≡ true → k ≡ low
    here (inl q) y = q
    here (inr l) y = absurd (false≢true (sym (h k (omega arith) l) ∙ y))

    above : p k ≡ false → suc k ≤ low
    above n = elim (eq_or_less k low a) [
      | inl q ↦ absurd (false≢true (sym n ∙ ap p q ∙ e))
      | inr l ↦ omega arith
    ]

pub first_found : (p : ℕ → Bool) (low d k : ℕ) → low ≤ k → k < low + d → ((j : ℕ) → low ≤ j → j < k → p j ≡ false)
    → p k ≡ true → first_from low d p ≡ Some k
first_found p low d k a b h e = none_before p k d low a b h e

pub first_none : (p : ℕ → Bool) (low d : ℕ) → ((j : ℕ) → low ≤ j → j < low + d → p j ≡ false) → first_from low d p ≡ None
first_none p low zero h = refl
first_none p low (suc d) h =
    ap (λ (c : Bool). cond c (Some low) (first_from (suc low) d p)) (h low (omega arith) (omega arith))
    ∙ first_none p (suc low) d (λ j l m. h j (omega arith) (omega arith))

-- ---- rows
below_of : (x : ℤ) (n : ℕ) → overflows_below x n ≡ true → (k : ℕ) × (k < n) × Overflows (unsigned_abs (written_product x k))
below_of x zero h = absurd (false≢true h)
below_of x (suc n) h =
    elim (cases_Bool (overflows (unsigned_abs (written_product x n)))) [
      | inl b ↦ (n, omega arith, leb-true _ (unsigned_abs (written_product x n)) b)
      | inr b ↦
          let (k, l, p) = below_of x n (sym (ap (λ (c : Bool). c || overflows_below x n) b) ∙ h) in
          (k, omega arith, p)
    ]

of_below : (x : ℤ) (n k : ℕ) → k < n → Overflows (unsigned_abs (written_product x k)) → overflows_below x n ≡ true
of_below x zero k l h = absurd (omega arith)
of_below x (suc n) k l h =
    elim (same_or_less k n (omega arith)) [
      | inl e ↦
          ap (λ (c : Bool). c || overflows_below x n)
          (le-leb _ (unsigned_abs (written_product x n)) (subst (λ (j : ℕ). Overflows (unsigned_abs (written_product x j))) e h))
      | inr m ↦ or_true (overflows (unsigned_abs (written_product x n))) (overflows_below x n) (of_below x n k m h)
    ]
  where
    same_or_less : (i j : ℕ) → i ≤ j → (i ≡ j) ⊎ (i < j)
    same_or_less i j l = grind (arith, nat_tests)

    or_true : (a b : Bool) → b ≡ true → (a || b) ≡ true
    or_true true b e = refl
    or_true false b e = e

pub row_overflows-of : (x : ℤ) (n : ℕ) → RowOverflows x n → row_overflows x n ≡ true
row_overflows-of x zero (k, l, h) = absurd (omega arith)
row_overflows-of x (suc n) (k, l, h) = of_below x n k (omega arith) h

pub row_fits-of : (x : ℤ) (n : ℕ) → (RowOverflows x n → ⊥) → row_overflows x n ≡ false
row_fits-of x zero h = refl
row_fits-of x (suc n) h =
    elim (cases_Bool (overflows_below x n)) [
      | inl b ↦ (let (k, l, p) = below_of x n b in absurd (h (k, omega arith, p)))
      | inr b ↦ b
    ]

pub put_fits : (x y : ℤ) (n w : ℕ) → y ≡ x → w ≡ n → (RowOverflows y w → ⊥) → row_overflows x n ≡ false
put_fits x y n w e f h =
    row_fits-of x n (λ p. h (subst (λ z. RowOverflows z w) (sym e) (subst (RowOverflows x) (sym f) p)))

pub put_overflows : (x y : ℤ) (n w : ℕ) → y ≡ x → w ≡ n → RowOverflows y w → row_overflows x n ≡ true
put_overflows x y n w e f h = row_overflows-of x n (subst (RowOverflows x) f (subst (λ z. RowOverflows z w) e h))
