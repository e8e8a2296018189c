-- What the written order gives of a syllable behind all entries, from the sum that the code makes.
--   t table · x vector · g generator · e exponent, and z as the code has it · w the entry that is read
use Rattle.std.proofs.Common.{◌≡◌, ℕ, ◌+◌, ◌-◌, ◌^◌, ◌≤◌, Bool, true, false, leb, List, set, sym, ap, ◌∙◌, subst, inl, inr}
use Rattle.std.specs.Prelude.{None, Ok, Err, unsigned_abs}
use Rattle.std.proofs.lemmas.Bool.{le-leb}
use Rattle.std.proofs.lemmas.Bool.Decides.{leb_tells}
use lib.IntN.{ℤ, ◌+ℤ◌}
use Rattle.nil_num.specs.Bound.{overflows, Overflows}
use Rattle.nil_num.specs.First.{first_from}
use Rattle.nil_word.specs.Exponents.{entry}
use Rattle.hall_law.specs.Table.{added}
use Rattle.binom_poly.specs.Variable.{y_of}
use Rattle.hall_table.specs.declared.wide_at.WideAt.TheVariants.{RowX, RowY, Sum}
use Rattle.hall_table.specs.Tabled.{Tabled}
use Rattle.hall_table.specs.Width.{width_for}
use Rattle.hall_table.specs.Order.{row_overflows, generators, named, x_overflows}
use Rattle.group_eval.specs.Order.{Outcome, unless}
use Rattle.group_eval.specs.Syllables.{appended}

no_leb : (a b : ℕ) → (a ≤ b → ⊥) → leb a b ≡ false
no_leb a b h =
    elim (leb_tells a b) [ inl less ↦ absurd (h less.1) | inr more ↦ more.0 ]

-- the rows fit
pub record Fit (t : Tabled) (x : List ℤ) (g : ℕ) (w z e : ℤ) : Type 0 where
  pub rows : first_from t.level (generators t) (x_overflows t x) ≡ None
  pub row : row_overflows z (width_for t (y_of g)) ≡ false
  pub entry_is : w ≡ entry x g
  pub exponent : z ≡ e

module _ {t : Tabled} {x : List ℤ} {g : ℕ} {w z e : ℤ} (f : Fit t x g w z e) where
  same_sum : unsigned_abs w + unsigned_abs z ≡ unsigned_abs (entry x g) + unsigned_abs e
  same_sum =
      ap (λ y. unsigned_abs y + unsigned_abs z) f.entry_is
      ∙ ap (λ y. unsigned_abs (entry x g) + unsigned_abs y) f.exponent

  appended-fits : (b : Bool) → overflows (unsigned_abs (entry x g) + unsigned_abs e) ≡ b
      → appended t x g e ≡ unless b (Sum g) (Ok (added x g e))
  appended-fits b h =
      let row : row_overflows e (width_for t (y_of g)) ≡ false =
      ap (λ y. row_overflows y (width_for t (y_of g))) (sym f.exponent) ∙ f.row in
      let sum : Outcome = unless (overflows (unsigned_abs (entry x g) + unsigned_abs e)) (Sum g)
      (Ok (added x g e)) in
      ap (λ i. named RowX i (unless (row_overflows e (width_for t (y_of g))) (RowY g) sum)) f.rows
      ∙ ap (λ i. unless i (RowY g) sum) row
      ∙ ap (λ i. unless i (Sum g) (Ok (added x g e))) h

  pub appended-wide : Overflows (unsigned_abs w + unsigned_abs z) → appended t x g e ≡ Err (Sum g)
  appended-wide h =
      appended-fits true
      (le-leb (2 ^ 127) (unsigned_abs (entry x g) + unsigned_abs e) (subst Overflows same_sum h))

  pub appended-made : (sum : ℤ) (new : List ℤ) → (Overflows (unsigned_abs w + unsigned_abs z) → ⊥)
      → sum ≡ w +ℤ z → new ≡ set x (g - 1) sum → appended t x g e ≡ Ok new
  appended-made sum new small is made =
      appended-fits false
      (no_leb (2 ^ 127) (unsigned_abs (entry x g) + unsigned_abs e)
      (λ h. small (subst Overflows (sym same_sum) h)))
      ∙ ap (λ v. Ok v)
      (sym (made
      ∙ ap (set x (g - 1))
      (is ∙ ap (λ y. y +ℤ z) f.entry_is ∙ ap (λ y. entry x g +ℤ y) f.exponent)))
