-- What the loop of a solution keeps.
--   t table · a b x vectors · rows rows with the entries of a and x · k j generators
--   e the difference at k, which is put there · y the entry of b at k · at place
use Rattle.std.proofs.Common.{◌≡◌, ℕ, suc, ◌+◌, ◌-◌, ◌^◌, ◌<◌, ◌≤◌, Bool, true, false, cond, List, length, refl, sym, ap, ◌∙◌, subst, arith, inl, inr}
use Rattle.std.specs.Prelude.{unsigned_abs, Option, None, Err, ◌||◌}
use Rattle.std.proofs.lemmas.Bool.{cases_eq, lt-leb}
use Rattle.std.proofs.Math.ListN.{length-set}
use lib.IntN.{ℤ, ◌-ℤ◌}
use Rattle.nil_num.specs.Bound.{Fits, overflows, IsNumber}
use Rattle.nil_word.specs.Exponents.{entry}
use Rattle.hall_law.specs.Table.{zeros}
use Rattle.hall_law.specs.Plan.{put}
use Rattle.hall_law.proofs.Pairs.{entry-put_same, entry-put_other}
use Rattle.binom_poly.specs.Polynomial.{value_of}
use Rattle.binom_poly.specs.Reading.{Reading}
use Rattle.binom_poly.specs.Readings.{value_at, width_at, with_value}
use Rattle.hall_table.specs.declared.wide_at.WideAt.{WideAt}
use Rattle.hall_table.specs.declared.wide_at.WideAt.TheVariants.{RowX, RowY, Sum}
use Rattle.binom_poly.specs.Variable.{y_of}
use Rattle.hall_table.specs.Tabled.{Tabled, IsTabled, last_of, poly_at}
use Rattle.hall_table.specs.Width.{width_for, HasRows}
use Rattle.hall_table.specs.Order.{generators, named, row_overflows, sum_overflows, sum_at_overflows}
use Rattle.hall_table.proofs.Multiplied.{Hold}
use Rattle.hall_table.proofs.Putting.{HasRows-with_value, value-same, value-other}
use Rattle.group_eval.specs.Order.{Outcome, unless, is_wide, left_overflow, difference, difference_overflows, solved_from, solved}
use Rattle.group_eval.proofs.Holding.{difference-rows, sum_overflows-rows}

abbrev pub begun_from : Tabled → List ℤ → List ℤ → Outcome
begun_from t a b = solved_from t a b (zeros (last_of t)) t.level (generators t)

pub record SolvedSoFar (t : Tabled) (a b x : List ℤ) (rows : List Reading) (k : ℕ) : Type 0 where
  pub size : length x ≡ last_of t
  pub placed : HasRows t rows
  pub holds : Hold t a x rows
  pub rest : begun_from t a b ≡ solved_from t a b x k (last_of t + 1 - k)

-- ---- one step of the written order
unless_none : (p q s : Bool) (f g i : WideAt) (r : Outcome) → p ≡ false → q ≡ false → s ≡ false
    → unless p f (unless q g (unless s i r)) ≡ r
unless_none p q s f g i r a b c = cc

unless_either : (p q s : Bool) (at i : WideAt) (r : Outcome) → (p || q) ≡ true
    → unless p at (unless q at (unless s i r)) ≡ Err at
unless_either true q s at i r h = refl
unless_either false q s at i r h = ap (λ (c : Bool). cond c (Err at) (unless s i r)) h

unless_third : (p q s : Bool) (f at : WideAt) (r : Outcome) → p ≡ false → q ≡ false → s ≡ true
    → unless p f (unless q f (unless s at r)) ≡ Err at
unless_third p q s f at r a b c = cc

abbrev row_at_overflows : Tabled → List ℤ → List ℤ → List ℤ → ℕ → Bool
row_at_overflows t a b x k = row_overflows (difference t a b x k) (width_for t (y_of k))

abbrev after : Tabled → List ℤ → List ℤ → List ℤ → ℕ → Outcome
after t a b x k = solved_from t a b (put x k (difference t a b x k)) (suc k) (last_of t - k)

unrolled : (t : Tabled) (a b x : List ℤ) (k : ℕ) → k ≤ last_of t
    → solved_from t a b x k (last_of t + 1 - k)
    ≡ unless (sum_at_overflows t a x k) (Sum k)
    (unless (is_wide (difference t a b x k)) (Sum k)
    (unless (row_at_overflows t a b x k) (RowY k) (after t a b x k)))
unrolled t a b x k h =
    let e : last_of t + 1 - k ≡ suc (last_of t - k) = omega arith in ap (solved_from t a b x k) e

-- the rows of all x fit
abbrev pub FitsLeft : Tabled → List ℤ → Type 0
FitsLeft t a = left_overflow t a ≡ None

begun : (t : Tabled) (a b : List ℤ) → FitsLeft t a → solved t a b ≡ begun_from t a b
begun t a b h = ap (λ (f : Option ℕ). named RowX f (begun_from t a b)) h

-- the sum or the difference overflows
pub difference_named : {t : Tabled} {a b x : List ℤ} {rows : List Reading} {k : ℕ}
    → SolvedSoFar t a b x rows k → IsTabled t → t.level ≤ k → k ≤ last_of t → FitsLeft t a
    → (at : WideAt) (y : ℤ) → at ≡ Sum k → y ≡ entry b k
    → difference_overflows (value_at rows) y (poly_at t k) ≡ true
    → solved t a b ≡ Err at
difference_named {t} {a} {b} {x} {rows} {k} s h low high f at y g e p =
    let v = value_of (value_at rows) (poly_at t k) in
    begun t a b f ∙ s.rest ∙ unrolled t a b x k high
    ∙ unless_either (sum_at_overflows t a x k) (is_wide (difference t a b x k))
    (row_at_overflows t a b x k) (Sum k) (RowY k) (after t a b x k)
    (ap (λ (c : Bool). c || is_wide (difference t a b x k))
    (sym (sum_overflows-rows t a x rows k h s.holds low high))
    ∙ ap (λ z. sum_overflows (value_at rows) (poly_at t k) || is_wide z)
    (sym (ap (λ z. z -ℤ v) e ∙ difference-rows t a b x rows k h s.holds low high))
    ∙ p)
    ∙ ap (λ w. Err w) (sym g)

-- ---- the sum and the difference fit
pub record IsNext (t : Tabled) (a b x : List ℤ) (k : ℕ) (e : ℤ) : Type 0 where
  pub is : e ≡ difference t a b x k
  pub fits : sum_at_overflows t a x k ≡ false
  pub narrow : is_wide (difference t a b x k) ≡ false

not_wide : (n : ℕ) → Fits n → overflows n ≡ false
not_wide n h = lt-leb (2 ^ 127) n h

pub is_next : {t : Tabled} {a b x : List ℤ} {rows : List Reading} {k : ℕ}
    → SolvedSoFar t a b x rows k → IsTabled t → t.level ≤ k → k ≤ last_of t
    → (y d e : ℤ) → y ≡ entry b k → sum_overflows (value_at rows) (poly_at t k) ≡ false
    → d ≡ y -ℤ value_of (value_at rows) (poly_at t k) → IsNumber d → e ≡ d
    → IsNext t a b x k e
is_next {t} {a} {b} {x} {rows} {k} s h low high y d e f p g w i =
    let is : d ≡ difference t a b x k =
    g ∙ ap (λ z. z -ℤ value_of (value_at rows) (poly_at t k)) f
    ∙ difference-rows t a b x rows k h s.holds low high in
    record {
      is = i ∙ is;
      fits = sym (sum_overflows-rows t a x rows k h s.holds low high) ∙ p;
      narrow =
          not_wide (unsigned_abs (difference t a b x k))
          (subst IsNumber is w);
    }

pub row_named : {t : Tabled} {a b x : List ℤ} {rows : List Reading} {k : ℕ} {e : ℤ}
    → SolvedSoFar t a b x rows k → IsNext t a b x k e → k ≤ last_of t → FitsLeft t a
    → (at : WideAt) → at ≡ RowY k → row_overflows e (width_for t (y_of k)) ≡ true
    → solved t a b ≡ Err at
row_named {t} {a} {b} {x} {rows} {k} {e} s n high f at g p =
    begun t a b f ∙ s.rest ∙ unrolled t a b x k high
    ∙ unless_third (sum_at_overflows t a x k) (is_wide (difference t a b x k))
    (row_at_overflows t a b x k) (Sum k) (RowY k) (after t a b x k) n.fits n.narrow
    (ap (λ z. row_overflows z (width_for t (y_of k))) (sym n.is) ∙ p)
    ∙ ap (λ w. Err w) (sym g)

-- ---- the next entry is put
holds_more : (t : Tabled) (a x new : List ℤ) (rows later : List Reading) (k : ℕ) (e : ℤ)
    → IsTabled t → t.level ≤ k → k ≤ last_of t → length x ≡ last_of t → 0 < width_at rows (y_of k)
    → Hold t a x rows → new ≡ put x k e → later ≡ with_value rows (y_of k) e → Hold t a new later
holds_more t a x new rows later k e h low high size w r f g =
    let least : 1 ≤ t.level = h.least in
    let most : t.level + length t.polys ≤ 49 = h.most in
    record {
      x = λ j l m.
          value-other rows later (y_of k) j e
          (λ i. absurd (let same : j ≡ 64 + k = i in omega arith)) g ∙ r.x j l m;
      y = λ j l m. (elim (cases_eq j k) [
        | inl i ↦
            subst (λ (n : ℕ). value_at later (y_of n) ≡ entry new n) (sym i)
            (value-same rows later (y_of k) e w g
            ∙ sym (ap (λ v. entry v k) f ∙ entry-put_same x k e (omega arith) (omega arith)))
        | inr i ↦
            value-other rows later (y_of k) (y_of j) e
            (λ q. i (let same : 64 + j ≡ 64 + k = q in omega arith)) g
            ∙ r.y j l m
            ∙ sym (ap (λ v. entry v j) f ∙ entry-put_other x k j e (omega arith) (omega arith) i)
      ]);
    }

pub solved_more : {t : Tabled} {a b x : List ℤ} {rows : List Reading} {k : ℕ} {e : ℤ}
    → SolvedSoFar t a b x rows k → IsNext t a b x k e → IsTabled t → t.level ≤ k → k ≤ last_of t
    → 0 < width_at rows (y_of k) → row_overflows e (width_for t (y_of k)) ≡ false
    → (new : List ℤ) (later : List Reading) → new ≡ put x k e → later ≡ with_value rows (y_of k) e
    → SolvedSoFar t a b new later (k + 1)
solved_more {t} {a} {b} {x} {rows} {k} {e} s n h low high w p new later f g =
    let done : last_of t - k ≡ last_of t + 1 - (k + 1) = omega arith in
    let next : suc k ≡ k + 1 = omega arith in
    record {
      size = ap length f ∙ length-set x (k - 1) e ∙ s.size;
      placed = HasRows-with_value t rows later (y_of k) e w g s.placed;
      holds = holds_more t a x new rows later k e h low high s.size w s.holds f g;
      rest =
          s.rest ∙ unrolled t a b x k high
          ∙ unless_none (sum_at_overflows t a x k) (is_wide (difference t a b x k))
          (row_at_overflows t a b x k) (Sum k) (Sum k) (RowY k) (after t a b x k) n.fits n.narrow
          (ap (λ z. row_overflows z (width_for t (y_of k))) (sym n.is) ∙ p)
          ∙ ap (λ z. solved_from t a b (put x k z) (suc k) (last_of t - k)) (sym n.is)
          ∙ ap (λ v. solved_from t a b v (suc k) (last_of t - k)) (sym f)
          ∙ ap (λ (m : ℕ). solved_from t a b new m (last_of t - k)) next
          ∙ ap (solved_from t a b new (k + 1)) done;
    }
