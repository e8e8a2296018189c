-- What the written order of elements gives has an entry for each generator, within 128 bits.
--   t table · a b x v vectors · k generator · e exponent · r s outcomes · low d numbers
--   p test, or pairing
use Rattle.std.proofs.Common.{◌≡◌, ℕ, zero, suc, ◌+◌, ◌-◌, ◌/◌, ◌%◌, ◌^◌, ◌≤◌, ◌<◌, Bool, true, false, cond, ℤ, pos, negsuc, Option, Some, None, Ok, Err, List, length, map, refl, sym, ◌∙◌, ap, subst, ◌⊎◌, inl, inr, ltb, eqb, arith}
use Rattle.std.specs.Prelude.{unsigned_abs}
use Rattle.std.proofs.lemmas.Bool.{cases_Bool, leb-false, ltb-false}
use Rattle.std.proofs.lemmas.List.{length-set, length-replicate}
use Rattle.std.proofs.lemmas.List.Elements.{All-nil, All-cons, All-set, All-replicate}
use Rattle.nil_num.specs.Bound.{IsNumber}
use Rattle.nil_num.specs.First.{first_from}
use Rattle.nil_word.specs.Exponents.{numbers}
use Rattle.binom_poly.specs.Polynomial.{value_of}
use Rattle.hall_law.specs.Table.{zeros, single}
use Rattle.hall_law.specs.Plan.{put}
use Rattle.hall_law.proofs.Entries.{length-map_numbers}
use Rattle.hall_table.specs.declared.wide_at.WideAt.{WideAt}
use Rattle.hall_table.specs.declared.wide_at.WideAt.TheVariants.{RowX, RowY, Sum}
use Rattle.binom_poly.specs.Variable.{y_of}
use Rattle.hall_table.specs.Tabled.{Tabled, last_of, poly_at}
use Rattle.hall_table.specs.Values.{point_of, values}
use Rattle.hall_table.specs.Width.{width_for}
use Rattle.hall_table.specs.Order.{generators, multiplied, named, row_overflows, sum_at_overflows, y_overflows}
use Rattle.hall_table.proofs.Putting.{entry_within}
use Rattle.group_eval.specs.declared.pairing.Pairing.{Pairing}
use Rattle.group_eval.specs.declared.pairing.Pairing.TheVariants.{Solution, Quotient, Conjugate, Commutator}
use Rattle.group_eval.specs.Order.{Outcome, and_then, unless, is_wide, left_overflow, difference, solved_from, solved, inverted, squared_and, powered_in, powered, paired, both}
use Rattle.group_eval.specs.Right.{AreSmall}
use Rattle.group_eval.proofs.Singles.{set-zeros}

pub record IsNarrow (t : Tabled) (v : List ℤ) : Type 0 where
  pub entries : length v ≡ last_of t
  pub small : AreSmall v

abbrev pub Narrow : Tabled → Outcome → Type 0
Narrow t r = (v : List ℤ) → r ≡ Ok v → IsNarrow t v

-- ---- outcomes
pub narrow_ok : (t : Tabled) (a : List ℤ) → IsNarrow t a → Narrow t (Ok a)
narrow_ok t a h v e = let f : a ≡ v = cc in subst (IsNarrow t) f h

narrow_err : (t : Tabled) (at : WideAt) → Narrow t (Err at)
narrow_err t at v e = absurd (cc)

narrow_if : (t : Tabled) (b : Bool) (r s : Outcome) → (b ≡ true → Narrow t r)
    → (b ≡ false → Narrow t s) → Narrow t (cond b r s)
narrow_if t true r s h k = h refl
narrow_if t false r s h k = k refl

pub narrow_then : (t : Tabled) (r : Outcome) (f : List ℤ → Outcome) → Narrow t r
    → ((a : List ℤ) → IsNarrow t a → Narrow t (f a)) → Narrow t (and_then r f)
narrow_then t (Ok a) f h k = k a (h a refl)
narrow_then t (Err at) f h k = narrow_err t at

narrow_unless : (t : Tabled) (b : Bool) (at : WideAt) (r : Outcome) → (b ≡ false → Narrow t r)
    → Narrow t (unless b at r)
narrow_unless t b at r h = narrow_if t b (Err at) r (λ _. narrow_err t at) h

narrow_named : (t : Tabled) (place : ℕ → WideAt) (found : Option ℕ) (r : Outcome)
    → (found ≡ None → Narrow t r) → Narrow t (named place found r)
narrow_named t place (Some k) r h = narrow_err t (place k)
narrow_named t place None r h = h refl

-- ---- vectors
pub IsNarrow-zeros : (t : Tabled) → IsNarrow t (zeros (last_of t))
IsNarrow-zeros t = record {
  entries = length-replicate (last_of t) (pos 0);
  small = All-replicate IsNumber (last_of t) (pos 0) (omega arith);
}

IsNarrow-put : (t : Tabled) (x : List ℤ) (k : ℕ) (e : ℤ) → IsNumber e
    → IsNarrow t x → IsNarrow t (put x k e)
IsNarrow-put t x k e h p = record {
  entries = length-set x (k - 1) e ∙ p.entries;
  small = All-set IsNumber x (k - 1) e h p.small;
}

pub IsNarrow-single : (t : Tabled) (k : ℕ) (e : ℤ) → IsNumber e
    → IsNarrow t (single (last_of t) k e)
IsNarrow-single t k e h =
    subst (IsNarrow t) (set-zeros (last_of t) k e)
    (IsNarrow-put t (zeros (last_of t)) k e h (IsNarrow-zeros t))

all_numbers : (g : ℕ → ℤ) (low d : ℕ) → ((k : ℕ) → low ≤ k → k < low + d → IsNumber (g k))
    → AreSmall (map g (numbers low d))
all_numbers g low zero h = All-nil IsNumber
all_numbers g low (suc d) h =
    All-cons IsNumber (g low) (map g (numbers (suc low) d)) (h low (omega arith) (omega arith))
    (all_numbers g (suc low) d (λ k l m. h k (omega arith) (omega arith)))

none_overflows : (p : ℕ → Bool) (low d : ℕ) → first_from low d p ≡ None → (k : ℕ) → low ≤ k
    → k < low + d → p k ≡ false
none_overflows p low zero h k l m = absurd (omega arith)
none_overflows p low (suc d) h k l m =
    elim (cases_Bool (p low)) [
      | inl y ↦
          let f : Some low ≡ None =
          sym (ap (λ (b : Bool). cond b (Some low) (first_from (suc low) d p)) y) ∙ h in
          absurd (cc)
      | inr n ↦
          let f : first_from (suc low) d p ≡ None =
          sym (ap (λ (b : Bool). cond b (Some low) (first_from (suc low) d p)) n) ∙ h in
          (elim (eq_or_less low k l) [
            | inl e ↦ subst (λ i. p i ≡ false) e n
            | inr s ↦ none_overflows p (suc low) d f k (omega arith) (omega arith)
          ])
    ]
  where
    eq_or_less : (i j : ℕ) → i ≤ j → (i ≡ j) ⊎ (i < j)
    eq_or_less i j l = grind arith

value_small : (t : Tabled) (a b : List ℤ) (k : ℕ) → sum_at_overflows t a b k ≡ false
    → IsNumber (value_of (point_of a b) (poly_at t k))
value_small t a b k h =
    entry_within (point_of a b) (poly_at t k) (value_of (point_of a b) (poly_at t k))
    (value_of (point_of a b) (poly_at t k)) refl refl (leb-false (2 ^ 127) _ h)

values_small : (t : Tabled) (a b : List ℤ)
    → first_from t.level (generators t) (sum_at_overflows t a b) ≡ None → AreSmall (values t a b)
values_small t a b h =
    all_numbers (λ k. cond (ltb k t.level) (pos 0) (value_of (point_of a b) (poly_at t k))) 1
    (last_of t)
    (λ k l m. (elim (cases_Bool (ltb k t.level)) [
      | inl c ↦ subst (λ (i : Bool). IsNumber (cond i (pos 0) (value_of (point_of a b) (poly_at t k))))
          (sym c) (let z : IsNumber (pos 0) = omega arith in z)
      | inr c ↦
          let low : t.level ≤ k = ltb-false k t.level c in
          subst (λ (i : Bool). IsNumber (cond i (pos 0) (value_of (point_of a b) (poly_at t k))))
          (sym c)
          (value_small t a b k
          (none_overflows (sum_at_overflows t a b) t.level (generators t) h k low (omega arith)))
    ]))

values_narrow : (t : Tabled) (a b : List ℤ)
    → first_from t.level (generators t) (sum_at_overflows t a b) ≡ None → IsNarrow t (values t a b)
values_narrow t a b h = record {
  entries = length-map_numbers (last_of t)
      (λ k. cond (ltb k t.level) (pos 0) (value_of (point_of a b) (poly_at t k)));
  small = values_small t a b h;
}

-- ---- elements
pub narrow_multiplied : (t : Tabled) (a b : List ℤ) → Narrow t (multiplied t a b)
narrow_multiplied t a b =
    narrow_named t RowX (left_overflow t a) _
    (λ _. narrow_named t RowY (first_from t.level (generators t) (y_overflows t b)) _
    (λ _. narrow_named t Sum (first_from t.level (generators t) (sum_at_overflows t a b)) _
    (λ h. narrow_ok t (values t a b) (values_narrow t a b h))))

narrow_solved_from : (t : Tabled) (a b : List ℤ) (d : ℕ) (x : List ℤ) (k : ℕ) → IsNarrow t x
    → Narrow t (solved_from t a b x k d)
narrow_solved_from t a b zero x k h = narrow_ok t x h
narrow_solved_from t a b (suc d) x k h =
    let e = difference t a b x k in
    narrow_unless t (sum_at_overflows t a x k) (Sum k) _
    (λ _. narrow_unless t (is_wide e) (Sum k) _
    (λ fits. narrow_unless t (row_overflows e (width_for t (y_of k))) (RowY k) _
    (λ _. narrow_solved_from t a b d (put x k e) (suc k)
    (IsNarrow-put t x k e (leb-false (2 ^ 127) (unsigned_abs e) fits) h))))

pub narrow_solved : (t : Tabled) (a b : List ℤ) → Narrow t (solved t a b)
narrow_solved t a b =
    narrow_named t RowX (left_overflow t a) _
    (λ _. narrow_solved_from t a b (generators t) (zeros (last_of t)) t.level (IsNarrow-zeros t))

narrow_squared : (t : Tabled) (a : List ℤ) (e : ℕ) (h : List ℤ) → Narrow t (squared_and t a e h)
narrow_squared t a e h =
    narrow_then t (multiplied t h h) (λ s. cond (eqb (e % 2) 1) (multiplied t s a) (Ok s))
    (narrow_multiplied t h h)
    (λ s k. narrow_if t (eqb (e % 2) 1) (multiplied t s a) (Ok s) (λ _. narrow_multiplied t s a)
    (λ _. narrow_ok t s k))

narrow_powered_in : (d : ℕ) (t : Tabled) (a : List ℤ) (e : ℕ) → IsNarrow t a
    → Narrow t (powered_in d t a e)
narrow_powered_in zero t a e h = narrow_ok t (zeros (last_of t)) (IsNarrow-zeros t)
narrow_powered_in (suc d) t a e h =
    narrow_if t (eqb e 0) (Ok (zeros (last_of t))) _
    (λ _. narrow_ok t (zeros (last_of t)) (IsNarrow-zeros t))
    (λ _. narrow_if t (eqb e 1) (Ok a) _ (λ _. narrow_ok t a h)
    (λ _. narrow_then t (powered_in d t a (e / 2)) (squared_and t a e)
    (narrow_powered_in d t a (e / 2) h) (λ x _. narrow_squared t a e x)))

pub narrow_powered : (t : Tabled) (a : List ℤ) (e : ℤ) → IsNarrow t a → Narrow t (powered t a e)
narrow_powered t a (pos e) h = narrow_powered_in e t a e h
narrow_powered t a (negsuc e) h =
    narrow_then t (inverted t a) (λ b. powered_in (suc e) t b (suc e))
    (narrow_solved t a (zeros (last_of t))) (λ b k. narrow_powered_in (suc e) t b (suc e) k)

pub narrow_paired : (t : Tabled) (p : Pairing) (a b : List ℤ) → Narrow t (paired t p a b)
narrow_paired t Solution a b = narrow_solved t a b
narrow_paired t Quotient a b =
    narrow_then t (inverted t b) (λ c. multiplied t a c) (narrow_solved t b (zeros (last_of t)))
    (λ c _. narrow_multiplied t a c)
narrow_paired t Conjugate u v =
    narrow_then t (multiplied t u v) (solved t v) (narrow_multiplied t u v)
    (λ b _. narrow_solved t v b)
narrow_paired t Commutator u v =
    narrow_then t (multiplied t v u) (λ a. and_then (multiplied t u v) (solved t a))
    (narrow_multiplied t v u)
    (λ a _. narrow_then t (multiplied t u v) (solved t a) (narrow_multiplied t u v)
    (λ b _. narrow_solved t a b))

pub narrow_both : (t : Tabled) (p : Pairing) (r s : Outcome) → Narrow t r → Narrow t s
    → Narrow t (both t p r s)
narrow_both t p r s h k =
    narrow_then t r (λ a. and_then s (λ b. paired t p a b)) h
    (λ a _. narrow_then t s (λ b. paired t p a b) k (λ b _. narrow_paired t p a b))
