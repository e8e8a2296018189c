-- The polynomials of the power plan are powers, whatever the values of the other variables.
--   t table · b a point of the other variables · z vector · s an integer · k generator
use Rattle.std.proofs.Common.{◌≡◌, ℕ, suc, ◌+◌, ◌-◌, ◌<◌, ◌≤◌, List, [], length, refl, sym, ap, ◌∙◌, subst, arith, inl, inr}
use Rattle.std.specs.Prelude.{All, IfOk, Result, Ok, Err}
use Rattle.std.proofs.lemmas.Bool.{eq-eqb, ne_eqb, le-leb}
use Rattle.std.proofs.lemmas.Bool.Decides.{eqb_tells}
use Rattle.std.proofs.lemmas.List.{get_or-map, length-map}
use lib.IntN.{ℤ, pos, ◌+ℤ◌}
use Rattle.nil_num.specs.Outcome.{Gives}
use Rattle.nil_word.specs.Words.{IsVector}
use Rattle.nil_word.specs.Exponents.{entry, numbers}
use Rattle.hall_law.specs.Table.{zeros}
use Rattle.hall_law.specs.Plan.{IsPower}
use Rattle.hall_law.proofs.Vectors.{at_of, IsAt-zeros, entry-zeros}
use Rattle.binom_poly.specs.declared.term.Term.{Term}
use Rattle.binom_poly.specs.Collected.{var_terms}
use Rattle.binom_poly.specs.Polynomial.{value_of}
use Rattle.binom_poly.specs.Variable.{z_of, step_variable}
use Rattle.binom_poly.proofs.Canonical.{value-var_terms}
use Rattle.poly_subst.specs.Steps.{bump}
use Rattle.hall_table.specs.Agreement.{IsPowerOf}
use Rattle.hall_table.specs.Multiplies.{Paired, IsChecked}
use Rattle.hall_table.specs.Order.{generators}
use Rattle.hall_table.specs.Tabled.{Tabled, IsTabled, last_of, poly_in}
use Rattle.hall_table.specs.Values.{values}
use Rattle.sum_compiler.specs.declared.sum_step.SumStep.TheVariants as step
use Rattle.sum_compiler.specs.declared.sum_fault.SumFault.{SumFault}
use Rattle.sum_compiler.specs.Calls.{IsMade, MakesIn, place_of}
use Rattle.sum_compiler.specs.Powers.{zs, powers, power_plan}
use Rattle.sum_compiler.specs.Readings.{read, at_power, powers_at}
use Rattle.sum_compiler.proofs.Numbers.{length-numbers, get-numbers}
use Rattle.sum_compiler.proofs.ReadAt.{funext, bounds_of, entry-read, IsAt-read, IsVector-read, IsAt-values, same_from, read_is}
use Rattle.sum_compiler.proofs.Moving.{entry-start, entry-step}

pub length-zs : (t : Tabled) → length (zs t) ≡ generators t
length-zs t =
    length-map (numbers t.level (generators t)) (λ k. var_terms (z_of k))
    ∙ length-numbers t.level (generators t)

zs_at : (t : Tabled) (k : ℕ) → t.level ≤ k → k < t.level + generators t
    → poly_in t.level (zs t) k ≡ var_terms (z_of k)
zs_at t k low high =
    get_or-map (λ (m : ℕ). var_terms (z_of m)) (numbers t.level (generators t)) (k - t.level) 0 []
    (let e = length-numbers t.level (generators t) in
    let l : k - t.level < length (numbers t.level (generators t)) = omega arith in l)
    ∙ ap (λ (m : ℕ). var_terms (z_of m))
    (get-numbers t.level (generators t) (k - t.level) (omega arith)
    ∙ (let e : t.level + (k - t.level) ≡ k = omega arith in e))

-- ---- the point
pub at_power-t : (t : Tabled) (b : ℕ → ℤ) (z : List ℤ) (s : ℤ) → at_power t b z s step_variable ≡ s
at_power-t t b z s = refl

pub at_power-z : (t : Tabled) (b : ℕ → ℤ) (z : List ℤ) (s : ℤ) (k : ℕ) → t.level ≤ k → k ≤ last_of t
    → k ≤ 48 → at_power t b z s (z_of k) ≡ entry z k
at_power-z t b z s k low high most =
    rw (
      ne_eqb (128 + k) 200 (λ e. omega arith),
      le-leb (128 + t.level) (128 + k) (omega arith),
      le-leb (128 + k) (128 + last_of t) (omega arith),
    )
    (ap (entry z) (let e : 128 + k - 128 ≡ k = omega arith in e))

pub bump-at_power : (t : Tabled) (b : ℕ → ℤ) (z : List ℤ) (s : ℤ)
    → at_power t b z (s +ℤ pos 1) ≡ bump step_variable (at_power t b z s)
bump-at_power t b z s =
    funext (at_power t b z (s +ℤ pos 1)) (bump step_variable (at_power t b z s))
    (λ v. elim (eqb_tells v 200) [
      | inl same ↦ rw (eq-eqb v 200 same.1) refl
      | inr other ↦ rw (ne_eqb v 200 other.1) refl
    ])

module _ (t : Tabled) (h : IsTabled t) (made : All IsMade (power_plan t)) (b : ℕ → ℤ) where
  read-zs : (z : List ℤ) (s : ℤ) → IsVector (last_of t) t.level z
      → read t (at_power t b z s) (zs t) ≡ z
  read-zs z s hz =
      let bounds = bounds_of t h in
      let last : last_of t ≤ 48 = bounds.last in
      let end : t.level + length t.polys ≡ suc (last_of t) = bounds.end in
      read_is t (at_power t b z s) (zs t) z bounds (at_of (last_of t) t.level z hz)
      (λ k low high.
      ap (value_of (at_power t b z s)) (zs_at t k low (omega arith))
      ∙ value-var_terms (at_power t b z s) (z_of k)
      ∙ at_power-z t b z s k low high (omega arith))

  starts : (z : List ℤ) → powers_at t b (powers t) z (pos 0) ≡ zeros (last_of t)
  starts z =
      let bounds = bounds_of t h in
      let end : t.level + length t.polys ≡ suc (last_of t) = bounds.end in
      read_is t (at_power t b z (pos 0)) (powers t) (zeros (last_of t)) bounds
      (IsAt-zeros (last_of t) t.level)
      (λ k low high.
      entry-start step.Power 0 t (zs t) [] (generators t) k (at_power t b z (pos 0)) made (omega arith)
      (omega arith) (at_power-t t b z (pos 0))
      ∙ sym (entry-zeros (last_of t) k))

  moves : (z : List ℤ) (s : ℤ) → IsVector (last_of t) t.level z
      → powers_at t b (powers t) z (s +ℤ pos 1) ≡ values t (powers_at t b (powers t) z s) z
  moves z s hz =
      let bounds = bounds_of t h in
      let a = at_power t b z s in
      let more = at_power t b z (s +ℤ pos 1) in
      same_from t (read t more (powers t)) (values t (read t a (powers t)) z)
      (IsAt-read t more (powers t) bounds.most)
      (IsAt-values t (read t a (powers t)) z bounds.most)
      (λ k low high.
      entry-read t more (powers t) k bounds.least low high
      ∙ ap (λ (c : ℕ → ℤ). value_of c (poly_in t.level (powers t) k)) (bump-at_power t b z s)
      ∙ entry-step step.Power 0 t (zs t) [] (generators t) k a h (length-zs t) (omega arith) made
      (omega arith) high
      ∙ ap (λ (u : List ℤ). entry (values t (read t a (powers t)) u) k) (read-zs z s hz))

  pub powers_are : IsPower (last_of t) t.level (values t) (powers_at t b (powers t))
  powers_are = record {
    within = λ z s hz. IsVector-read t (at_power t b z s) (powers t) (bounds_of t h).most;
    start = λ z hz. starts z;
    next = moves;
  }

-- ---- the answer
pub powers_of : (c : Paired) (ps : List (List Term)) → IsTabled c.table → IsChecked c
    → ps ≡ powers c.table → All IsMade (power_plan c.table)
    → (b : ℕ → ℤ) → IsPowerOf c (powers_at c.table b ps)
powers_of c ps h checked e made b =
    subst (λ (qs : List (List Term)). IsPowerOf c (powers_at c.table b qs)) (sym e)
    (subst (λ (n : ℕ). IsPower n c.table.level (values c.table) (powers_at c.table b (powers c.table)))
    checked.last (powers_are c.table h made b))

pub powers_answered : {A : Type 0} (items : A → List (List Term)) (c : Paired) (r : Result A SumFault)
    → IsTabled c.table → IsChecked c → IfOk r (λ x. items x ≡ powers c.table)
    → Gives place_of r (MakesIn {A = A} (power_plan c.table))
    → IfOk r (λ x. (b : ℕ → ℤ) → IsPowerOf c (powers_at c.table b (items x)))
powers_answered items c (Ok x) h checked e made = powers_of c (items x) h checked e made
powers_answered items c (Err fault) h checked e made = tt
