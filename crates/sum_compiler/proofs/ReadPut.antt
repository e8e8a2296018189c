-- Vectors of polynomials with others put in place of variables, read at a point: powers, products.
--   t table · rels its presentation · ps xs ys vectors of polynomials · g power · gs powers
--   ss factors · list what is put in · a b points · P powers of the table · step j k of a place
use Rattle.std.proofs.Common.{◌≡◌, ℕ, zero, suc, ◌+◌, ◌-◌, ◌<◌, ◌≤◌, true, false, List, [], ◌∷◌, length, map, get_or, refl, sym, ap, ◌∙◌, subst, arith, inl, inr}
use Rattle.std.specs.Prelude.{All, ◌⊎◌}
use Rattle.std.proofs.lemmas.Bool.{ne_eqb, le-leb, cases_lt, cases_Bool, false≢true}
use Rattle.std.proofs.lemmas.Bool.Decides.{eqb_tells, nat_tests}
use Rattle.std.proofs.lemmas.List.{get_or-map, length-map}
use Rattle.std.proofs.lemmas.List.Elements.{All-head, All-tail}
use lib.IntN.{ℤ}
use Rattle.nil_word.specs.Congruence.{Relations}
use Rattle.nil_word.specs.Words.{IsVector}
use Rattle.nil_word.specs.Exponents.{entry}
use Rattle.nil_word.specs.Factors.{Factor}
use Rattle.hall_law.specs.Plan.{Powers, IsPower, collected}
use Rattle.hall_law.specs.Table.{IsPresentation, IsTable}
use Rattle.hall_law.proofs.ElementVectors.{powers_agree}
use Rattle.hall_law.proofs.Vectors.{at_of}
use Rattle.binom_poly.specs.declared.term.Term.{Term}
use Rattle.binom_poly.specs.Polynomial.{value_of}
use Rattle.binom_poly.specs.Variable.{y_of, z_of}
use Rattle.poly_subst.specs.declared.assign.Assign.{Assign}
use Rattle.poly_subst.specs.Substitute.{replaced, substituted}
use Rattle.hall_table.specs.Order.{generators}
use Rattle.hall_table.specs.Tabled.{Tabled, IsTabled, last_of, poly_in}
use Rattle.hall_table.specs.Values.{point_of, values}
use Rattle.hall_table.proofs.Entries.{entry-values}
use Rattle.sum_compiler.specs.declared.sum_step.SumStep.{SumStep}
use Rattle.sum_compiler.specs.Calls.{IsMade, IsSubstituted}
use Rattle.sum_compiler.specs.Calls.Call.{puts_in}
use Rattle.sum_compiler.specs.Putting.{into, to_power, put_in, calls_in}
use Rattle.sum_compiler.specs.Joining.{Powering, power_of, times, joined, power_calls, times_calls, next_calls, joined_calls}
use Rattle.sum_compiler.specs.Powers.{zs, powers, power_plan}
use Rattle.sum_compiler.specs.Readings.{read, is_z, at_power, powers_at}
use Rattle.sum_compiler.proofs.Walking.{made_left, made_right}
use Rattle.sum_compiler.proofs.PutSoFar.{at}
use Rattle.sum_compiler.proofs.SumsSoFar.{length-with_sums}
use Rattle.sum_compiler.proofs.Replacing.{replaced-x, replaced-y, replaced-z, replaced-t}
use Rattle.sum_compiler.proofs.ReadAt.{funext, bounds_of, entry-read, IsVector-read, IsAt-values, read_is, value-same, point-x, point-y}
use Rattle.sum_compiler.proofs.PowersAre.{powers_are}

-- ---- one of the polynomials
pub call_at : (step : SumStep) (j k : ℕ) (list : List Assign) (ps : List (List Term)) (i : ℕ)
    → i < length ps → All IsMade (calls_in step j k list ps) → IsSubstituted (get_or ps i []) list
unfolding calls_in
call_at step j k list [] i l h = absurd (omega arith)
call_at step j k list (p ∷ ps) zero l h =
    (All-head IsMade (puts_in (at step j k) p list) (calls_in step j (suc k) list ps) h).gains
call_at step j k list (p ∷ ps) (suc i) l h =
    call_at step j (suc k) list ps i (omega arith)
    (All-tail IsMade (puts_in (at step j k) p list) (calls_in step j (suc k) list ps) h)

pub value-put_in : (step : SumStep) (j k : ℕ) (list : List Assign) (ps : List (List Term)) (i : ℕ)
    (a : ℕ → ℤ) → i < length ps → All IsMade (calls_in step j k list ps)
    → value_of a (get_or (put_in list ps) i []) ≡ value_of (replaced list a) (get_or ps i [])
value-put_in step j k list ps i a l h =
    ap (value_of a) (get_or-map (λ (p : List Term). substituted p list) ps i [] [] l)
    ∙ (call_at step j k list ps i l h).value a

-- ---- products
pub read-times : (step : SumStep) (j : ℕ) (t : Tabled) (xs ys : List (List Term)) (a : ℕ → ℤ)
    → IsTabled t → length xs ≡ generators t → length ys ≡ generators t
    → All IsMade (times_calls step j t xs ys)
    → read t a (times t xs ys) ≡ values t (read t a xs) (read t a ys)
read-times step j t xs ys a h nx ny made =
    let b = bounds_of t h in
    let least : 1 ≤ t.level = b.least in
    let last : last_of t ≤ 48 = b.last in
    let end : t.level + length t.polys ≡ suc (last_of t) = b.end in
    let u = read t a xs in
    let v = read t a ys in
    let list = into t.level xs ys in
    let x : (m : ℕ) → t.level ≤ m → m ≤ last_of t → replaced list a m ≡ point_of u v m =
    λ m low high. replaced-x t.level xs ys a m low (omega arith) (omega arith)
    ∙ sym (point-x u v m (omega arith) ∙ entry-read t a xs m least low high) in
    let y : (m : ℕ) → t.level ≤ m → m ≤ last_of t → replaced list a (y_of m) ≡ point_of u v (y_of m) =
    λ m low high. replaced-y t.level xs ys a m low (omega arith)
    ∙ sym (point-y u v m ∙ entry-read t a ys m least low high) in
    read_is t a (times t xs ys) (values t u v) b (IsAt-values t u v b.most)
    (λ k low high.
    value-put_in step j t.level list t.polys (k - t.level) a (omega arith) made
    ∙ value-same t k (replaced list a) (point_of u v) h low high
    record { x = λ l s r. x l s (omega arith); y = λ l s r. y l s (omega arith) }
    (x k low high) (y k low high)
    ∙ sym (entry-values t u v k h low high))

-- ---- powers
z_outside : (t : Tabled) (v : ℕ) → is_z t v ≡ false → (v < z_of t.level) ⊎ (z_of (last_of t) < v)
z_outside t v h =
    elim (cases_lt v (128 + t.level)) [
      | inl l ↦ inl l
      | inr g ↦ (elim (cases_lt (128 + last_of t) v) [
        | inl l ↦ inr l
        | inr k ↦ absurd (false≢true (sym h ∙ rw (le-leb (128 + t.level) v g, le-leb v (128 + last_of t) k) refl))
      ])
    ]

z_inside : (t : Tabled) (v : ℕ) → is_z t v ≡ true → (z_of t.level ≤ v) × (v ≤ z_of (last_of t))
z_inside t v h = (grind (arith, nat_tests), grind (arith, nat_tests))

replaced_is : (t : Tabled) (zs : List (List Term)) (s : List Term) (a : ℕ → ℤ) → IsTabled t
    → length zs ≡ generators t
    → replaced (to_power t.level zs s) a
    ≡ at_power t (replaced (to_power t.level zs s) a) (read t a zs) (value_of a s)
replaced_is t zs s a h n =
    let b = bounds_of t h in
    let least : 1 ≤ t.level = b.least in
    let last : last_of t ≤ 48 = b.last in
    let end : t.level + length t.polys ≡ suc (last_of t) = b.end in
    let c = replaced (to_power t.level zs s) a in
    funext c (at_power t c (read t a zs) (value_of a s))
    (λ v. elim (eqb_tells v 200) [
      | inl same ↦
          subst (λ (w : ℕ). c w ≡ at_power t c (read t a zs) (value_of a s) w) (sym same.1)
          (replaced-t t.level zs s a (omega arith))
      | inr other ↦ (elim (cases_Bool (is_z t v)) [
        | inl inside ↦
            (let i = z_inside t v inside in
            let low : 128 + t.level ≤ v = i.0 in
            let high : v ≤ 128 + last_of t = i.1 in
            replaced-z t.level zs s a v low (omega arith)
            ∙ sym (rw (ne_eqb v 200 other.1, inside)
            (entry-read t a zs (v - 128) least (omega arith) (omega arith)
            ∙ ap (λ (m : ℕ). value_of a (get_or zs m []))
            (let e : v - 128 - t.level ≡ v - (128 + t.level) = omega arith in e))))
        | inr outside ↦ sym (rw (ne_eqb v 200 other.1, outside) refl)
      ])
    ])

module _ (rels : Relations) (t : Tabled) (presented : IsPresentation rels) (h : IsTabled t)
    (table : IsTable rels t.level (values t)) (same : last_of t ≡ rels.count)
    (powers_made : All IsMade (power_plan t)) (P : Powers)
    (is_power : IsPower rels.count t.level (values t) P) where
  agree_on : (b : ℕ → ℤ) (z : List ℤ) (s : ℤ) → IsVector (last_of t) t.level z
      → powers_at t b (powers t) z s ≡ P z s
  agree_on b z s hz =
      powers_agree rels t.level (values t) presented table (powers_at t b (powers t)) P
      (subst (λ (n : ℕ). IsPower n t.level (values t) (powers_at t b (powers t))) same
      (powers_are t h powers_made b))
      is_power z s (subst (λ (n : ℕ). IsVector n t.level z) same hz)

  pub read-power : (step : SumStep) (g : Powering) (a : ℕ → ℤ) → length g.vector ≡ generators t
      → All IsMade (power_calls step t (powers t) g)
      → read t a (power_of t (powers t) g) ≡ P (read t a g.vector) (value_of a g.exponent)
  read-power step g a n made =
      let b = bounds_of t h in
      let least : 1 ≤ t.level = b.least in
      let end : t.level + length t.polys ≡ suc (last_of t) = b.end in
      let list = to_power t.level g.vector g.exponent in
      let z = read t a g.vector in
      let s = value_of a g.exponent in
      let c = replaced list a in
      let size = length-with_sums t (zs t) [] (generators t) in
      let hz = IsVector-read t a g.vector b.most in
      read_is t a (power_of t (powers t) g) (P z s) b
      (at_of (last_of t) t.level (P z s)
      (subst (λ (n : ℕ). IsVector n t.level (P z s)) (sym same)
      (is_power.within z s (subst (λ (n : ℕ). IsVector n t.level z) same hz))))
      (λ k low high.
      value-put_in step g.j t.level list (powers t) (k - t.level) a (omega arith) made
      ∙ ap (λ (d : ℕ → ℤ). value_of d (poly_in t.level (powers t) k)) (replaced_is t g.vector g.exponent a h n)
      ∙ sym (entry-read t (at_power t c z s) (powers t) k least low high)
      ∙ ap (λ (u : List ℤ). entry u k) (agree_on c z s hz))

  pub IsVector-power : (z : List ℤ) (s : ℤ) → IsVector (last_of t) t.level z
      → IsVector (last_of t) t.level (P z s)
  IsVector-power z s hz =
      subst (λ (n : ℕ). IsVector n t.level (P z s)) (sym same)
      (is_power.within z s (subst (λ (n : ℕ). IsVector n t.level z) same hz))

  -- ---- one power after another
  pub read-joined : (step : SumStep) (of : Factor → Powering) (image : ℕ → List ℤ) (ss : List Factor)
      (w : List (List Term)) (a : ℕ → ℤ) → length w ≡ generators t
      → All (λ s. (length (of s).vector ≡ generators t)
      × (read t a (of s).vector ≡ image s.number) × (value_of a (of s).exponent ≡ s.exp)) ss
      → All IsMade (joined_calls step t (powers t) w (map of ss))
      → read t a (joined t (powers t) w (map of ss))
      ≡ collected (values t) P image ss (read t a w)
  unfolding joined joined_calls
  read-joined step of image [] w a n all made = refl
  read-joined step of image (s ∷ ss) w a n all made =
      let Fact : Factor → Type 0 = λ x. (length (of x).vector ≡ generators t)
      × (read t a (of x).vector ≡ image x.number) × (value_of a (of x).exponent ≡ x.exp) in
      let here = All-head Fact s ss all in
      let g = of s in
      let z = power_of t (powers t) g in
      let size = length-with_sums t (zs t) [] (generators t) in
      let zn : length z ≡ generators t =
      length-map (powers t) (λ p. substituted p (to_power t.level g.vector g.exponent)) ∙ omega arith in
      let first = made_left (next_calls step t (powers t) w g)
      (joined_calls step t (powers t) (times t w z) (map of ss)) made in
      let later = made_right (next_calls step t (powers t) w g)
      (joined_calls step t (powers t) (times t w z) (map of ss)) made in
      let power_made = made_left (power_calls step t (powers t) g) (times_calls step g.j t w z) first in
      let times_made = made_right (power_calls step t (powers t) g) (times_calls step g.j t w z) first in
      read-joined step of image ss (times t w z) a
      (length-map t.polys (λ p. substituted p (into t.level w z)))
      (All-tail Fact s ss all) later
      ∙ ap (collected (values t) P image ss)
      (read-times step g.j t w z a h n zn times_made
      ∙ ap (values t (read t a w))
      (read-power step g a here.0 power_made
      ∙ ap (λ (u : List ℤ). P u (value_of a g.exponent)) here.1
      ∙ ap (P (image s.number)) here.2))
