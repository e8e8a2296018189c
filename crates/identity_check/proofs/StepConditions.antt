-- The step condition, by the step identities of a generator or of its inverse.
--   t table · k m j generators · c 1 or -1 · a b points · x y u vectors
use Rattle.std.proofs.Common.{◌≡◌, ◌≢◌, ℕ, zero, suc, ◌+◌, ◌-◌, ◌<◌, ◌≤◌, Bool, true, false, List, Option, refl, sym, ap, ◌∙◌, subst, arith, inl, inr}
use Rattle.std.specs.Prelude.{All, IsTrue, nat_le}
use Rattle.std.proofs.lemmas.Bool.Decides.{eqb_tells, nat_tests}
use Rattle.std.proofs.lemmas.List.Elements.{All-weaker}
use lib.IntN.{ℤ, pos}
use Rattle.nil_word.specs.Words.{IsVector}
use Rattle.nil_word.specs.Exponents.{entry}
use Rattle.hall_law.specs.Table.{single}
use Rattle.hall_law.proofs.Vectors.{at_of}
use Rattle.binom_poly.specs.declared.part.Part.{Part}
use Rattle.binom_poly.specs.declared.term.Term.{Term}
use Rattle.binom_poly.specs.Variable.{y_of}
use Rattle.binom_poly.specs.Polynomial.{value_of, IsPolynomial}
use Rattle.binom_poly.specs.Dependence.{HasOnly, DependsOnly}
use Rattle.binom_poly.proofs.Depending.{variables_tested}
use Rattle.poly_subst.specs.Renaming.{holds, zeroed, IsInX}
use Rattle.poly_subst.specs.Substitute.{value_by, replaced}
use Rattle.poly_subst.specs.Walk.{by_number, in_x, in_y}
use Rattle.poly_subst.proofs.Moving.{polynomial-terms_to_y, value-terms_to_y}
use Rattle.hall_table.specs.Tabled.{Tabled, IsTabled, last_of, poly_at}
use Rattle.hall_table.specs.Values.{point_of, values}
use Rattle.hall_table.specs.Order.{generators}
use Rattle.identity_check.specs.Assigned.{ArePolynomials}
use Rattle.identity_check.specs.Sides.{other_ys, step, left_step, right_step}
use Rattle.identity_check.specs.Overflowing.{StepOverflows, StepSidesOverflow}
use Rattle.identity_check.proofs.Substituted.{IsSubstituted, is_substituted}
use Rattle.identity_check.proofs.Holding.{zeroed_listed, zeroed_other, holds-others, holds-others_not, assigned-in_x, assigned-in_y, assigned-in_y_x}
use Rattle.identity_check.proofs.Agreeing.{Bounds, bounds_of, IsOf, form_at, AgreeOn, value-agree_on, point-x, point-y, entry-single_same, entry-single_other, at-values, entry_is, same_from}
use Rattle.identity_check.proofs.ByNumber.{IsUnit, IsStep, is_step, replaced_here, replaced_there}
use Rattle.identity_check.proofs.OrderConditions.{vector_single}

-- ---- the variables that are 0
holds_x : (t : Tabled) (j m : ℕ) → Bounds t → IsOf t m → holds (other_ys t j) m ≡ false
holds_x t j m b o =
    let last : last_of t ≤ 48 = b.last in
    let high : m ≤ last_of t = o.high in
    holds-others_not j t.level (suc (last_of t) - t.level) m (λ k n e. omega arith)

holds_y : (t : Tabled) (j m : ℕ) → IsOf t m → m ≢ j → holds (other_ys t j) (y_of m) ≡ true
holds_y t j m o n =
    holds-others j t.level (suc (last_of t) - t.level) m o.low (omega (arith, o.low, o.high)) n

holds_own : (t : Tabled) (j : ℕ) → holds (other_ys t j) (y_of j) ≡ false
holds_own t j =
    holds-others_not j t.level (suc (last_of t) - t.level) (y_of j) (λ k n e. n (omega arith))

-- ---- the point of a step: a at the x, and c at y_j alone
abbrev step_point : Tabled → ℕ → ℤ → (ℕ → ℤ) → ℕ → ℤ
step_point t j c a = zeroed (other_ys t j) (replaced (by_number (y_of j) c) a)

point_x : (t : Tabled) (j m : ℕ) (c : ℤ) (a : ℕ → ℤ) → Bounds t → IsOf t m
    → step_point t j c a m ≡ a m
point_x t j m c a b o =
    let last : last_of t ≤ 48 = b.last in
    let high : m ≤ last_of t = o.high in
    zeroed_other (other_ys t j) (replaced (by_number (y_of j) c) a) m (holds_x t j m b o)
    ∙ replaced_there (y_of j) m c a (λ d. omega arith)

point_own : (t : Tabled) (j : ℕ) (c : ℤ) (a : ℕ → ℤ) → step_point t j c a (y_of j) ≡ c
point_own t j c a =
    zeroed_other (other_ys t j) (replaced (by_number (y_of j) c) a) (y_of j) (holds_own t j)
    ∙ replaced_here (y_of j) c a

point_other : (t : Tabled) (j m : ℕ) (c : ℤ) (a : ℕ → ℤ) → IsOf t m → m ≢ j
    → step_point t j c a (y_of m) ≡ pos 0
point_other t j m c a o n =
    zeroed_listed (other_ys t j) (replaced (by_number (y_of j) c) a) (y_of m) (holds_y t j m o n)

agree_step : (t : Tabled) (j : ℕ) (c : ℤ) (a : ℕ → ℤ) (u : List ℤ) → Bounds t → IsOf t j
    → ((m : ℕ) → IsOf t m → a m ≡ entry u m)
    → AgreeOn t (step_point t j c a) (point_of u (single (last_of t) j c))
agree_step t j c a u b o g =
    let e = single (last_of t) j c in
    let least : 1 ≤ t.level = b.least in
    let low : t.level ≤ j = o.low in
    record {
      x = λ m q. point_x t j m c a b q ∙ g m q ∙ sym (point-x t u e m b q);
      y = λ m q. elim (eqb_tells m j) [
        | inl same ↦
            subst (λ (k : ℕ). step_point t j c a (y_of k) ≡ point_of u e (y_of k)) (sym same.1)
            (point_own t j c a
            ∙ sym (point-y u e j ∙ entry-single_same (last_of t) j c (omega arith) o.high))
        | inr other ↦
            point_other t j m c a q other.1
            ∙ sym (point-y u e m
            ∙ entry-single_other (last_of t) j m c (omega arith) (omega (arith, q.low)) other.1)
      ];
    }

agree_points : (t : Tabled) (j : ℕ) (c : ℤ) (a b : ℕ → ℤ) → Bounds t
    → ((m : ℕ) → IsOf t m → a m ≡ b m) → AgreeOn t (step_point t j c a) (step_point t j c b)
agree_points t j c a b s g = record {
  x = λ m q. point_x t j m c a s q ∙ g m q ∙ sym (point_x t j m c b s q);
  y = λ m q. elim (eqb_tells m j) [
    | inl same ↦
        subst (λ (k : ℕ). step_point t j c a (y_of k) ≡ step_point t j c b (y_of k)) (sym same.1)
        (point_own t j c a ∙ sym (point_own t j c b))
    | inr other ↦ point_other t j m c a q other.1 ∙ sym (point_other t j m c b q other.1)
  ];
}

-- ---- the step polynomials
abbrev pub AreSteps : Tabled → ℕ → ℤ → Type 0
AreSteps t j c = (m : ℕ) → IsOf t m → IsStep t m (other_ys t j) (y_of j) c

abbrev is_x : ℕ → Bool
is_x v = nat_le v 48

is_x_small : (v : ℕ) → is_x v ≡ true → v ≤ 48
is_x_small v h = grind (arith, nat_tests)

small_is_x : (v : ℕ) → v ≤ 48 → is_x v ≡ true
small_is_x v h = grind (arith, nat_tests)

pub in_x_alone : (t : Tabled) (j m : ℕ) (c : ℤ) → IsTabled t → IsOf t m
    → IsStep t m (other_ys t j) (y_of j) c → IsInX (step t j c m)
in_x_alone t j m c h o s =
    let b = bounds_of t h in
    let last : last_of t ≤ 48 = b.last in
    let depends : DependsOnly is_x (λ a. value_of a (step t j c m)) =
    λ d e g. s.value d (step_point t j c e)
    (agree_points t j c d e b (λ k q. g k (small_is_x k (omega (arith, q.high)))))
    ∙ sym (s.value e (step_point t j c e)
    (agree_points t j c e e b (λ k q. refl))) in
    All-weaker (λ (u : Term). HasOnly is_x u.monomial)
    (λ (u : Term). All (λ (part : Part). part.var ≤ 48) u.monomial)
    (λ u f. All-weaker (λ (q : Part). IsTrue (is_x q.var)) (λ (q : Part). q.var ≤ 48)
    (λ q l. is_x_small q.var l) u.monomial f)
    (step t j c m) (variables_tested is_x (step t j c m) s.form depends)

-- ---- what is put in
polynomials-in_y : (low d : ℕ) (g : ℕ → List Term)
    → ((m : ℕ) → low ≤ m → m < low + d → IsPolynomial (g m) × IsInX (g m))
    → ArePolynomials (in_y low d g)
unfolding in_y
polynomials-in_y low zero g h = tt
polynomials-in_y low (suc d) g h =
    let first = h low (omega arith) (omega arith) in (
      polynomial-terms_to_y (g low) first.0 first.1,
      polynomials-in_y (suc low) d g (λ m l u. h m (omega arith) (omega arith)),
    )

polynomials-in_x : (low d : ℕ) (g : ℕ → List Term)
    → ((m : ℕ) → low ≤ m → m < low + d → IsPolynomial (g m)) → ArePolynomials (in_x low d g)
unfolding in_x
polynomials-in_x low zero g h = tt
polynomials-in_x low (suc d) g h = (
  h low (omega arith) (omega arith),
  polynomials-in_x (suc low) d g (λ m l u. h m (omega arith) (omega arith)),
)

of_range : (t : Tabled) (m : ℕ) → Bounds t → t.level ≤ m → m < t.level + generators t → IsOf t m
of_range t m b l u = record { low = l; high = omega (arith, b.end) }

pub put_in_y : (t : Tabled) (j : ℕ) (c : ℤ) → IsTabled t → AreSteps t j c
    → ArePolynomials (in_y t.level (generators t) (step t j c))
put_in_y t j c h s =
    polynomials-in_y t.level (generators t) (step t j c)
    (λ m l u. let o = of_range t m (bounds_of t h) l u in
    ((s m o).form, in_x_alone t j m c h o (s m o)))

pub put_in_x : (t : Tabled) → IsTabled t → ArePolynomials (in_x t.level (generators t) (poly_at t))
put_in_x t h =
    polynomials-in_x t.level (generators t) (poly_at t)
    (λ m l u. form_at t m h (of_range t m (bounds_of t h) l u))

abbrev ys_by : Tabled → ℕ → ℤ → (ℕ → ℤ) → ℕ → ℤ
ys_by t j c a = replaced (in_y t.level (generators t) (step t j c)) a

abbrev xs_by : Tabled → (ℕ → ℤ) → ℕ → ℤ
xs_by t a = replaced (in_x t.level (generators t) (poly_at t)) a

-- the y are the entries of f(y, e), at a point that agrees with x and y
agree_y : (t : Tabled) (j : ℕ) (c : ℤ) (a : ℕ → ℤ) (x y : List ℤ) → IsTabled t → IsOf t j
    → AreSteps t j c → AgreeOn t a (point_of x y)
    → AgreeOn t (ys_by t j c a) (point_of x (values t y (single (last_of t) j c)))
agree_y t j c a x y h o s g =
    let b = bounds_of t h in
    let v = values t y (single (last_of t) j c) in
    let last : last_of t ≤ 48 = b.last in
    record {
      x = λ m q.
          ap (λ (r : Option (List Term)). value_by r a m)
          (assigned-in_y_x t.level (generators t) (step t j c) m (omega (arith, q.high)))
          ∙ g.x m q ∙ point-x t x y m b q ∙ sym (point-x t x v m b q);
      y = λ m q.
          ap (λ (r : Option (List Term)). value_by r a (y_of m))
          (assigned-in_y t.level (generators t) (step t j c) m q.low (omega (arith, q.high, b.end)))
          ∙ value-terms_to_y a (step t j c m)
          ∙ (s m q).value (λ w. a (y_of w)) (point_of y (single (last_of t) j c))
          (agree_step t j c (λ w. a (y_of w)) y b o
          (λ k p. g.y k p ∙ point-y x y k))
          ∙ sym (point-y x v m ∙ entry_is t y (single (last_of t) j c) m h q);
    }

-- the x are the entries of f(x, y)
entry_by : (t : Tabled) (a : ℕ → ℤ) (x y : List ℤ) (m : ℕ) → IsTabled t → IsOf t m
    → AgreeOn t a (point_of x y) → xs_by t a m ≡ entry (values t x y) m
entry_by t a x y m h q g =
    let b = bounds_of t h in
    ap (λ (r : Option (List Term)). value_by r a m)
    (assigned-in_x t.level (generators t) (poly_at t) m q.low (omega (arith, q.high, b.end)))
    ∙ value-agree_on t m a (point_of x y) h q g ∙ sym (entry_is t x y m h q)

-- ---- the sides
pub steps_made : (t : Tabled) (j : ℕ) (c : ℤ) → IsTabled t → IsUnit c
    → ((m : ℕ) → IsOf t m → ¬ StepOverflows t j c m) → AreSteps t j c
steps_made t j c h u n = λ m o. is_step t m (other_ys t j) (y_of j) c h o u (n m o)

pub substituted-left : (t : Tabled) (j : ℕ) (c : ℤ) (k : ℕ) → IsTabled t → AreSteps t j c
    → IsOf t k → ¬ StepSidesOverflow t j c k
    → IsSubstituted (poly_at t k) (in_y t.level (generators t) (step t j c))
substituted-left t j c k h s q n =
    is_substituted (poly_at t k) (in_y t.level (generators t) (step t j c)) (form_at t k h q)
    (put_in_y t j c h s) (λ w. n (inl w))

pub substituted-right : (t : Tabled) (j : ℕ) (c : ℤ) (k : ℕ) → IsTabled t → AreSteps t j c
    → IsOf t k → ¬ StepSidesOverflow t j c k
    → IsSubstituted (step t j c k) (in_x t.level (generators t) (poly_at t))
substituted-right t j c k h s q n =
    is_substituted (step t j c k) (in_x t.level (generators t) (poly_at t)) ((s k q).form)
    (put_in_x t h) (λ w. n (inr w))

pub value-left_step : (t : Tabled) (j : ℕ) (c : ℤ) (k : ℕ) (a : ℕ → ℤ) (x y : List ℤ)
    → IsTabled t → IsOf t j → AreSteps t j c → IsOf t k → ¬ StepSidesOverflow t j c k
    → AgreeOn t a (point_of x y)
    → value_of a (left_step t j c k) ≡ entry (values t x (values t y (single (last_of t) j c))) k
value-left_step t j c k a x y h o s q n g =
    let v = values t y (single (last_of t) j c) in
    (substituted-left t j c k h s q n).value a
    ∙ value-agree_on t k (ys_by t j c a) (point_of x v) h q (agree_y t j c a x y h o s g)
    ∙ sym (entry_is t x v k h q)

pub value-right_step : (t : Tabled) (j : ℕ) (c : ℤ) (k : ℕ) (a : ℕ → ℤ) (x y : List ℤ)
    → IsTabled t → IsOf t j → AreSteps t j c → IsOf t k → ¬ StepSidesOverflow t j c k
    → AgreeOn t a (point_of x y)
    → value_of a (right_step t j c k) ≡ entry (values t (values t x y) (single (last_of t) j c)) k
value-right_step t j c k a x y h o s q n g =
    let b = bounds_of t h in
    let e = single (last_of t) j c in
    (substituted-right t j c k h s q n).value a
    ∙ (s k q).value (xs_by t a) (point_of (values t x y) e)
    (agree_step t j c (xs_by t a) (values t x y) b o (λ m p. entry_by t a x y m h p g))
    ∙ sym (entry_is t (values t x y) e k h q)

pub record StepsAlike (t : Tabled) (j : ℕ) (c : ℤ) : Type 0 where
  pub makes : (m : ℕ) → IsOf t m → ¬ StepOverflows t j c m
  pub fits : (k : ℕ) → IsOf t k → ¬ StepSidesOverflow t j c k
  pub same : (k : ℕ) → IsOf t k → left_step t j c k ≡ right_step t j c k

pub steps_on : (t : Tabled) (j : ℕ) (c : ℤ) → IsTabled t → IsOf t j → IsUnit c → StepsAlike t j c
    → (x y : List ℤ) → IsVector (last_of t) t.level x → IsVector (last_of t) t.level y
    → values t x (values t y (single (last_of t) j c))
    ≡ values t (values t x y) (single (last_of t) j c)
steps_on t j c h o u g x y hx hy =
    let e = single (last_of t) j c in
    let he = vector_single t j c (bounds_of t h) o in
    let a = point_of x y in
    let agree : AgreeOn t a a = record { x = λ m q. refl; y = λ m q. refl } in
    let s = steps_made t j c h u g.makes in
    let vector : (v w : List ℤ) → IsVector (last_of t) t.level v → IsVector (last_of t) t.level w
    → IsVector (last_of t) t.level (values t v w) = λ v w hv hw. at-values t v w h hv hw in
    same_from t (values t x (values t y e)) (values t (values t x y) e)
    (at_of (last_of t) t.level (values t x (values t y e))
    (vector x (values t y e) hx (vector y e hy he)))
    (at_of (last_of t) t.level (values t (values t x y) e)
    (vector (values t x y) e (vector x y hx hy) he))
    (λ k q.
    sym (value-left_step t j c k a x y h o s q (g.fits k q) agree) ∙ ap (value_of a) (g.same k q)
    ∙ value-right_step t j c k a x y h o s q (g.fits k q) agree)
