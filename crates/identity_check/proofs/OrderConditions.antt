-- The order condition, by the identities of a last generator and of its inverse.
--   t table · k m j generators · c 1 or -1 · x vector
use Rattle.std.proofs.Common.{◌≡◌, ◌≢◌, ℕ, suc, ◌-◌, ◌<◌, ◌≤◌, Bool, true, false, cond, List, [], length, sym, ap, ◌∙◌, subst, arith, inl, inr}
use Rattle.std.specs.Prelude.{◌==◌, if◌then◌else◌}
use Rattle.std.proofs.lemmas.Bool.{cases_lt, lt-ltb, le-ltb, eq-eqb, ne_eqb}
use Rattle.std.proofs.lemmas.Bool.Decides.{eqb_tells}
use lib.IntN.{ℤ, ◌+ℤ◌}
use Rattle.nil_word.specs.Words.{IsVector}
use Rattle.nil_word.specs.Exponents.{entry}
use Rattle.hall_law.specs.Table.{added, single, IsZeroAbove}
use Rattle.hall_law.proofs.Vectors.{IsAt, at_of, vector_of, IsAt-added, IsAt-single, entry-added_same, entry-added_other}
use Rattle.binom_poly.specs.Variable.{y_of}
use Rattle.binom_poly.specs.Polynomial.{value_of}
use Rattle.binom_poly.specs.Collected.{constant_terms, var_terms, sum_of}
use Rattle.binom_poly.proofs.Canonical.{value-constant_terms, value-var_terms}
use Rattle.poly_subst.specs.Renaming.{holds, zeroed}
use Rattle.poly_subst.specs.Substitute.{replaced}
use Rattle.poly_subst.specs.Walk.{by_number}
use Rattle.hall_table.specs.Tabled.{Tabled, IsTabled, last_of}
use Rattle.hall_table.specs.Values.{point_of, values}
use Rattle.identity_check.specs.Sides.{xs_above, other_ys, cleared, last_step, last_added}
use Rattle.identity_check.specs.Overflowing.{LastStepOverflows}
use Rattle.identity_check.proofs.Choosing.{value-sum_of}
use Rattle.identity_check.proofs.Holding.{zeroed_listed, zeroed_other, holds-append_left, holds-append_right, holds-numbers, holds-numbers_outside, holds-others, holds-others_not}
use Rattle.identity_check.proofs.Agreeing.{Bounds, bounds_of, IsOf, AgreeOn, point-x, point-y, entry-single_same, entry-single_other, values_are}
use Rattle.identity_check.proofs.ByNumber.{IsUnit, is_step, replaced_here, replaced_there}

pub vector_single : (t : Tabled) (j : ℕ) (c : ℤ) → Bounds t → IsOf t j
    → IsVector (last_of t) t.level (single (last_of t) j c)
vector_single t j c b o =
    let least : 1 ≤ t.level = b.least in
    let most : t.level ≤ last_of t = b.most in
    let low : t.level ≤ j = o.low in
    vector_of (last_of t) t.level (single (last_of t) j c) (omega arith)
    (IsAt-single (last_of t) t.level j c (omega arith) low)

-- ---- the variables that are 0
pub holds_above : (t : Tabled) (j m : ℕ) → IsOf t m → j < m → holds (cleared t j) m ≡ true
holds_above t j m o l =
    holds-append_left (xs_above t j) (other_ys t j) m
    (holds-numbers (suc j) (suc (last_of t) - suc j) m l (omega (arith, o.high)))

pub holds_up_to : (t : Tabled) (j m : ℕ) → Bounds t → IsOf t m → m ≤ j → holds (cleared t j) m ≡ false
holds_up_to t j m b o l =
    let last : last_of t ≤ 48 = b.last in
    let high : m ≤ last_of t = o.high in
    holds-append_right (xs_above t j) (other_ys t j) m
    (holds-numbers_outside (suc j) (suc (last_of t) - suc j) m (λ k low up e. omega arith))
    ∙ holds-others_not j t.level (suc (last_of t) - t.level) m (λ k n e. omega arith)

above_not_y : (t : Tabled) (j m : ℕ) → Bounds t → holds (xs_above t j) (y_of m) ≡ false
above_not_y t j m b =
    let last : last_of t ≤ 48 = b.last in
    holds-numbers_outside (suc j) (suc (last_of t) - suc j) (y_of m) (λ k low up e. omega arith)

pub holds_other_y : (t : Tabled) (j m : ℕ) → Bounds t → IsOf t m → m ≢ j
    → holds (cleared t j) (y_of m) ≡ true
holds_other_y t j m b o n =
    holds-append_right (xs_above t j) (other_ys t j) (y_of m) (above_not_y t j m b)
    ∙ holds-others j t.level (suc (last_of t) - t.level) m o.low (omega (arith, o.low, o.high)) n

pub holds_own_y : (t : Tabled) (j : ℕ) → Bounds t → holds (cleared t j) (y_of j) ≡ false
holds_own_y t j b =
    holds-append_right (xs_above t j) (other_ys t j) (y_of j) (above_not_y t j j b)
    ∙ holds-others_not j t.level (suc (last_of t) - t.level) (y_of j) (λ k n e. n (omega arith))

-- ---- the left side
agree_last : (t : Tabled) (j : ℕ) (c : ℤ) (x : List ℤ) → Bounds t → IsOf t j → IsZeroAbove j x
    → AgreeOn t (zeroed (cleared t j)
    (replaced (by_number (y_of j) c) (point_of x (single (last_of t) j c))))
    (point_of x (single (last_of t) j c))
agree_last t j c x b o z =
    let e = single (last_of t) j c in
    let a = point_of x e in
    let r = replaced (by_number (y_of j) c) a in
    let least : 1 ≤ t.level = b.least in
    let last : last_of t ≤ 48 = b.last in
    let low : t.level ≤ j = o.low in
    record {
      x = λ m q. elim (cases_lt j m) [
        | inl l ↦ zeroed_listed (cleared t j) r m (holds_above t j m q l)
            ∙ sym (point-x t x e m b q ∙ z m l)
        | inr g ↦ zeroed_other (cleared t j) r m (holds_up_to t j m b q g)
            ∙ replaced_there (y_of j) m c a (λ d. omega (arith, q.high))
      ];
      y = λ m q. elim (eqb_tells m j) [
        | inl same ↦
            subst (λ (k : ℕ). zeroed (cleared t j) r (y_of k) ≡ a (y_of k)) (sym same.1)
            (zeroed_other (cleared t j) r (y_of j) (holds_own_y t j b)
            ∙ replaced_here (y_of j) c a
            ∙ sym (point-y x e j ∙ entry-single_same (last_of t) j c (omega arith) o.high))
        | inr other ↦
            zeroed_listed (cleared t j) r (y_of m) (holds_other_y t j m b q other.1)
            ∙ sym (point-y x e m
            ∙ entry-single_other (last_of t) j m c (omega arith) (omega (arith, q.low)) other.1)
      ];
    }

-- ---- the right side
pub last_added_before : (j k : ℕ) (c : ℤ) → k < j → last_added j c k ≡ var_terms k
last_added_before j k c l =
    ap (λ (b : Bool). cond b (var_terms k)
    (if k == j then sum_of (var_terms k) (constant_terms c) else [])) (lt-ltb k j l)

last_added_not_before : (j k : ℕ) (c : ℤ) → j ≤ k
    → last_added j c k ≡ (if k == j then sum_of (var_terms k) (constant_terms c) else [])
last_added_not_before j k c g =
    ap (λ (b : Bool). cond b (var_terms k)
    (if k == j then sum_of (var_terms k) (constant_terms c) else [])) (le-ltb k j g)

pub last_added_here : (j k : ℕ) (c : ℤ) → j ≤ k → k ≡ j
    → last_added j c k ≡ sum_of (var_terms k) (constant_terms c)
last_added_here j k c g d =
    last_added_not_before j k c g
    ∙ ap (λ (b : Bool). cond b (sum_of (var_terms k) (constant_terms c)) []) (eq-eqb k j d)

pub last_added_after : (j k : ℕ) (c : ℤ) → j ≤ k → k ≢ j → last_added j c k ≡ []
last_added_after j k c g n =
    last_added_not_before j k c g
    ∙ ap (λ (b : Bool). cond b (sum_of (var_terms k) (constant_terms c)) []) (ne_eqb k j n)

pub value-last_added : (j k : ℕ) (c : ℤ) (a : ℕ → ℤ) (x : List ℤ) → 1 ≤ j → 1 ≤ k → j ≤ length x
    → (k ≤ j → a k ≡ entry x k) → IsZeroAbove j x
    → value_of a (last_added j c k) ≡ entry (added x j c) k
unfolding value_of
value-last_added j k c a x low lower high e z =
    elim (cases_lt k j) [
      | inl l ↦
          ap (value_of a) (last_added_before j k c l)
          ∙ value-var_terms a k ∙ e (omega arith)
          ∙ sym (entry-added_other x j k c low lower (λ d. omega arith))
      | inr g ↦ (elim (eqb_tells k j) [
        | inl same ↦
            ap (value_of a) (last_added_here j k c g same.1) ∙ value-sum_of a (var_terms k) (constant_terms c)
            ∙ ap (λ y. y +ℤ value_of a (constant_terms c)) (value-var_terms a k ∙ e (omega (arith, same.1)))
            ∙ ap (λ y. entry x k +ℤ y) (value-constant_terms a c)
            ∙ subst (λ (m : ℕ). entry x m +ℤ c ≡ entry (added x j c) m) (sym same.1)
            (sym (entry-added_same x j c low high))
        | inr other ↦
            (let n : k ≢ j = other.1 in
            ap (value_of a) (last_added_after j k c g n)
            ∙ sym (entry-added_other x j k c low lower n ∙ z k (omega arith)))
      ])
    ]

pub last_is_added : (t : Tabled) (j : ℕ) (c : ℤ) → IsTabled t → IsOf t j → IsUnit c
    → ((k : ℕ) → IsOf t k → ¬ LastStepOverflows t j c k)
    → ((k : ℕ) → IsOf t k → last_step t j c k ≡ last_added j c k)
    → (x : List ℤ) → IsVector (last_of t) t.level x → IsZeroAbove j x
    → values t x (single (last_of t) j c) ≡ added x j c
last_is_added t j c h o u n s x hx z =
    let b = bounds_of t h in
    let e = single (last_of t) j c in
    let a = point_of x e in
    let at : IsAt (last_of t) t.level x = at_of (last_of t) t.level x hx in
    let least : 1 ≤ t.level = b.least in
    let low : t.level ≤ j = o.low in
    values_are t x e (added x j c) h hx (vector_single t j c b o)
    (IsAt-added (last_of t) t.level x j c at (omega arith) low)
    (λ k q.
    sym ((is_step t k (cleared t j) (y_of j) c h q u (n k q)).value a a (agree_last t j c x b o z))
    ∙ ap (value_of a) (s k q)
    ∙ value-last_added j k c a x (omega arith) (omega (arith, q.low)) (omega (arith, at.size, o.high))
    (λ l. point-x t x e k b q) z)
