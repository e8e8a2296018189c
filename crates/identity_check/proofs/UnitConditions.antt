-- The unit conditions, by the unit identities.
--   t table · k m generators · x y vectors
use Rattle.std.proofs.Common.{◌≡◌, ℕ, suc, ◌-◌, ◌≤◌, List, sym, ap, ◌∙◌, arith}
use lib.IntN.{ℤ}
use Rattle.nil_word.specs.Words.{IsVector}
use Rattle.hall_law.specs.Table.{zeros}
use Rattle.hall_law.proofs.Vectors.{at_of, vector_of, entry-zeros, IsAt-zeros}
use Rattle.binom_poly.specs.Variable.{y_of}
use Rattle.binom_poly.specs.Polynomial.{value_of}
use Rattle.binom_poly.specs.Collected.{var_terms}
use Rattle.binom_poly.proofs.Canonical.{value-var_terms}
use Rattle.poly_subst.specs.Renaming.{without, zeroed}
use Rattle.hall_table.specs.Tabled.{Tabled, IsTabled, last_of, poly_at}
use Rattle.hall_table.specs.Values.{point_of, values}
use Rattle.identity_check.specs.Sides.{xs, ys}
use Rattle.identity_check.proofs.Holding.{zeroed_listed, zeroed_other, holds-numbers, holds-numbers_outside, holds-ys, holds-ys_x}
use Rattle.identity_check.proofs.Agreeing.{Bounds, bounds_of, IsOf, AgreeOn, value-without_at, point-x, point-y, values_are}

pub vector_zeros : (n level : ℕ) → level ≤ n → IsVector n level (zeros n)
vector_zeros n level l = vector_of n level (zeros n) (omega arith) (IsAt-zeros n level)

agree_right : (t : Tabled) (x : List ℤ) → Bounds t
    → AgreeOn t (zeroed (ys t) (point_of x (zeros (last_of t)))) (point_of x (zeros (last_of t)))
agree_right t x b =
    let a = point_of x (zeros (last_of t)) in
    let last : last_of t ≤ 48 = b.last in
    record {
      x = λ m o. zeroed_other (ys t) a m
          (holds-ys_x t.level (suc (last_of t) - t.level) m (omega (arith, o.high)));
      y = λ m o.
          zeroed_listed (ys t) a (y_of m)
          (holds-ys t.level (suc (last_of t) - t.level) m o.low (omega (arith, o.low, o.high)))
          ∙ sym (point-y x (zeros (last_of t)) m ∙ entry-zeros (last_of t) m);
    }

pub unit_right : (t : Tabled) → IsTabled t
    → ((k : ℕ) → IsOf t k → without (ys t) (poly_at t k) ≡ var_terms k)
    → (x : List ℤ) → IsVector (last_of t) t.level x → values t x (zeros (last_of t)) ≡ x
unit_right t h s x hx =
    let b = bounds_of t h in
    let a = point_of x (zeros (last_of t)) in
    values_are t x (zeros (last_of t)) x h hx (vector_zeros (last_of t) t.level b.most)
    (at_of (last_of t) t.level x hx)
    (λ k o. sym (value-without_at t k (ys t) a a h o (agree_right t x b)) ∙ ap (value_of a) (s k o)
    ∙ value-var_terms a k ∙ point-x t x (zeros (last_of t)) k b o)

agree_left : (t : Tabled) (y : List ℤ) → Bounds t
    → AgreeOn t (zeroed (xs t) (point_of (zeros (last_of t)) y)) (point_of (zeros (last_of t)) y)
agree_left t y b =
    let a = point_of (zeros (last_of t)) y in
    let last : last_of t ≤ 48 = b.last in
    record {
      x = λ m o.
          zeroed_listed (xs t) a m
          (holds-numbers t.level (suc (last_of t) - t.level) m o.low (omega (arith, o.low, o.high)))
          ∙ sym (point-x t (zeros (last_of t)) y m b o ∙ entry-zeros (last_of t) m);
      y = λ m o. zeroed_other (xs t) a (y_of m)
          (holds-numbers_outside t.level (suc (last_of t) - t.level) (y_of m)
          (λ k low high e. omega arith));
    }

pub unit_left : (t : Tabled) → IsTabled t
    → ((k : ℕ) → IsOf t k → without (xs t) (poly_at t k) ≡ var_terms (y_of k))
    → (y : List ℤ) → IsVector (last_of t) t.level y → values t (zeros (last_of t)) y ≡ y
unit_left t h s y hy =
    let b = bounds_of t h in
    let a = point_of (zeros (last_of t)) y in
    values_are t (zeros (last_of t)) y y h (vector_zeros (last_of t) t.level b.most) hy
    (at_of (last_of t) t.level y hy)
    (λ k o. sym (value-without_at t k (xs t) a a h o (agree_left t y b)) ∙ ap (value_of a) (s k o)
    ∙ value-var_terms a (y_of k) ∙ point-y (zeros (last_of t)) y k)
