-- Where each term but x_k and y_k crosses, a table's values make a candidate: nothing is changed by
-- 0, and a last generator is added.
--   t table · k m j generators · b point · x y vectors · p polynomial
use Rattle.std.proofs.Common.{◌≡◌, ◌≢◌, ℕ, ◌<◌, ◌≤◌, List, [], ◌∷◌, sym, ap, ◌∙◌, subst, arith, inl, inr}
use Rattle.std.specs.Prelude.{All, ◌⊎◌}
use Rattle.std.proofs.lemmas.Bool.{cases_lt}
use Rattle.std.proofs.lemmas.Bool.Decides.{eqb_tells}
use Rattle.std.proofs.lemmas.Int.{ints}
use Rattle.std.proofs.lemmas.List.Elements.{All-head, All-tail}
use lib.IntN.{ℤ, pos, ◌+ℤ◌, ◌*ℤ◌, *ℤ-zero}
use Rattle.nil_word.specs.Words.{IsVector}
use Rattle.nil_word.specs.Exponents.{entry}
use Rattle.hall_law.specs.Table.{zeros, added, single, IsZeroAbove}
use Rattle.hall_law.specs.Shape.{cut}
use Rattle.hall_law.specs.Nucleus.{IsCandidate}
use Rattle.hall_law.proofs.Cutting.{entry-cut_below, entry-cut_above}
use Rattle.hall_law.proofs.Vectors.{IsAt, at_of, IsAt-added, entry-zeros, entry-added_same, entry-added_other}
use Rattle.binom_poly.specs.declared.term.Term.{Term}
use Rattle.binom_poly.specs.Polynomial.{monomial_value, value_of}
use Rattle.hall_table.specs.Tabled.{Tabled, IsTabled, last_of, poly_at}
use Rattle.hall_table.specs.Values.{point_of, values}
use Rattle.hall_table.proofs.Covering.{poly_lower}
use Rattle.hall_table.proofs.Entries.{IsShaped-values}
use Rattle.identity_check.specs.Crossing.{AllCross}
use Rattle.identity_check.proofs.Agreeing.{Bounds, bounds_of, IsOf, form_at, all_terms, point-x, point-y, entry-single_same, entry-single_other, at-values, entry_is, same_from}
use Rattle.identity_check.proofs.UnitConditions.{vector_zeros}
use Rattle.identity_check.proofs.OrderConditions.{vector_single}
use Rattle.identity_check.proofs.Vanishing.{PassesNone, crossing_none}

-- ---- vectors of which the second has at most a last generator
pub record IsLast (t : Tabled) (j : ℕ) (x y : List ℤ) : Type 0 where
  pub last : (entry y j ≡ pos 0) ⊎ (entry y j ≡ pos 1)
  pub others : (m : ℕ) → IsOf t m → m ≢ j → entry y m ≡ pos 0
  pub above : (m : ℕ) → IsOf t m → j < m → entry x m ≡ pos 0

-- where an entry has a property that 0 has too, it has it cut off
entry_cut : (P : ℤ → Type 0) (n k m : ℕ) (x : List ℤ) → 1 ≤ m → m ≤ n → P (pos 0) → P (entry x m)
    → P (entry (cut n k x) m)
entry_cut P n k m x low high none h =
    elim (cases_lt m k) [
      | inl l ↦ subst P (sym (entry-cut_below n k x m low high l)) h
      | inr g ↦ subst P (sym (entry-cut_above n k x m low high g)) none
    ]

passes_none : (t : Tabled) (k j : ℕ) (x y : List ℤ) → Bounds t → IsOf t k → IsOf t j
    → IsLast t j x y
    → PassesNone t k j (point_of (cut (last_of t) k x) (cut (last_of t) k y))
passes_none t k j x y b o oj s =
    let n = last_of t in
    let u = cut n k x in
    let v = cut n k y in
    let least : 1 ≤ t.level = b.least in
    let first : (m : ℕ) → IsOf t m → 1 ≤ m = λ m q. omega (arith, q.low) in
    let Small : ℤ → Type 0 = λ z. (z ≡ pos 0) ⊎ (z ≡ pos 1) in
    record {
      own_x = point-x t u v k b o ∙ entry-cut_above n k x k (first k o) o.high (omega arith);
      own_y = point-y u v k ∙ entry-cut_above n k y k (first k o) o.high (omega arith);
      last = subst Small (sym (point-y u v j))
          (entry_cut Small n k j y (first j oj) oj.high (inl (λ i. pos 0)) s.last);
      others = λ m q d. point-y u v m
          ∙ entry_cut (λ z. z ≡ pos 0) n k m y (first m q) q.high (λ i. pos 0) (s.others m q d);
      above = λ m q l. point-x t u v m b q
          ∙ entry_cut (λ z. z ≡ pos 0) n k m x (first m q) q.high (λ i. pos 0) (s.above m q l);
    }

-- ---- values
pub value_none : (a : ℕ → ℤ) (p : List Term) → All (λ u. monomial_value a u.monomial ≡ pos 0) p
    → value_of a p ≡ pos 0
unfolding value_of
value_none a [] h = λ i. pos 0
value_none a (t ∷ ts) h =
    let P : Term → Type 0 = λ u. monomial_value a u.monomial ≡ pos 0 in
    none (t.coefficient *ℤ monomial_value a t.monomial) (value_of a ts)
    (ap (λ z. t.coefficient *ℤ z) (All-head P t ts h) ∙ *ℤ-zero t.coefficient)
    (value_none a ts (All-tail P t ts h))
  where
    none : (u v : ℤ) → u ≡ pos 0 → v ≡ pos 0 → u +ℤ v ≡ pos 0
    none u v e f = omega (arith, ints, e, f)

rest_none : (t : Tabled) (k j : ℕ) (b : ℕ → ℤ) → IsTabled t → IsOf t k → AllCross t
    → PassesNone t k j b → value_of b (poly_at t k) ≡ pos 0
rest_none t k j b h o c s =
    let p = poly_at t k in
    value_none b p (λ i d l.
    crossing_none t k j b _ record { var = 0; exp = 0 } (bounds_of t h)
    ((all_terms p (form_at t k h o) i d l).monomial) (poly_lower t k h o.low o.high i d l)
    (c k o.low o.high i d l) s)

-- the entries of a product with a last generator
sum_only : (t : Tabled) (k j : ℕ) (x y : List ℤ) → IsTabled t → IsOf t k → IsOf t j → AllCross t
    → IsVector (last_of t) t.level x → IsVector (last_of t) t.level y → IsLast t j x y
    → entry (values t x y) k ≡ entry x k +ℤ entry y k
sum_only t k j x y h o oj c hx hy s =
    let n = last_of t in
    let u = cut n k x in
    let v = cut n k y in
    (IsShaped-values t h).shape k x y o.low o.high hx hy
    ∙ added_none (entry x k +ℤ entry y k) (entry (values t u v) k)
    (entry_is t u v k h o
    ∙ rest_none t k j (point_of u v) h o c (passes_none t k j x y (bounds_of t h) o oj s))
  where
    added_none : (z w : ℤ) → w ≡ pos 0 → z +ℤ w ≡ z
    added_none z w e = omega (arith, ints, e)

-- ---- the conditions
unit : (t : Tabled) → IsTabled t → AllCross t → (x : List ℤ) → IsVector (last_of t) t.level x
    → values t x (zeros (last_of t)) ≡ x
unit t h c x hx =
    let b = bounds_of t h in
    let n = last_of t in
    let most : t.level ≤ n = b.most in
    let hz = vector_zeros n t.level most in
    let on : IsOf t n = record { low = most; high = omega arith } in
    let last : IsLast t n x (zeros n) = record {
      last = inl (entry-zeros n n);
      others = λ m q d. entry-zeros n m;
      above = λ m q l. absurd (omega (arith, q.high));
    } in
    same_from t (values t x (zeros n)) x
    (at_of n t.level (values t x (zeros n)) (at-values t x (zeros n) h hx hz)) (at_of n t.level x hx)
    (λ k o. sum_only t k n x (zeros n) h o on c hx hz last
    ∙ kept (entry x k) (entry (zeros n) k) (entry-zeros n k))
  where
    kept : (z w : ℤ) → w ≡ pos 0 → z +ℤ w ≡ z
    kept z w e = omega (arith, ints, e)

order : (t : Tabled) (j : ℕ) → IsTabled t → IsOf t j → AllCross t
    → (x : List ℤ) → IsVector (last_of t) t.level x → IsZeroAbove j x
    → values t x (single (last_of t) j (pos 1)) ≡ added x j (pos 1)
order t j h o c x hx z =
    let b = bounds_of t h in
    let n = last_of t in
    let least : 1 ≤ t.level = b.least in
    let low : 1 ≤ j = omega (arith, o.low) in
    let y = single n j (pos 1) in
    let hy = vector_single t j (pos 1) b o in
    let at : IsAt n t.level x = at_of n t.level x hx in
    let other : (m : ℕ) → IsOf t m → m ≢ j → entry y m ≡ pos 0 =
    λ m q d. entry-single_other n j m (pos 1) low (omega (arith, q.low)) d in
    let last : IsLast t j x y = record {
      last = inr (entry-single_same n j (pos 1) low o.high);
      others = other;
      above = λ m q l. z m l;
    } in
    same_from t (values t x y) (added x j (pos 1))
    (at_of n t.level (values t x y) (at-values t x y h hx hy))
    (IsAt-added n t.level x j (pos 1) at low o.low)
    (λ k q. sum_only t k j x y h q o c hx hy last
    ∙ (elim (eqb_tells k j) [
      | inl same ↦
          subst (λ (m : ℕ). entry x m +ℤ entry y m ≡ entry (added x j (pos 1)) m) (sym same.1)
          (ap (λ (w : ℤ). entry x j +ℤ w) (entry-single_same n j (pos 1) low o.high)
          ∙ sym (entry-added_same x j (pos 1) low (omega (arith, at.size, o.high))))
      | inr apart ↦
          kept (entry x k) (entry y k) (other k q apart.1)
          ∙ sym (entry-added_other x j k (pos 1) low (omega (arith, q.low)) apart.1)
    ]))
  where
    kept : (z w : ℤ) → w ≡ pos 0 → z +ℤ w ≡ z
    kept z w e = omega (arith, ints, e)

pub crossing_candidate : (t : Tabled) → IsTabled t → AllCross t
    → IsCandidate (last_of t) t.level (values t)
crossing_candidate t h c =
    let b = bounds_of t h in
    record {
      least = b.least;
      most = b.most;
      closed = λ x y hx hy. at-values t x y h hx hy;
      shaped = IsShaped-values t h;
      unit = λ x hx. unit t h c x hx;
      order = λ m x low high hx z. order t m h record { low = low; high = high } c x hx z;
    }
