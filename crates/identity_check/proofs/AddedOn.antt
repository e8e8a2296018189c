-- A generator that is added on adds on in the table of the values.
--   t table · k m generators · v variable · a b points · x y vectors · p polynomial
use Rattle.std.proofs.Common.{◌≡◌, ◌≢◌, ℕ, ◌+◌, ◌-◌, ◌<◌, ◌≤◌, true, List, sym, ap, ◌∙◌, subst, arith, inl, inr}
use Rattle.std.specs.Prelude.{◌==◌, not}
use Rattle.std.specs.List.{list_all}
use Rattle.std.proofs.lemmas.Bool.{cases_lt, eq-eqb, false≢true}
use Rattle.std.proofs.lemmas.Bool.Decides.{eqb_tells}
use Rattle.std.proofs.lemmas.Int.{ints}
use Rattle.std.proofs.lemmas.List.Sums.{AllPass-from_list_all}
use lib.IntN.{ℤ, pos, ◌+ℤ◌, ◌-ℤ◌}
use Rattle.nil_word.specs.Words.{IsVector}
use Rattle.nil_word.specs.Exponents.{entry}
use Rattle.hall_law.specs.Table.{added}
use Rattle.hall_law.specs.Shape.{cut}
use Rattle.hall_law.specs.Nucleus.{AddsOn}
use Rattle.hall_law.proofs.Entries.{same_entries}
use Rattle.hall_law.proofs.Cutting.{entry-cut_below, entry-cut_above, length-cut}
use Rattle.hall_law.proofs.Vectors.{IsAt, at_of, vector_of, IsAt-added, entry-added_same, entry-added_other}
use Rattle.binom_poly.specs.declared.part.Part.{Part}
use Rattle.binom_poly.specs.declared.term.Term.{Term}
use Rattle.binom_poly.specs.Variable.{y_of}
use Rattle.binom_poly.specs.Polynomial.{value_of}
use Rattle.hall_table.specs.Shape.{is_lower}
use Rattle.hall_table.specs.Tabled.{Tabled, IsTabled, last_of, poly_at}
use Rattle.hall_table.specs.Values.{point_of, values}
use Rattle.hall_table.proofs.Covering.{poly_lower}
use Rattle.hall_table.proofs.Entries.{IsShaped-values, is_lower-bounds_x, is_lower-bounds_y}
use Rattle.hall_table.proofs.Putting.{value-agree}
use Rattle.identity_check.specs.Adding.{IsAddedOn}
use Rattle.identity_check.proofs.Agreeing.{Bounds, bounds_of, IsOf, point-x, point-y, at-values, entry_is, same_from}

-- ---- one entry more
cut_one_more : (n k m : ℕ) (y : List ℤ) → 1 ≤ m → k ≤ m → cut n k (added y m (pos 1)) ≡ cut n k y
cut_one_more n k m y least low =
    let z = added y m (pos 1) in
    same_entries n (cut n k z) (cut n k y) (length-cut n k z) (length-cut n k y)
    (λ i a b. elim (cases_lt i k) [
      | inl l ↦
          entry-cut_below n k z i a b l ∙ entry-added_other y m i (pos 1) least a (λ e. omega arith)
          ∙ sym (entry-cut_below n k y i a b l)
      | inr g ↦ entry-cut_above n k z i a b g ∙ sym (entry-cut_above n k y i a b g)
    ])

vector_one_more : (t : Tabled) (m : ℕ) (y : List ℤ) → Bounds t → IsOf t m
    → IsVector (last_of t) t.level y → IsVector (last_of t) t.level (added y m (pos 1))
vector_one_more t m y b o hy =
    let least : 1 ≤ t.level = b.least in
    let most : t.level ≤ last_of t = b.most in
    let low : t.level ≤ m = o.low in
    vector_of (last_of t) t.level (added y m (pos 1)) (omega arith)
    (IsAt-added (last_of t) t.level y m (pos 1) (at_of (last_of t) t.level y hy) (omega arith) low)

-- ---- up to the generator, by the shape
entry_up_to : (t : Tabled) (m k : ℕ) (x y : List ℤ) → IsTabled t → IsOf t m → IsOf t k → k ≤ m
    → IsVector (last_of t) t.level x → IsVector (last_of t) t.level y
    → entry (values t x (added y m (pos 1))) k
    ≡ entry (values t x y) k +ℤ (entry (added y m (pos 1)) k -ℤ entry y k)
entry_up_to t m k x y h om ok low hx hy =
    let b = bounds_of t h in
    let least : 1 ≤ t.level = b.least in
    let z = added y m (pos 1) in
    let n = last_of t in
    let s = IsShaped-values t h in
    let rest = entry (values t (cut n k x) (cut n k y)) k in
    s.shape k x z ok.low ok.high hx (vector_one_more t m y b om hy)
    ∙ ap (λ (u : List ℤ). (entry x k +ℤ entry z k) +ℤ entry (values t (cut n k x) u) k)
    (cut_one_more n k m y (omega (arith, om.low)) low)
    ∙ regroup (entry x k) (entry y k) (entry z k) rest
    ∙ ap (λ (e : ℤ). e +ℤ (entry z k -ℤ entry y k)) (sym (s.shape k x y ok.low ok.high hx hy))
  where
    regroup : (u v w r : ℤ) → (u +ℤ w) +ℤ r ≡ ((u +ℤ v) +ℤ r) +ℤ (w -ℤ v)
    regroup u v w r = omega (arith, ints)

-- ---- above it, by its absence
other_variable : (v w : ℕ) → not (v == w) ≡ true → v ≢ w
other_variable v w h e =
    false≢true (sym (ap not (eq-eqb v w e)) ∙ h)

agree_at : (t : Tabled) (m : ℕ) (x y : List ℤ) (v : ℕ) → Bounds t → IsOf t m
    → is_lower t.level (last_of t + 1) v ≡ true → v ≢ y_of m
    → point_of x (added y m (pos 1)) v ≡ point_of x y v
agree_at t m x y v b o low n =
    let z = added y m (pos 1) in
    let last : last_of t ≤ 48 = b.last in
    let least : 1 ≤ t.level = b.least in
    elim (cases_lt v 64) [
      | inl l ↦
          (let c = is_lower-bounds_x t.level (last_of t + 1) v (omega arith) l low in
          let q : IsOf t v = record { low = c.0; high = omega (arith, c.1) } in
          point-x t x z v b q ∙ sym (point-x t x y v b q))
      | inr g ↦
          (let c = is_lower-bounds_y t.level (last_of t + 1) v (omega arith) g low in
          let e : y_of (v - 64) ≡ v = omega arith in
          let other : v - 64 ≢ m = λ d. n (omega arith) in
          subst (λ (w : ℕ). point_of x z w ≡ point_of x y w) e
          (point-y x z (v - 64)
          ∙ entry-added_other y m (v - 64) (pos 1) (omega (arith, o.low)) (omega (arith, c.0)) other
          ∙ sym (point-y x y (v - 64))))
    ]

value_above : (t : Tabled) (m k : ℕ) (x y : List ℤ) → IsTabled t → IsOf t m → IsOf t k → m < k
    → IsAddedOn t m
    → value_of (point_of x (added y m (pos 1))) (poly_at t k) ≡ value_of (point_of x y) (poly_at t k)
value_above t m k x y h om ok above free =
    let z = added y m (pos 1) in
    let p = poly_at t k in
    let absent = AllPass-from_list_all
    (λ (u : Term). list_all (λ (q : Part). not (q.var == y_of m)) u.monomial) p
    (free k above ok.high) in
    let lower = poly_lower t k h ok.low ok.high in
    value-agree (point_of x z) (point_of x y) p
    (λ i d l j e r.
    agree_at t m x y _ (bounds_of t h) om (lower i d l j e r)
    (other_variable _ (y_of m)
    (AllPass-from_list_all (λ (q : Part). not (q.var == y_of m)) _ (absent i d l) j e r)))

-- ---- the generator adds on
pub adds_on : (t : Tabled) (m : ℕ) → IsTabled t → IsOf t m → IsAddedOn t m
    → AddsOn (last_of t) t.level (values t) m
adds_on t m h o free x y hx hy =
    let b = bounds_of t h in
    let n = last_of t in
    let least : 1 ≤ t.level = b.least in
    let low : t.level ≤ m = o.low in
    let z = added y m (pos 1) in
    let hz = vector_one_more t m y b o hy in
    let product : IsAt n t.level (values t x y) =
    at_of n t.level (values t x y) (at-values t x y h hx hy) in
    same_from t (values t x z) (added (values t x y) m (pos 1))
    (at_of n t.level (values t x z) (at-values t x z h hx hz))
    (IsAt-added n t.level (values t x y) m (pos 1) product (omega arith) low)
    (λ k q. elim (cases_lt m k) [
      | inl above ↦
          entry_is t x z k h q ∙ value_above t m k x y h o q above free ∙ sym (entry_is t x y k h q)
          ∙ sym (entry-added_other (values t x y) m k (pos 1) (omega arith) (omega (arith, q.low))
          (λ e. omega arith))
      | inr g ↦
          entry_up_to t m k x y h o q g hx hy
          ∙ (elim (eqb_tells k m) [
            | inl same ↦
                subst (λ (i : ℕ). entry (values t x y) i +ℤ (entry z i -ℤ entry y i)
                ≡ entry (added (values t x y) m (pos 1)) i) (sym same.1)
                (grown (entry (values t x y) m) (entry z m) (entry y m)
                (entry-added_same y m (pos 1) (omega arith)
                (omega (arith, (at_of n t.level y hy).size, o.high)))
                ∙ sym (entry-added_same (values t x y) m (pos 1) (omega arith)
                (omega (arith, product.size, o.high))))
            | inr other ↦
                kept (entry (values t x y) k) (entry z k) (entry y k)
                (entry-added_other y m k (pos 1) (omega arith) (omega (arith, q.low)) other.1)
                ∙ sym (entry-added_other (values t x y) m k (pos 1) (omega arith)
                (omega (arith, q.low)) other.1)
          ])
    ])
  where
    grown : (u w v : ℤ) → w ≡ v +ℤ pos 1 → u +ℤ (w -ℤ v) ≡ u +ℤ pos 1
    grown u w v e = omega (arith, ints, e)

    kept : (u w v : ℤ) → w ≡ v → u +ℤ (w -ℤ v) ≡ u
    kept u w v e = omega (arith, ints, e)
