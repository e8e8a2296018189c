-- A monomial that crosses is 0 where a last generator, or 0, is multiplied on.
--   t table · k m j generators · v w variables · b point · i h places · ms monomial
use Rattle.std.proofs.Common.{◌≡◌, ◌≢◌, ℕ, zero, suc, ◌+◌, ◌-◌, ◌<◌, ◌≤◌, true, List, [], ◌∷◌, length, slice_index_or, ap, ◌∙◌, subst, arith, inl, inr}
use Rattle.std.specs.Prelude.{All, ◌⊎◌}
use Rattle.std.proofs.lemmas.Bool.{cases_lt}
use Rattle.std.proofs.lemmas.Bool.Decides.{eqb_tells}
use Rattle.std.proofs.lemmas.List.Elements.{All-nil, All-cons}
use lib.IntN.{ℤ, pos, ◌*ℤ◌, zero-*ℤ, *ℤ-zero}
use Rattle.integer.specs.Binomial.{choose}
use Rattle.integer.proofs.Binomial.{choose_past}
use Rattle.binom_poly.specs.declared.part.Part.{Part}
use Rattle.binom_poly.specs.Variable.{y_of}
use Rattle.binom_poly.specs.Monomial.{IsMonomialAbove}
use Rattle.binom_poly.specs.Polynomial.{monomial_value}
use Rattle.hall_table.specs.Shape.{is_lower, AreLower}
use Rattle.hall_table.specs.Tabled.{Tabled, last_of}
use Rattle.hall_table.proofs.Entries.{is_lower-bounds_x, is_lower-bounds_y}
use Rattle.identity_check.specs.Crossing.{Crosses}
use Rattle.identity_check.specs.Crossing.Crosses.{own, often, past}
use Rattle.identity_check.proofs.Agreeing.{Bounds, IsOf}

-- ---- a part that is 0
pub part_none : (z : ℤ) (e : ℕ) → z ≡ pos 0 → 1 ≤ e → choose z e ≡ pos 0
part_none z e h l = ap (λ (w : ℤ). choose w e) h ∙ choose_past 0 e l

pub part_once : (z : ℤ) (e : ℕ) → z ≡ pos 1 → 1 < e → choose z e ≡ pos 0
part_once z e h l = ap (λ (w : ℤ). choose w e) h ∙ choose_past 1 e l

pub monomial_none : (a : ℕ → ℤ) (ms : List Part) (i : ℕ) (d : Part) → i < length ms
    → choose (a ((slice_index_or ms i d).var)) ((slice_index_or ms i d).exp) ≡ pos 0
    → monomial_value a ms ≡ pos 0
unfolding monomial_value
monomial_none a [] i d l e = absurd (omega arith)
monomial_none a (p ∷ ps) zero d l e =
    ap (λ z. z *ℤ monomial_value a ps) e ∙ zero-*ℤ (monomial_value a ps)
monomial_none a (p ∷ ps) (suc i) d l e =
    ap (λ z. choose (a p.var) p.exp *ℤ z) (monomial_none a ps i d (omega arith) e)
    ∙ *ℤ-zero (choose (a p.var) p.exp)

-- ---- the parts of a monomial
pub exponents_least : (low : ℕ) (ms : List Part) → IsMonomialAbove low ms → All (λ p. 1 ≤ p.exp) ms
unfolding IsMonomialAbove
exponents_least low [] f = All-nil (λ p. 1 ≤ p.exp)
exponents_least low (p ∷ ps) f =
    All-cons (λ q. 1 ≤ q.exp) p ps f.2 (exponents_least p.var ps f.4)

variables_above : (low : ℕ) (ms : List Part) (i : ℕ) (d : Part) → IsMonomialAbove low ms
    → i < length ms → low < (slice_index_or ms i d).var
unfolding IsMonomialAbove
variables_above low [] i d f l = absurd (omega arith)
variables_above low (p ∷ ps) zero d f l = f.0
variables_above low (p ∷ ps) (suc i) d f l =
    let first : low < p.var = f.0 in
    let later : p.var < (slice_index_or ps i d).var =
    variables_above p.var ps i d f.4 (omega arith) in
    omega arith

pub variables_ascend : (low : ℕ) (ms : List Part) (h i : ℕ) (d : Part) → IsMonomialAbove low ms → h < i
    → i < length ms → (slice_index_or ms h d).var < (slice_index_or ms i d).var
unfolding IsMonomialAbove
variables_ascend low [] h i d f l m = absurd (omega arith)
variables_ascend low (p ∷ ps) h zero d f l m = absurd (omega arith)
variables_ascend low (p ∷ ps) zero (suc i) d f l m = variables_above p.var ps i d f.4 (omega arith)
variables_ascend low (p ∷ ps) (suc h) (suc i) d f l m =
    variables_ascend p.var ps h i d f.4 (omega arith) (omega arith)

-- ---- the point
pub record PassesNone (t : Tabled) (k j : ℕ) (b : ℕ → ℤ) : Type 0 where
  pub own_x : b k ≡ pos 0
  pub own_y : b (y_of k) ≡ pos 0
  pub last : (b (y_of j) ≡ pos 0) ⊎ (b (y_of j) ≡ pos 1)
  pub others : (m : ℕ) → IsOf t m → m ≢ j → b (y_of m) ≡ pos 0
  pub above : (m : ℕ) → IsOf t m → j < m → b m ≡ pos 0

-- of a y but that of j
other_y : (t : Tabled) (k j : ℕ) (b : ℕ → ℤ) (v : ℕ) → Bounds t → PassesNone t k j b
    → is_lower t.level (last_of t + 1) v ≡ true → 64 ≤ v → v ≢ y_of j → b v ≡ pos 0
other_y t k j b v s p low g n =
    let last : last_of t ≤ 48 = s.last in
    let c = is_lower-bounds_y t.level (last_of t + 1) v (omega arith) g low in
    let e : y_of (v - 64) ≡ v = omega arith in
    subst (λ (w : ℕ). b w ≡ pos 0) e
    (p.others (v - 64) record { low = c.0; high = omega (arith, c.1) } (λ d. n (omega arith)))

-- of a variable above x_j but that y
beyond : (t : Tabled) (k j : ℕ) (b : ℕ → ℤ) (v : ℕ) → Bounds t → PassesNone t k j b
    → is_lower t.level (last_of t + 1) v ≡ true → j < v → v ≢ y_of j → b v ≡ pos 0
beyond t k j b v s p low g n =
    let last : last_of t ≤ 48 = s.last in
    elim (cases_lt v 64) [
      | inl l ↦
          (let c = is_lower-bounds_x t.level (last_of t + 1) v (omega arith) l low in
          p.above v record { low = c.0; high = omega (arith, c.1) } g)
      | inr y ↦ other_y t k j b v s p low y n
    ]

-- ---- the monomial
pub crossing_none : (t : Tabled) (k j : ℕ) (b : ℕ → ℤ) (ms : List Part) (d : Part) → Bounds t
    → IsMonomialAbove 0 ms → AreLower t.level (last_of t + 1) ms → Crosses k ms
    → PassesNone t k j b → monomial_value b ms ≡ pos 0
crossing_none t k j b ms d s f low (own i l e) p =
    monomial_none b ms i d l
    (part_none (b ((slice_index_or ms i d).var)) ((slice_index_or ms i d).exp)
    (elim (e d) [
      | inl x ↦ ap b x ∙ p.own_x
      | inr y ↦ ap b y ∙ p.own_y
    ]) (exponents_least 0 ms f i d l))
crossing_none t k j b ms d s f low (often i l e) p =
    let q = slice_index_or ms i d in
    monomial_none b ms i d l
    (elim (eqb_tells q.var (y_of j)) [
      | inl same ↦ (elim p.last [
        | inl z ↦ part_none (b q.var) q.exp (ap b same.1 ∙ z) (exponents_least 0 ms f i d l)
        | inr o ↦ part_once (b q.var) q.exp (ap b same.1 ∙ o) ((e d).1)
      ])
      | inr other ↦
          part_none (b q.var) q.exp (other_y t k j b q.var s p (low i d l) ((e d).0) other.1)
          (exponents_least 0 ms f i d l)
    ])
crossing_none t k j b ms d s f low (past i h before l e) p =
    let q = slice_index_or ms i d in
    let r = slice_index_or ms h d in
    let sooner : r.var < q.var = variables_ascend 0 ms h i d f before l in
    let at : h < length ms = omega arith in
    elim (eqb_tells q.var (y_of j)) [
      | inl same ↦
          (let y : q.var ≡ y_of j = same.1 in
          let lower : q.var - y_of 0 < r.var = (e d).1 in
          monomial_none b ms h d at
          (part_none (b r.var) r.exp
          (beyond t k j b r.var s p (low h d at) (omega arith) (λ c. omega arith))
          (exponents_least 0 ms f h d at)))
      | inr other ↦
          monomial_none b ms i d l
          (part_none (b q.var) q.exp (other_y t k j b q.var s p (low i d l) ((e d).0) other.1)
          (exponents_least 0 ms f i d l))
    ]
