-- Rows after a value is put, and values at equal points.
--   v u variables · x number · t table · a b points · m monomial · p polynomial
use Rattle.std.proofs.Common.{◌≡◌, ◌≢◌, ℕ, ◌+◌, ◌<◌, ◌≤◌, List, [], ◌∷◌, refl, sym, ap, ◌∙◌, subst, arith, inl, inr, eqb, get_or-set_same, get_or-set_other}
use Rattle.std.specs.Prelude.{All, unsigned_abs}
use Rattle.std.proofs.lemmas.Bool.{cases_Bool, eqb-true, false≢true, eq-eqb}
use Rattle.std.proofs.lemmas.List.Elements.{All-head, All-tail}
use lib.IntN.{ℤ, pos, ◌+ℤ◌, ◌*ℤ◌}
use borrow.Author.Differences.{ints}
use Rattle.nil_num.specs.Bound.{Fits, IsNumber}
use Rattle.integer.specs.Binomial.{choose}
use Rattle.binom_poly.specs.declared.part.Part.{Part}
use Rattle.binom_poly.specs.declared.term.Term.{Term}
use Rattle.binom_poly.specs.Polynomial.{monomial_value, value_of}
use Rattle.binom_poly.specs.Reading.{Reading}
use Rattle.binom_poly.specs.Readings.{reading_at, value_at, width_at, with_value, magnitude_of}
use Rattle.binom_poly.proofs.Evaluating.{width_within}
use Rattle.hall_table.specs.Tabled.{Tabled}
use Rattle.hall_table.specs.Width.{HasRows}

pub reading-same : (rows : List Reading) (v : ℕ) (x : ℤ) → 0 < width_at rows v
    → reading_at (with_value rows v x) v ≡ record { value = x; width = width_at rows v }
reading-same rows v x h = get_or-set_same rows v record { value = x; width = width_at rows v } record { value = pos 0; width = 0 } (width_within rows v h)

pub reading-other : (rows : List Reading) (v u : ℕ) (x : ℤ) → u ≢ v → reading_at (with_value rows v x) u ≡ reading_at rows u
reading-other rows v u x h = get_or-set_other rows v u record { value = x; width = width_at rows v } record { value = pos 0; width = 0 } h

width-with_value : (rows : List Reading) (v u : ℕ) (x : ℤ) → 0 < width_at rows v → width_at (with_value rows v x) u ≡ width_at rows u
width-with_value rows v u x h =
    elim (cases_Bool (eqb u v)) [
      | inl b ↦
          subst (λ (w : ℕ). width_at (with_value rows v x) w ≡ width_at rows w) (sym (eqb-true u v b))
          (ap (λ (r : Reading). r.width) (reading-same rows v x h))
      | inr b ↦ ap (λ (r : Reading). r.width) (reading-other rows v u x (λ e. false≢true (sym b ∙ eq-eqb u v e)))
    ]

pub HasRows-with_value : (t : Tabled) (rows new : List Reading) (v : ℕ) (x : ℤ) → 0 < width_at rows v
    → new ≡ with_value rows v x → HasRows t rows → HasRows t new
HasRows-with_value t rows new v x h e r = record {
  width = λ u. ap (λ rs. width_at rs u) e ∙ width-with_value rows v u x h ∙ r.width u;
}

pub value-same : (rows new : List Reading) (v : ℕ) (x : ℤ) → 0 < width_at rows v → new ≡ with_value rows v x → value_at new v ≡ x
value-same rows new v x h e = ap (λ rs. value_at rs v) e ∙ ap (λ (r : Reading). r.value) (reading-same rows v x h)

pub value-other : (rows new : List Reading) (v u : ℕ) (x : ℤ) → u ≢ v → new ≡ with_value rows v x → value_at new u ≡ value_at rows u
value-other rows new v u x h e = ap (λ rs. value_at rs u) e ∙ ap (λ (r : Reading). r.value) (reading-other rows v u x h)

-- ---- points that agree
abbrev pub Agree : (ℕ → ℤ) → (ℕ → ℤ) → List Part → Type 0
Agree a b m = All (λ q. a q.var ≡ b q.var) m

pub monomial-agree : (a b : ℕ → ℤ) (m : List Part) → Agree a b m → monomial_value a m ≡ monomial_value b m
unfolding monomial_value
monomial-agree a b [] h = refl
monomial-agree a b (q ∷ m) h =
    let P : Part → Type 0 = λ r. a r.var ≡ b r.var in
    ap (λ z. choose z q.exp *ℤ monomial_value a m) (All-head P q m h)
    ∙ ap (λ z. choose (b q.var) q.exp *ℤ z) (monomial-agree a b m (All-tail P q m h))

pub value-agree : (a b : ℕ → ℤ) (p : List Term) → All (λ t. Agree a b t.monomial) p → value_of a p ≡ value_of b p
unfolding value_of
value-agree a b [] h = refl
value-agree a b (t ∷ p) h =
    let P : Term → Type 0 = λ u. Agree a b u.monomial in
    ap (λ z. t.coefficient *ℤ z +ℤ value_of a p) (monomial-agree a b t.monomial (All-head P t p h))
    ∙ ap (λ z. t.coefficient *ℤ monomial_value b t.monomial +ℤ z) (value-agree a b p (All-tail P t p h))

pub magnitude-agree : (a b : ℕ → ℤ) (p : List Term) → All (λ t. Agree a b t.monomial) p → magnitude_of a p ≡ magnitude_of b p
unfolding magnitude_of
magnitude-agree a b [] h = refl
magnitude-agree a b (t ∷ p) h =
    let P : Term → Type 0 = λ u. Agree a b u.monomial in
    ap (λ z. unsigned_abs (t.coefficient *ℤ z) + magnitude_of a p) (monomial-agree a b t.monomial (All-head P t p h))
    ∙ ap (λ n. unsigned_abs (t.coefficient *ℤ monomial_value b t.monomial) + n) (magnitude-agree a b p (All-tail P t p h))

-- ---- magnitudes
abs_sum : (x y : ℤ) → unsigned_abs (x +ℤ y) ≤ unsigned_abs x + unsigned_abs y
abs_sum x y = omega (arith, ints)

pub value-within : (a : ℕ → ℤ) (p : List Term) → unsigned_abs (value_of a p) ≤ magnitude_of a p
unfolding value_of magnitude_of
value-within a [] = omega arith
value-within a (t ∷ p) =
    let s = abs_sum (t.coefficient *ℤ monomial_value a t.monomial) (value_of a p) in
    omega (arith, value-within a p)

pub entry_within : (a : ℕ → ℤ) (p : List Term) (v w : ℤ) → v ≡ w → w ≡ value_of a p → Fits (magnitude_of a p) → IsNumber v
entry_within a p v w e f h =
    subst IsNumber (sym (e ∙ f)) (omega (arith, value-within a p))
