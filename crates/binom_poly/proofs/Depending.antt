-- The variables of the monomials, known from the values: the terms in tested variables alone have the values at the points
-- that are 0 at each other variable, so where these are the values at all points, they are all terms
use Rattle.std.proofs.Common.{◌≡◌, ◌≢◌, ℕ, Bool, true, false, cond, ◌&&◌, ◌==◌, List, [], ◌∷◌, refl, sym, ap, ◌∙◌, subst, arith, inl, inr}
use Rattle.std.specs.Prelude.{All, IsTrue}
use Rattle.std.specs.Cmp.{first_so, second_so}
use Rattle.std.proofs.lemmas.Bool.{cases_Bool, false≢true, ne_eqb}
use Rattle.std.proofs.lemmas.List.Elements.{All-cons, All-tail, All-head, All-nil}
use lib.IntN.{ℤ, pos, ◌+ℤ◌, ◌*ℤ◌, zero-*ℤ, *ℤ-zero, +ℤ_idl}
use Rattle.integer.specs.Binomial.{choose}
use Rattle.integer.proofs.Binomial.{choose_past}
use Rattle.binom_poly.specs.declared.part.Part.{Part}
use Rattle.binom_poly.specs.declared.term.Term.{Term}
use Rattle.binom_poly.specs.Monomial.{IsMonomialAbove, exponent_of, monomial_cmp_total}
use Rattle.binom_poly.specs.Polynomial.{monomial_value, value_of, IsPolynomial, IsPolynomialFrom}
use Rattle.binom_poly.specs.Sums.{AllMonomials}
use Rattle.binom_poly.specs.Dependence.{Agree, DependsOnly, HasOnly}
use Rattle.binom_poly.proofs.Unique.{unique_form, rest_is}
use Rattle.binom_poly.proofs.Canonical.{all_monomials}

-- whether each part has a variable with the test
abbrev pub has_only : (ℕ → Bool) → List Part → Bool
has_only test [] = true
has_only test (q ∷ qs) = test q.var && has_only test qs

-- the terms in variables with the test
unfoldable pub only : (ℕ → Bool) → List Term → List Term
only test [] = []
only test (t ∷ ts) = cond (has_only test t.monomial) (t ∷ only test ts) (only test ts)

-- the point with 0 at each variable without the test
abbrev pub masked : (ℕ → Bool) → (ℕ → ℤ) → ℕ → ℤ
masked test a v = cond (test v) (a v) (pos 0)

pub masked_there : (test : ℕ → Bool) (a : ℕ → ℤ) (v : ℕ) → test v ≡ true → masked test a v ≡ a v
masked_there test a v h = rw h refl

pub masked_elsewhere : (test : ℕ → Bool) (a : ℕ → ℤ) (v : ℕ) → test v ≡ false → masked test a v ≡ pos 0
masked_elsewhere test a v h = rw h refl

-- ---- values
value_kept : (test : ℕ → Bool) (a : ℕ → ℤ) (ms : List Part) → has_only test ms ≡ true
    → monomial_value (masked test a) ms ≡ monomial_value a ms
unfolding monomial_value
value_kept test a [] h = refl
value_kept test a (p ∷ ps) h =
    ap (λ z. choose z p.exp *ℤ monomial_value (masked test a) ps) (masked_there test a p.var (first_so (test p.var) (has_only test ps) h))
    ∙ ap (λ z. choose (a p.var) p.exp *ℤ z) (value_kept test a ps (second_so (test p.var) (has_only test ps) h))

value_dropped : (test : ℕ → Bool) (a : ℕ → ℤ) (low : ℕ) (ms : List Part) → IsMonomialAbove low ms
    → has_only test ms ≡ false → monomial_value (masked test a) ms ≡ pos 0
unfolding monomial_value IsMonomialAbove
value_dropped test a low [] f h = absurd (false≢true (sym h))
value_dropped test a low (p ∷ ps) f h =
    elim (cases_Bool (test p.var)) [
      | inl e ↦
          ap (λ z. choose (masked test a p.var) p.exp *ℤ z)
          (value_dropped test a p.var ps f.4 (sym (ap (λ (b : Bool). b && has_only test ps) e) ∙ h))
          ∙ *ℤ-zero (choose (masked test a p.var) p.exp)
      | inr e ↦
          ap (λ z. choose z p.exp *ℤ monomial_value (masked test a) ps) (masked_elsewhere test a p.var e)
          ∙ ap (λ z. z *ℤ monomial_value (masked test a) ps) (choose_past 0 p.exp (omega (arith, f.2)))
          ∙ zero-*ℤ (monomial_value (masked test a) ps)
    ]

pub only_kept : (test : ℕ → Bool) (t : Term) (ts : List Term) → has_only test t.monomial ≡ true
    → only test (t ∷ ts) ≡ t ∷ only test ts
unfolding only
only_kept test t ts h = rw h refl

pub only_dropped : (test : ℕ → Bool) (t : Term) (ts : List Term) → has_only test t.monomial ≡ false
    → only test (t ∷ ts) ≡ only test ts
unfolding only
only_dropped test t ts h = rw h refl

pub value-only : (test : ℕ → Bool) (a : ℕ → ℤ) (ts : List Term) → AllMonomials ts
    → value_of a (only test ts) ≡ value_of (masked test a) ts
unfolding value_of only
value-only test a [] f = refl
value-only test a (t ∷ ts) f =
    elim (cases_Bool (has_only test t.monomial)) [
      | inl e ↦
          ap (value_of a) (only_kept test t ts e)
          ∙ ap (λ z. t.coefficient *ℤ monomial_value a t.monomial +ℤ z) (value-only test a ts f.1)
          ∙ ap (λ z. t.coefficient *ℤ z +ℤ value_of (masked test a) ts) (sym (value_kept test a t.monomial e))
      | inr e ↦
          ap (value_of a) (only_dropped test t ts e) ∙ value-only test a ts f.1
          ∙ sym (ap (λ z. t.coefficient *ℤ z +ℤ value_of (masked test a) ts) (value_dropped test a 0 t.monomial f.0 e)
          ∙ ap (λ z. z +ℤ value_of (masked test a) ts) (*ℤ-zero t.coefficient)
          ∙ +ℤ_idl (value_of (masked test a) ts))
    ]

-- ---- form
without_next : (t u : Term) (us : List Term) → IsPolynomialFrom t (u ∷ us) → IsPolynomialFrom t us
unfolding IsPolynomialFrom
without_next t u [] p = p.0
without_next t u (w ∷ ws) p = (p.0, monomial_cmp_total.trans t.monomial u.monomial w.monomial p.1 p.2.1, p.2.2)

polynomial_from-only : (test : ℕ → Bool) (t : Term) (us : List Term) → IsPolynomialFrom t us
    → IsPolynomialFrom t (only test us)
unfolding IsPolynomialFrom only
polynomial_from-only test t [] p = p
polynomial_from-only test t (u ∷ us) p =
    elim (cases_Bool (has_only test u.monomial)) [
      | inl e ↦ subst (IsPolynomialFrom t) (sym (only_kept test u us e)) (p.0, p.1, polynomial_from-only test u us p.2)
      | inr e ↦ subst (IsPolynomialFrom t) (sym (only_dropped test u us e)) (polynomial_from-only test t us (without_next t u us p))
    ]

pub polynomial-only : (test : ℕ → Bool) (ts : List Term) → IsPolynomial ts → IsPolynomial (only test ts)
unfolding IsPolynomial only
polynomial-only test [] p = tt
polynomial-only test (t ∷ ts) p =
    elim (cases_Bool (has_only test t.monomial)) [
      | inl e ↦ subst IsPolynomial (sym (only_kept test t ts e)) (polynomial_from-only test t ts p)
      | inr e ↦ subst IsPolynomial (sym (only_dropped test t ts e)) (polynomial-only test ts (rest_is t ts p))
    ]

-- ---- the terms that are left
has_only_so : (test : ℕ → Bool) (ms : List Part) → has_only test ms ≡ true → HasOnly test ms
has_only_so test [] h = All-nil (λ (q : Part). IsTrue (test q.var))
has_only_so test (q ∷ qs) h =
    All-cons (λ (r : Part). IsTrue (test r.var)) q qs (first_so (test q.var) (has_only test qs) h)
    (has_only_so test qs (second_so (test q.var) (has_only test qs) h))

pub all-only : (test : ℕ → Bool) (ts : List Term) → All (λ t. HasOnly test t.monomial) (only test ts)
unfolding only
all-only test [] = All-nil (λ (t : Term). HasOnly test t.monomial)
all-only test (t ∷ ts) =
    elim (cases_Bool (has_only test t.monomial)) [
      | inl e ↦
          subst (All (λ (u : Term). HasOnly test u.monomial)) (sym (only_kept test t ts e))
          (All-cons (λ (u : Term). HasOnly test u.monomial) t (only test ts) (has_only_so test t.monomial e) (all-only test ts))
      | inr e ↦ subst (All (λ (u : Term). HasOnly test u.monomial)) (sym (only_dropped test t ts e)) (all-only test ts)
    ]

only-polynomial : (test : ℕ → Bool) (p : List Term) → IsPolynomial p → DependsOnly test (λ a. value_of a p) → only test p ≡ p
only-polynomial test p h d =
    unique_form (only test p) p (polynomial-only test p h) h
    (λ a. value-only test a p (all_monomials p h) ∙ d (masked test a) a (masked_there test a))

-- where the values depend only on variables with the test, no other stands in a monomial
pub variables_tested : (test : ℕ → Bool) (p : List Term) → IsPolynomial p → DependsOnly test (λ a. value_of a p)
    → All (λ t. HasOnly test t.monomial) p
variables_tested test p h d = subst (All (λ (t : Term). HasOnly test t.monomial)) (only-polynomial test p h d) (all-only test p)

-- ---- one variable
abbrev pub other_than : ℕ → ℕ → Bool
other_than v w = cond (w == v) false true

pub is_other : (v w : ℕ) → w ≢ v → other_than v w ≡ true
is_other v w h = rw (ne_eqb w v h) refl

not_other : (b : Bool) → cond b false true ≡ true → b ≡ false
not_other true h = absurd (false≢true h)
not_other false h = refl

exponent_of-absent : (v : ℕ) (ms : List Part) → HasOnly (other_than v) ms → exponent_of ms v ≡ 0
unfolding exponent_of
exponent_of-absent v [] h = refl
exponent_of-absent v (q ∷ qs) h =
    rw (not_other (q.var == v) (All-head (λ (r : Part). IsTrue (other_than v r.var)) q qs h))
    (exponent_of-absent v qs (All-tail (λ (r : Part). IsTrue (other_than v r.var)) q qs h))

tested_other : (v : ℕ) (a b : ℕ → ℤ) → Agree (other_than v) a b → (w : ℕ) → w ≢ v → a w ≡ b w
tested_other v a b h w d = h w (is_other v w d)

-- a variable on which the values don't depend stands in no monomial
pub variable_absent : (v : ℕ) (p : List Term) → IsPolynomial p
    → ((a b : ℕ → ℤ) → ((w : ℕ) → w ≢ v → a w ≡ b w) → value_of a p ≡ value_of b p)
    → All (λ t. exponent_of t.monomial v ≡ 0) p
variable_absent v p h d =
    let f = variables_tested (other_than v) p h (λ a b e. d a b (tested_other v a b e)) in
    λ k t l. exponent_of-absent v _ (f k t l)
