-- Greatest exponents, and numbers that are raised to them
--   v w variable · ms monomial · t term · ts terms · ps polynomials · i place
use Rattle.std.proofs.Common.{◌≡◌, ℕ, ◌+◌, ◌<◌, ◌≤◌, List, [], ◌∷◌, ◌++◌, length, take, set, get_or, get_or-set_same, get_or-set_other, cond, zero, suc, replicate, ◌≢◌, refl, sym, subst, ap, ◌∙◌, arith, max, inl, inr}
use Rattle.std.specs.Prelude.{◌==◌, All}
use Rattle.std.proofs.Math.Nat.{suc-add}
use Rattle.std.proofs.lemmas.Bool.{cases_order, eq-eqb, ne_eqb}
use Rattle.std.proofs.lemmas.Grind.{take_at_read}
use Rattle.std.proofs.lemmas.List.Elements.{All-head, All-tail}
use Rattle.binom_poly.specs.declared.part.Part.{Part}
use Rattle.binom_poly.specs.declared.term.Term.{Term}
use Rattle.binom_poly.specs.Monomial.{IsMonomial, IsMonomialAbove, exponent_of}
use Rattle.binom_poly.specs.Polynomial.{IsTerm, IsPolynomial}
use Rattle.binom_poly.specs.Exponents.{greatest, greatest_in}
use Rattle.binom_poly.proofs.Sorting.{polynomial_terms}
use Rattle.binom_poly.proofs.Variables.{variable_small}

-- ---- one term or one polynomial more
greatest-append : (v : ℕ) (ts : List Term) (t : Term)
    → greatest v (ts ++ t ∷ []) ≡ max (greatest v ts) (exponent_of t.monomial v)
unfolding greatest
greatest-append v [] t = omega arith
greatest-append v (u ∷ ts) t = omega (arith, greatest-append v ts t)

pub greatest-more : (v : ℕ) (ts : List Term) (i : ℕ) (t : Term) → i < length ts → t ≡ get_or ts i t
    → greatest v (take (i + 1) ts) ≡ max (greatest v (take i ts)) (exponent_of t.monomial v)
greatest-more v ts i t l e =
    ap (greatest v) ((take_at_read ts i t l).1 ∙ ap (λ (u : Term). take i ts ++ u ∷ []) (sym e))
    ∙ greatest-append v (take i ts) t

greatest_in-append : (v : ℕ) (ps : List (List Term)) (p : List Term)
    → greatest_in v (ps ++ p ∷ []) ≡ max (greatest_in v ps) (greatest v p)
unfolding greatest_in
greatest_in-append v [] p = omega arith
greatest_in-append v (q ∷ ps) p = omega (arith, greatest_in-append v ps p)

pub greatest_in-more : (v : ℕ) (ps : List (List Term)) (i : ℕ) (p : List Term) → i < length ps → p ≡ get_or ps i p
    → greatest_in v (take (i + 1) ps) ≡ max (greatest_in v (take i ps)) (greatest v p)
greatest_in-more v ps i p l e =
    ap (greatest_in v) ((take_at_read ps i p l).1 ∙ ap (λ (q : List Term). take i ps ++ q ∷ []) (sym e))
    ∙ greatest_in-append v (take i ps) p

-- numbers that were raised to the terms before are raised to one more
pub raised_more : (v first old new : ℕ) (ts : List Term) (i : ℕ) (t : Term) (ms : List Part) → i < length ts
    → t ≡ get_or ts i t → ms ≡ t.monomial → old ≡ max first (greatest v (take i ts)) → new ≡ max old (exponent_of ms v)
    → new ≡ max first (greatest v (take (i + 1) ts))
raised_more v first old new ts i t ms l e m h n =
    let same : exponent_of ms v ≡ exponent_of t.monomial v = ap (λ (ps : List Part). exponent_of ps v) m in
    omega (arith, greatest-more v ts i t l e, same, h, n)

-- ---- no exponent is above 1000
exponent-small : (low : ℕ) (ms : List Part) (v : ℕ) → IsMonomialAbove low ms → exponent_of ms v ≤ 1000
unfolding IsMonomialAbove exponent_of
exponent-small low [] v f = omega arith
exponent-small low (p ∷ ps) v f =
    elim (cases_order p.var v) [
      | inl e ↦ rw (eq-eqb p.var v e) f.3
      | inr o ↦ rw (ne_eqb p.var v (λ e. elim o [ inl l ↦ omega arith | inr l ↦ omega arith ])) (exponent-small p.var ps v f.4)
    ]

terms-small : (v : ℕ) (ts : List Term) → All IsTerm ts → greatest v ts ≤ 1000
unfolding greatest
terms-small v [] h = omega arith
terms-small v (t ∷ ts) h =
    let here = exponent-small 0 t.monomial v (All-head IsTerm t ts h).monomial in
    let rest = terms-small v ts (All-tail IsTerm t ts h) in
    omega arith

pub greatest-small : (v : ℕ) (p : List Term) → IsPolynomial p → greatest v p ≤ 1000
greatest-small v p f = terms-small v p (polynomial_terms p f)

-- ---- no exponents
pub zeros : (n v : ℕ) → ◌≡◌ {A = ℕ} (get_or (replicate n 0) v 0) 0
zeros zero v = refl
zeros (suc n) zero = refl
zeros (suc n) (suc v) = zeros n v

-- ---- the variables of a monomial
pub own_variable : (low : ℕ) (ms : List Part) (i : ℕ) (p : Part) → IsMonomialAbove low ms → i < length ms → p ≡ get_or ms i p → p.var ≤ 200
unfolding IsMonomialAbove
own_variable low [] i p f l e = absurd (omega arith)
own_variable low (q ∷ qs) zero p f l e = subst (λ (r : Part). r.var ≤ 200) (sym e) (variable_small q.var f.1)
own_variable low (q ∷ qs) (suc i) p f l e = own_variable q.var qs i p f.4 (omega arith) e

pub later_variable : (low : ℕ) (ms : List Part) (k : ℕ) (part : Part) → IsMonomialAbove low ms → k < length ms → part ≡ get_or ms k part → low < part.var
unfolding IsMonomialAbove
later_variable low [] k part f l e = absurd (omega arith)
later_variable low (p ∷ ps) zero part f l e = subst (λ (q : Part). low < q.var) (sym e) f.0
later_variable low (p ∷ ps) (suc k) part f l e = omega (arith, f.0, later_variable p.var ps k part f.4 (omega arith) e)

-- ---- numbers by variable, raised to a monomial's exponents
own : Part → ℕ → ℕ
own p v = cond (p.var == v) p.exp 0

exponent-take : (low : ℕ) (ms : List Part) (i v : ℕ) (p : Part) → IsMonomialAbove low ms → i < length ms → p ≡ get_or ms i p
    → exponent_of (take (i + 1) ms) v ≡ max (exponent_of (take i ms) v) (own p v)
unfolding IsMonomialAbove exponent_of own
exponent-take low [] i v p f l e = absurd (omega arith)
exponent-take low (q ∷ qs) zero v p f l e = subst (λ (r : Part). own q v ≡ max 0 (own r v)) (sym e) (omega arith)
exponent-take low (q ∷ qs) (suc i) v p f l e =
    rw (suc-add i 1) (elim (cases_order q.var v) [
      | inl s ↦
          let u : q.var < p.var = later_variable q.var qs i p f.4 (omega arith) e in
          rw (eq-eqb q.var v s, ne_eqb p.var v (λ w. omega arith)) (omega arith)
      | inr o ↦ rw (ne_eqb q.var v (λ w. elim o [ inl h ↦ omega arith | inr h ↦ omega arith ])) (exponent-take q.var qs i v p f.4 (omega arith) e)
    ])

pub number_raised : (first numbers : List ℕ) (ms : List Part) (i v new : ℕ) (p : Part) → IsMonomial ms → i < length ms → p ≡ get_or ms i p → p.var < length numbers
    → new ≡ max (get_or numbers p.var 0) p.exp → ((w : ℕ) → get_or numbers w 0 ≡ max (get_or first w 0) (exponent_of (take i ms) w))
    → get_or (set numbers p.var new) v 0 ≡ max (get_or first v 0) (exponent_of (take (i + 1) ms) v)
unfolding own
number_raised first numbers ms i v new p f l e b n h =
    elim (cases_order p.var v) [
      | inl s ↦ subst (λ (w : ℕ). get_or (set numbers p.var new) w 0 ≡ max (get_or first w 0) (exponent_of (take (i + 1) ms) w)) s
          (let y : own p p.var ≡ p.exp = rw (eq-eqb p.var p.var refl) refl in
          get_or-set_same numbers p.var new 0 b ∙ omega (arith, n, h p.var, exponent-take 0 ms i p.var p f l e, y))
      | inr o ↦
          let d : v ≢ p.var = λ w. elim o [ inl k ↦ omega arith | inr k ↦ omega arith ] in
          let y : own p v ≡ 0 = rw (ne_eqb p.var v (λ w. d (sym w))) refl in
          get_or-set_other numbers p.var v new 0 d ∙ omega (arith, h v, exponent-take 0 ms i v p f l e, y)
    ]
