-- Sums and products that don't overflow are polynomials in unique form.
--   low variable · p q parts · ps ns parts of a monomial · ts us contributions
use Rattle.std.proofs.Common.{◌≡◌, ℕ, zero, suc, ◌+◌, ◌-◌, ◌*◌, ◌^◌, ◌<◌, ◌≤◌, List, [], ◌∷◌, ◌++◌, max, min, subst, arith, inl, inr}
use Rattle.std.proofs.lemmas.Bool.{cases_lt, lt-ltb, le-ltb}
use lib.IntN.{ℤ, pos, ◌*ℤ◌}
use Rattle.integer.specs.Binomial.{ways}
use Rattle.binom_poly.specs.declared.part.Part.{Part}
use Rattle.binom_poly.specs.declared.term.Term.{Term}
use Rattle.binom_poly.specs.Monomial.{IsVariable, IsMonomial, IsMonomialAbove}
use Rattle.binom_poly.specs.Polynomial.{IsPolynomial}
use Rattle.binom_poly.specs.Weight.{weight, IsWide, HasLargePart, HasLargeExponent}
use Rattle.binom_poly.specs.Times.{with_part, with_shared, against, monomial_product, prefixed, term_product, term_products, product_terms}
use Rattle.binom_poly.specs.Sums.{AllMonomials}
use Rattle.binom_poly.specs.Collected.{sum_of, SumOverflows, product_of, ProductOverflows}
use Rattle.binom_poly.proofs.Canonical.{all_monomials}
use Rattle.binom_poly.proofs.Contributing.{all_monomials-append}
use Rattle.binom_poly.proofs.Collecting.{polynomial-collected}

-- ---- parts that ascend, whatever their exponents
IsAscending : ℕ → List Part → Type 0
IsAscending low [] = Unit {0}
IsAscending low (p ∷ ps) = (low < p.var) × IsVariable p.var × (1 ≤ p.exp) × IsAscending p.var ps

AreAscending : ℕ → List Term → Type 0
AreAscending low [] = Unit {0}
AreAscending low (t ∷ ts) = IsAscending low t.monomial × AreAscending low ts

ascending_monomial : (low : ℕ) (ps : List Part) → IsMonomialAbove low ps → IsAscending low ps
unfolding IsAscending IsMonomialAbove
ascending_monomial low [] h = tt
ascending_monomial low (p ∷ ps) h = (h.0, h.1, h.2, ascending_monomial p.var ps h.4)

monomial_above : (low : ℕ) (p : Part) (ps : List Part) → low < p.var → IsMonomialAbove 0 (p ∷ ps)
    → IsMonomialAbove low (p ∷ ps)
unfolding IsMonomialAbove
monomial_above low p ps l h = (l, h.1, h.2, h.3, h.4)

ascending-append : (low : ℕ) (ts us : List Term) → AreAscending low ts → AreAscending low us
    → AreAscending low (ts ++ us)
unfolding AreAscending
ascending-append low [] us h k = k
ascending-append low (t ∷ ts) us h k = (h.0, ascending-append low ts us h.1 k)

ascending-with_part : (low : ℕ) (p : Part) (c : ℤ) (ts : List Term) → low < p.var → IsVariable p.var
    → 1 ≤ p.exp → AreAscending p.var ts → AreAscending low (with_part p c ts)
unfolding AreAscending IsAscending with_part
ascending-with_part low p c [] l v e h = tt
ascending-with_part low p c (t ∷ ts) l v e h =
    ((l, v, e, h.0), ascending-with_part low p c ts l v e h.1)

ascending-with_shared : (low v a b k n : ℕ) (ts : List Term) → low < v → IsVariable v → 1 ≤ k
    → AreAscending v ts → AreAscending low (with_shared v a b k n ts)
unfolding AreAscending with_shared
ascending-with_shared low v a b k zero ts l h e f = tt
ascending-with_shared low v a b k (suc n) ts l h e f =
    ascending-append low (with_part record { var = v; exp = k } (pos (ways k a * ways a (k - b))) ts)
    (with_shared v a b (suc k) n ts)
    (ascending-with_part low record { var = v; exp = k } (pos (ways k a * ways a (k - b))) ts l h e f)
    (ascending-with_shared low v a b (suc k) n ts l h (omega arith) f)

ascending-against : (low : ℕ) (p : Part) (ps : List Part) (f : List Part → List Term) (ns : List Part)
    → IsMonomialAbove low (p ∷ ps) → IsMonomialAbove low ns
    → ((ms : List Part) → IsMonomialAbove p.var ms → AreAscending p.var (f ms))
    → AreAscending low (against p ps f ns)
unfolding AreAscending against IsMonomialAbove
ascending-against low p ps f [] h k g = (ascending_monomial low (p ∷ ps) h, tt)
ascending-against low p ps f (q ∷ qs) h k g =
    elim (cases_lt p.var q.var) [
      | inl l ↦
          rw (lt-ltb p.var q.var l)
          (ascending-with_part low p (pos 1) (f (q ∷ qs)) h.0 h.1 h.2 (g (q ∷ qs) (l, k.1, k.2, k.3, k.4)))
      | inr l ↦ elim (cases_lt q.var p.var) [
        | inl m ↦
            rw (le-ltb p.var q.var l, lt-ltb q.var p.var m)
            (ascending-with_part low q (pos 1) (against p ps f qs) k.0 k.1 k.2
            (ascending-against q.var p ps f qs (m, h.1, h.2, h.3, h.4) k.4 g))
        | inr m ↦
            (let e : q.var ≡ p.var = omega arith in
            rw (le-ltb p.var q.var l, le-ltb q.var p.var m)
            (ascending-with_shared low p.var p.exp q.exp (max p.exp q.exp) (min p.exp q.exp + 1) (f qs)
            h.0 h.1 (omega (arith, h.2))
            (g qs (subst (λ (v : ℕ). IsMonomialAbove v qs) e k.4))))
      ]
    ]

ascending-monomial_product : (low : ℕ) (ps ns : List Part) → IsMonomialAbove low ps
    → IsMonomialAbove low ns → AreAscending low (monomial_product ps ns)
unfolding AreAscending monomial_product IsMonomialAbove
ascending-monomial_product low [] ns h k = (ascending_monomial low ns k, tt)
ascending-monomial_product low (p ∷ ps) ns h k =
    ascending-against low p ps (monomial_product ps) ns h k
    (λ ms m. ascending-monomial_product p.var ps ms h.4 m)

ascending-prefixed : (low : ℕ) (c : ℤ) (ts : List Term) → AreAscending low ts
    → AreAscending low (prefixed [] c ts)
unfolding AreAscending prefixed
ascending-prefixed low c [] h = tt
ascending-prefixed low c (t ∷ ts) h = (h.0, ascending-prefixed low c ts h.1)

ascending-term_products : (t : Term) (us : List Term) → IsMonomial t.monomial → AllMonomials us
    → AreAscending 0 (term_products t us)
unfolding AreAscending term_products
ascending-term_products t [] h k = tt
ascending-term_products t (u ∷ us) h k =
    ascending-append 0 (term_product t u) (term_products t us)
    (ascending-prefixed 0 (t.coefficient *ℤ u.coefficient) (monomial_product t.monomial u.monomial)
    (ascending-monomial_product 0 t.monomial u.monomial h k.0))
    (ascending-term_products t us h k.1)

ascending-product_terms : (ts us : List Term) → AllMonomials ts → AllMonomials us
    → AreAscending 0 (product_terms ts us)
unfolding AreAscending product_terms
ascending-product_terms [] us h k = tt
ascending-product_terms (t ∷ ts) us h k =
    ascending-append 0 (term_products t us) (product_terms ts us)
    (ascending-term_products t us h.0 k) (ascending-product_terms ts us h.1 k)

-- ---- without large exponents
small_parts : (low : ℕ) (ps : List Part) → IsAscending low ps → ¬ HasLargePart ps
    → IsMonomialAbove low ps
unfolding IsAscending IsMonomialAbove
small_parts low [] h n = tt
small_parts low (p ∷ ps) h n =
    (h.0, h.1, h.2, not_large p.exp (λ l. n (inl l)), small_parts p.var ps h.3 (λ l. n (inr l)))
  where
    not_large : (e : ℕ) → ¬ (1000 < e) → e ≤ 1000
    not_large e f = elim (cases_lt 1000 e) [ inl l ↦ absurd (f l) | inr l ↦ l ]

small_terms : (ts : List Term) → AreAscending 0 ts → ¬ HasLargeExponent ts → AllMonomials ts
unfolding AreAscending
small_terms [] h n = tt
small_terms (t ∷ ts) h n =
    (small_parts 0 t.monomial h.0 (λ l. n (inl l)), small_terms ts h.1 (λ l. n (inr l)))

narrow : (ts : List Term) → ¬ IsWide ts → (ms : List Part) → weight ms ts < 2 ^ 127
narrow ts n ms =
    elim (cases_lt (weight ms ts) (2 ^ 127)) [ inl l ↦ l | inr g ↦ absurd (n (ms, g)) ]

-- ---- the operations
pub polynomial-sum_of : (p q : List Term) → AllMonomials p → AllMonomials q → ¬ SumOverflows p q
    → IsPolynomial (sum_of p q)
polynomial-sum_of p q h k n =
    polynomial-collected (p ++ q) (all_monomials-append p q h k) (narrow (p ++ q) (λ w. n (inr w)))

pub polynomial-product_of : (p q : List Term) → IsPolynomial p → IsPolynomial q
    → ¬ ProductOverflows p q → IsPolynomial (product_of p q)
polynomial-product_of p q h k n =
    polynomial-collected (product_terms p q)
    (small_terms (product_terms p q)
    (ascending-product_terms p q (all_monomials p h) (all_monomials q k)) (λ l. n (inl l)))
    (narrow (product_terms p q) (λ w. n (inr w)))
