-- The magnitude of a polynomial at points that are 0 at each variable without a test, where its
-- values there are those of another polynomial.
--   test of variables · a b points · z integer · n magnitude · t term · ts terms · p q polynomials
use Rattle.std.proofs.Common.{◌≡◌, ℕ, ◌+◌, Bool, true, false, List, [], ◌∷◌, refl, sym, ap, ◌∙◌, arith, inl, inr}
use Rattle.std.specs.Prelude.{unsigned_abs}
use Rattle.std.proofs.lemmas.Bool.{cases_Bool}
use Rattle.std.proofs.lemmas.Int.{ints}
use lib.IntN.{ℤ, pos, ◌+ℤ◌, ◌*ℤ◌}
use Rattle.binom_poly.specs.declared.term.Term.{Term}
use Rattle.binom_poly.specs.Monomial.{IsMonomial}
use Rattle.binom_poly.specs.Polynomial.{monomial_value, value_of, IsPolynomial}
use Rattle.binom_poly.specs.Readings.{magnitude_of}
use Rattle.binom_poly.specs.Sums.{AllMonomials}
use Rattle.binom_poly.proofs.Canonical.{all_monomials}
use Rattle.binom_poly.proofs.Depending.{has_only, only, masked, only_kept, only_dropped, value-only, polynomial-only}
use Rattle.binom_poly.proofs.Unique.{unique_form}

-- ---- the value of a term
term_kept : (test : ℕ → Bool) (a : ℕ → ℤ) (t : Term) → IsMonomial t.monomial
    → has_only test t.monomial ≡ true
    → t.coefficient *ℤ monomial_value a t.monomial
    ≡ t.coefficient *ℤ monomial_value (masked test a) t.monomial
unfolding value_of only
term_kept test a t h e =
    same (t.coefficient *ℤ monomial_value a t.monomial)
    (t.coefficient *ℤ monomial_value (masked test a) t.monomial)
    (sym (ap (value_of a) (only_kept test t [] e)) ∙ value-only test a (t ∷ []) (h, tt))
  where
    same : (y z : ℤ) → y +ℤ pos 0 ≡ z +ℤ pos 0 → y ≡ z
    same y z f = omega (arith, ints)

term_dropped : (test : ℕ → Bool) (a : ℕ → ℤ) (t : Term) → IsMonomial t.monomial
    → has_only test t.monomial ≡ false
    → t.coefficient *ℤ monomial_value (masked test a) t.monomial ≡ pos 0
unfolding value_of only
term_dropped test a t h e =
    none (t.coefficient *ℤ monomial_value (masked test a) t.monomial)
    (sym (ap (value_of a) (only_dropped test t [] e)) ∙ value-only test a (t ∷ []) (h, tt))
  where
    none : (z : ℤ) → pos 0 ≡ z +ℤ pos 0 → z ≡ pos 0
    none z f = omega (arith, ints)

-- ---- the magnitude
magnitude-only : (test : ℕ → Bool) (a : ℕ → ℤ) (ts : List Term) → AllMonomials ts
    → magnitude_of a (only test ts) ≡ magnitude_of (masked test a) ts
unfolding magnitude_of only
magnitude-only test a [] h = refl
magnitude-only test a (t ∷ ts) h =
    elim (cases_Bool (has_only test t.monomial)) [
      | inl e ↦
          ap (magnitude_of a) (only_kept test t ts e)
          ∙ ap (λ n. unsigned_abs (t.coefficient *ℤ monomial_value a t.monomial) + n)
          (magnitude-only test a ts h.1)
          ∙ ap (λ z. unsigned_abs z + magnitude_of (masked test a) ts)
          (term_kept test a t h.0 e)
      | inr e ↦
          ap (magnitude_of a) (only_dropped test t ts e)
          ∙ magnitude-only test a ts h.1
          ∙ nothing (t.coefficient *ℤ monomial_value (masked test a) t.monomial)
          (magnitude_of (masked test a) ts) (term_dropped test a t h.0 e)
    ]
  where
    nothing : (z : ℤ) (n : ℕ) → z ≡ pos 0 → n ≡ unsigned_abs z + n
    nothing z n f = omega (arith, ints)

pub magnitude-masked : (test : ℕ → Bool) (p q : List Term) → IsPolynomial p → IsPolynomial q
    → ((a : ℕ → ℤ) → value_of (masked test a) p ≡ value_of a q) → (a : ℕ → ℤ)
    → magnitude_of (masked test a) p ≡ magnitude_of a q
magnitude-masked test p q hp hq same a =
    let held : only test p ≡ q =
    unique_form (only test p) q (polynomial-only test p hp) hq
    (λ b. value-only test b p (all_monomials p hp) ∙ same b) in
    sym (magnitude-only test a p (all_monomials p hp)) ∙ ap (magnitude_of a) held
