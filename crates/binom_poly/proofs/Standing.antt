-- A variable that the values need stands in a monomial: the others alone leave out what it adds
use Rattle.std.proofs.Common.{◌≡◌, ◌≢◌, ℕ, ◌==◌, Bool, true, false, cond, List, [], ◌∷◌, refl, sym, ap, ◌∙◌, subst, arith, ◌⊎◌, inl, inr}
use Rattle.std.specs.Cmp.{unsigned_Decides}
use Rattle.std.proofs.lemmas.Bool.{cases_Bool, false≢true, eq-eqb, ne_eqb}
use borrow.Author.Differences.{ints}
use lib.IntN.{ℤ, pos, ◌+ℤ◌}
use Rattle.binom_poly.specs.declared.part.Part.{Part}
use Rattle.binom_poly.specs.declared.term.Term.{Term}
use Rattle.binom_poly.specs.Monomial.{IsMonomialAbove, IsVariable}
use Rattle.binom_poly.specs.Polynomial.{value_of, IsPolynomial}
use Rattle.binom_poly.specs.Sums.{AllMonomials}
use Rattle.binom_poly.specs.Dependence.{Agree, DependsOnly}
use Rattle.binom_poly.proofs.Canonical.{all_monomials}
use Rattle.binom_poly.proofs.Depending.{has_only, only, only_kept, masked, masked_there, masked_elsewhere, value-only, other_than, is_other}

variable_or_apart : (v low : ℕ) (ms : List Part) → IsMonomialAbove low ms → IsVariable v ⊎ (has_only (other_than v) ms ≡ true)
unfolding IsMonomialAbove
variable_or_apart v low [] h = inr refl
variable_or_apart v low (q ∷ qs) h =
    elim (cases_Bool (q.var == v)) [
      | inl e ↦ inl (subst IsVariable ((unsigned_Decides q.var v).0 e) h.1)
      | inr e ↦ elim (variable_or_apart v q.var qs h.4) [ inl k ↦ inl k | inr k ↦ inr (rw e k) ]
    ]

variable_or_none : (v : ℕ) (ts : List Term) → AllMonomials ts → IsVariable v ⊎ (only (other_than v) ts ≡ ts)
unfolding only
variable_or_none v [] h = inr refl
variable_or_none v (t ∷ ts) h =
    elim (variable_or_apart v 0 t.monomial h.0) [
      | inl k ↦ inl k
      | inr e ↦ elim (variable_or_none v ts h.1) [
        | inl k ↦ inl k
        | inr k ↦ inr (only_kept (other_than v) t ts e ∙ ap (λ (us : List Term). t ∷ us) k)
      ]
    ]

-- where the values change with v, it is the number of a variable
variable_needed : (v : ℕ) (a : ℕ → ℤ) (p : List Term) → IsPolynomial p
    → value_of a p ≢ value_of (masked (other_than v) a) p → IsVariable v
variable_needed v a p h d =
    elim (variable_or_none v p (all_monomials p h)) [
      | inl k ↦ k
      | inr k ↦ absurd (d (ap (value_of a) (sym k) ∙ value-only (other_than v) a p (all_monomials p h)))
    ]

-- 1 at v, and 0 elsewhere
abbrev unit_at : ℕ → ℕ → ℤ
unit_at v u = cond (u == v) (pos 1) (pos 0)

unit_own : (v : ℕ) → unit_at v v ≡ pos 1
unit_own v = rw (eq-eqb v v refl) refl

unit_other : (v u : ℕ) → u ≢ v → unit_at v u ≡ pos 0
unit_other v u d = rw (ne_eqb u v d) refl

not_own : (v : ℕ) → other_than v v ≡ false
not_own v = rw (eq-eqb v v refl) refl

tested_agree : (test : ℕ → Bool) (v : ℕ) → test v ≡ false → Agree test (unit_at v) (masked (other_than v) (unit_at v))
tested_agree test v f u t =
    sym (masked_there (other_than v) (unit_at v) u (is_other v u (λ e. false≢true (sym f ∙ ap test (sym e) ∙ t))))

pub variable_added : (test : ℕ → Bool) (v w : ℕ) (g : (ℕ → ℤ) → ℤ) (p : List Term) → IsPolynomial p → v ≢ w → test v ≡ false
    → DependsOnly test g → ((a : ℕ → ℤ) → value_of a p ≡ a v +ℤ a w +ℤ g a) → IsVariable v
variable_added test v w g p h n f d e =
    let a = unit_at v in
    let b = masked (other_than v) a in
    let apart : w ≢ v = λ s. n (sym s) in
    variable_needed v a p h
    (λ s. no_step (value_of a p) (value_of b p) (a v) (a w) (g a) (b v) (b w) (g b) (e a) (e b) s (d a b (tested_agree test v f))
    (unit_own v) (unit_other v w apart) (masked_elsewhere (other_than v) a v (not_own v))
    (masked_there (other_than v) a w (is_other v w apart) ∙ unit_other v w apart))
  where
    no_step : (x y av aw ga bv bw gb : ℤ) → x ≡ av +ℤ aw +ℤ ga → y ≡ bv +ℤ bw +ℤ gb → x ≡ y → ga ≡ gb
        → av ≡ pos 1 → aw ≡ pos 0 → bv ≡ pos 0 → bw ≡ pos 0 → ⊥
    no_step x y av aw ga bv bw gb e f h k l m n o = omega (arith, ints)
