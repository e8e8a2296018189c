-- Products of elementary matrices, column by column.
use Rattle.std.proofs.Common.{◌≡◌, ◌≢◌, ℕ, ◌<◌, inl, inr, eqb, cond, ℤ, pos, negsuc, ◌+ℤ◌, ◌*ℤ◌, refl, sym, subst, ap, ◌∙◌, arith}
use Rattle.std.proofs.lemmas.Bool.{eq-eqb, ne_eqb, cases_eq}
use Rattle.std.proofs.lemmas.Bool.Decides.{nat_tests}
use Rattle.std.proofs.lemmas.Int.{ints}
use Rattle.nil_examples.specs.declared.places.Place.{Place}
use Rattle.nil_examples.specs.Products.{Matrix, times}

abbrev pub at : ℕ → ℕ → Place
at p q = record { row = p; column = q }

-- the column that grows, and the others
times-own : (p q : ℕ) (c : ℤ) (M : Matrix) (i : ℕ) → times (at p q) c M i q ≡ M i q +ℤ (c *ℤ M i p)
times-own p q c M i = rw (eq-eqb q q refl)

times-other : (p q : ℕ) (c : ℤ) (M : Matrix) (i b : ℕ) → b ≢ q → times (at p q) c M i b ≡ M i b
times-other p q c M i b other = rw (ne_eqb b q other)

times-same : (p q : ℕ) (c : ℤ) (M N : Matrix) (i b : ℕ) → M i b ≡ N i b → M i p ≡ N i p → times (at p q) c M i b ≡ times (at p q) c N i b
times-same p q c M N i b own from =
    ap (λ (u : ℤ). cond (eqb b q) (u +ℤ (c *ℤ M i p)) u) own
    ∙ ap (λ (v : ℤ). cond (eqb b q) (N i b +ℤ (c *ℤ v)) (N i b)) from

-- M times those at (p,q) and (q,r), in this order and in the other one
abbrev pub forward : ℕ → ℕ → ℕ → Matrix → Matrix
forward p q r M = times (at q r) (pos 1) (times (at p q) (pos 1) M)

abbrev pub backward : ℕ → ℕ → ℕ → Matrix → Matrix
backward p q r M = times (at p q) (pos 1) (times (at q r) (pos 1) M)

forward-last : (p q r : ℕ) (M : Matrix) (i : ℕ) → p < q → q < r → forward p q r M i r ≡ M i r +ℤ (M i q +ℤ M i p)
forward-last p q r M i first second =
    omega (arith, ints, times-own q r (pos 1) (times (at p q) (pos 1) M) i, times-own p q (pos 1) M i, times-other p q (pos 1) M i r (omega arith))

forward-first : (p q r : ℕ) (M : Matrix) (i : ℕ) → p < q → q < r → forward p q r M i p ≡ M i p
forward-first p q r M i first second =
    times-other q r (pos 1) (times (at p q) (pos 1) M) i p (omega arith)
    ∙ times-other p q (pos 1) M i p (omega arith)

backward-last : (p q r : ℕ) (M : Matrix) (i : ℕ) → p < q → q < r → backward p q r M i r ≡ M i r +ℤ M i q
backward-last p q r M i first second =
    omega (arith, ints, times-other p q (pos 1) (times (at q r) (pos 1) M) i r (omega arith), times-own q r (pos 1) M i)

backward-other : (p q r : ℕ) (M : Matrix) (i b : ℕ) → p < q → q < r → b ≢ r → backward p q r M i b ≡ forward p q r M i b
backward-other p q r M i b first second other =
    times-same p q (pos 1) (times (at q r) (pos 1) M) M i b (times-other q r (pos 1) M i b other) (times-other q r (pos 1) M i p (omega arith))
    ∙ sym (times-other q r (pos 1) (times (at p q) (pos 1) M) i b other)

-- the product of the two is that in the other order, times the one at (p,r) or its inverse
pub backward-forward : (p q r : ℕ) (M : Matrix) (i b : ℕ) → p < q → q < r → backward p q r M i b ≡ times (at p r) (negsuc 0) (forward p q r M) i b
backward-forward p q r M i b first second =
    elim (cases_eq b r) [
      | inl last ↦
          subst (λ (k : ℕ). backward p q r M i k ≡ times (at p r) (negsuc 0) (forward p q r M) i k) (sym last)
          (omega (
            arith,
            ints,
            backward-last p q r M i first second,
            forward-last p q r M i first second,
            forward-first p q r M i first second,
            times-own p r (negsuc 0) (forward p q r M) i,
          ))
      | inr other ↦
          backward-other p q r M i b first second other
          ∙ sym (times-other p r (negsuc 0) (forward p q r M) i b other)
    ]

pub forward-backward : (p q r : ℕ) (M : Matrix) (i b : ℕ) → p < q → q < r → forward p q r M i b ≡ times (at p r) (pos 1) (backward p q r M) i b
forward-backward p q r M i b first second =
    elim (cases_eq b r) [
      | inl last ↦
          subst (λ (k : ℕ). forward p q r M i k ≡ times (at p r) (pos 1) (backward p q r M) i k) (sym last)
          (omega (
            arith,
            ints,
            backward-last p q r M i first second,
            forward-last p q r M i first second,
            backward-other p q r M i p first second (omega arith),
            forward-first p q r M i first second,
            times-own p r (pos 1) (backward p q r M) i,
          ))
      | inr other ↦
          sym (backward-other p q r M i b first second other)
          ∙ sym (times-other p r (pos 1) (backward p q r M) i b other)
    ]

pub commuting : (x y : Place) (M : Matrix) (i b : ℕ) → x.column ≢ y.row → y.column ≢ x.row → times x (pos 1) (times y (pos 1) M) i b ≡ times y (pos 1) (times x (pos 1) M) i b
commuting x y M i b first second = grind (arith, ints, nat_tests)
