-- The sum of two variables as a polynomial.
--   v w variables · a point · ms monomial
use Rattle.std.proofs.Common.{◌≡◌, ℕ, ◌<◌, ◌≤◌, Bool, true, false, cond, List, [], ◌∷◌, ◌++◌, ap, ◌∙◌, arith, inl, inr}
use Rattle.std.specs.Prelude.{unsigned_abs}
use lib.IntN.{ℤ, pos, ◌+ℤ◌}
use Rattle.binom_poly.specs.declared.part.Part.{Part}
use Rattle.binom_poly.specs.Collected.{var_terms, sum_of, SumOverflows}
use Rattle.binom_poly.specs.Monomial.{IsVariable, same_parts}
use Rattle.binom_poly.specs.Polynomial.{value_of, IsPolynomial}
use Rattle.binom_poly.specs.Weight.{weight, HasLargePart}
use Rattle.binom_poly.proofs.Times.{value-append}
use Rattle.binom_poly.proofs.Collecting.{value-collected, polynomial-collected}
use Rattle.binom_poly.proofs.Canonical.{value-var_terms, polynomial-var, all_monomials}

at_most : (c : Bool) → cond c (unsigned_abs (pos 1)) 0 ≤ 1
at_most true = omega arith
at_most false = omega arith

abbrev alone : ℕ → List Part
alone v = record { var = v; exp = 1 } ∷ []

weight-two : (ms : List Part) (v w : ℕ) → weight ms (var_terms v ++ var_terms w) ≤ 2
unfolding weight
weight-two ms v w =
    let one = at_most (same_parts ms (alone v)) in
    let two = at_most (same_parts ms (alone w)) in
    omega (arith, one, two)

small : (v : ℕ) → ¬ HasLargePart (alone v)
small v (inl large) = omega (arith, large)
small v (inr none) = absurd none

pub fits : (v w : ℕ) → ¬ SumOverflows (var_terms v) (var_terms w)
fits v w (inl (inl large)) = small v large
fits v w (inl (inr (inl large))) = small w large
fits v w (inl (inr (inr none))) = absurd none
fits v w (inr wide) = let most = weight-two wide.0 v w in omega (arith, most, wide.1)

pub value-first : (a : ℕ → ℤ) (v w : ℕ)
    → value_of a (sum_of (var_terms v) (var_terms w)) ≡ a v +ℤ a w
value-first a v w =
    value-collected a (var_terms v ++ var_terms w) ∙ value-append a (var_terms v) (var_terms w)
    ∙ ap (λ (z : ℤ). z +ℤ value_of a (var_terms w)) (value-var_terms a v)
    ∙ ap (λ (z : ℤ). a v +ℤ z) (value-var_terms a w)

pub polynomial-first : (v w : ℕ) → IsVariable v → IsVariable w → 0 < v → 0 < w
    → IsPolynomial (sum_of (var_terms v) (var_terms w))
polynomial-first v w hv hw lv lw =
    polynomial-collected (var_terms v ++ var_terms w) (
      (all_monomials (var_terms v) (polynomial-var v hv lv)).0,
      all_monomials (var_terms w) (polynomial-var w hw lw),
    )
    (λ ms. let most = weight-two ms v w in omega (arith, most))
