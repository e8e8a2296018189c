-- Constants as polynomials: where two of them differ.
--   x y l r numbers · p part · ps ms ns parts of a monomial · a point
use Rattle.std.proofs.Common.{◌≡◌, ◌≢◌, ℕ, List, [], ◌∷◌, refl, sym, ap, ◌∙◌, arith, inl, inr}
use Rattle.std.specs.Ordering.{int_eq}
use Rattle.std.specs.Cmp.{signed_Decides}
use Rattle.std.specs.Cmp.Lexicographic.{slice_cmp}
use Rattle.std.specs.declared.cmp.Ordering.TheVariants.{Less}
use Rattle.std.proofs.lemmas.Bool.{cases_Bool}
use lib.IntN.{ℤ, pos, ◌-ℤ◌, +ℤ_idr}
use Rattle.binom_poly.specs.declared.part.Part.{Part}
use Rattle.binom_poly.specs.Monomial.{degree, part_cmp, monomial_cmp, point}
use Rattle.binom_poly.specs.Polynomial.{value_of}
use Rattle.binom_poly.specs.Collected.{constant_terms}
use Rattle.binom_poly.specs.Difference.{IsFirstDifference}
use Rattle.binom_poly.specs.Totals.{coefficient_at}
use Rattle.binom_poly.proofs.Canonical.{value-constant_terms}
use Rattle.poly_subst.proofs.Order.{first_cases}

coefficient_none : (x : ℤ) → coefficient_at [] (constant_terms x) ≡ x
unfolding coefficient_at
coefficient_none x =
    elim (cases_Bool (int_eq x (pos 0))) [
      | inl e ↦ rw e (sym ((signed_Decides x (pos 0)).0 e))
      | inr e ↦ rw e (+ℤ_idr x)
    ]

coefficient_some : (p : Part) (ps : List Part) (x : ℤ) → coefficient_at (p ∷ ps) (constant_terms x) ≡ pos 0
unfolding coefficient_at
coefficient_some p ps x =
    elim (cases_Bool (int_eq x (pos 0))) [ inl e ↦ rw e refl | inr e ↦ rw e refl ]

none_before : (ns : List Part) → monomial_cmp ns [] ≡ Less → ⊥
unfolding degree
none_before ns h =
    elim (first_cases ns [] h) [
      | inl l ↦ absurd (omega (arith, l))
      | inr d ↦ not_less ns d.1
    ]
  where
    not_less : (ms : List Part) → slice_cmp part_cmp ms [] ≡ Less → ⊥
    not_less [] e = cc
    not_less (p ∷ ps) e = cc

pub constants_differ : (x y : ℤ) → x ≢ y
    → IsFirstDifference (constant_terms x) (constant_terms y) [] x y
constants_differ x y n = record {
  left_is = coefficient_none x;
  right_is = coefficient_none y;
  differ = n;
  least = λ ns l. absurd (none_before ns l);
  values = ap (λ z. z -ℤ value_of (point []) (constant_terms y)) (value-constant_terms (point []) x)
      ∙ ap (λ z. x -ℤ z) (value-constant_terms (point []) y);
}

-- constants differ at the monomial 1 alone
pub constants_first : (x y l r : ℤ) (ms : List Part)
    → IsFirstDifference (constant_terms x) (constant_terms y) ms l r → (ms ≡ []) × (l ≡ x) × (r ≡ y)
constants_first x y l r [] d =
    (refl, sym d.left_is ∙ coefficient_none x, sym d.right_is ∙ coefficient_none y)
constants_first x y l r (p ∷ ps) d =
    absurd (d.differ (sym d.left_is ∙ coefficient_some p ps x ∙ sym (coefficient_some p ps y) ∙ d.right_is))

-- their values differ where they do
pub constants_apart : (x y : ℤ) (a : ℕ → ℤ) → constant_terms x ≢ constant_terms y
    → value_of a (constant_terms x) ≢ value_of a (constant_terms y)
constants_apart x y a n e =
    n (ap constant_terms (sym (value-constant_terms a x) ∙ e ∙ value-constant_terms a y))
