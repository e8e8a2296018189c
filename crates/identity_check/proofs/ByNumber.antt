-- A polynomial of a table with variables set to 0, and then one replaced by 1 or -1.
--   t table · k m j generators · vs variables · v w variables · c 1 or -1 · a b points
--   x y u vectors
use Rattle.std.proofs.Common.{◌≡◌, ◌≢◌, ℕ, ◌≤◌, List, Option, ap, ◌∙◌, subst, arith}
use Rattle.std.specs.Prelude.{unsigned_abs}
use lib.IntN.{ℤ, pos, negsuc}
use Rattle.binom_poly.specs.declared.term.Term.{Term}
use Rattle.binom_poly.specs.Polynomial.{value_of, IsPolynomial}
use Rattle.binom_poly.specs.Collected.{constant_terms}
use Rattle.binom_poly.proofs.Canonical.{value-constant_terms, polynomial-constant, constant_terms-other}
use Rattle.poly_subst.specs.Renaming.{without, zeroed}
use Rattle.poly_subst.specs.Substitute.{value_by, replaced, SubstituteOverflows}
use Rattle.poly_subst.specs.Walk.{by_number, step_of}
use Rattle.poly_subst.proofs.Vanishing.{polynomial-without}
use Rattle.hall_table.specs.Tabled.{Tabled, IsTabled, poly_at}
use Rattle.identity_check.proofs.Substituted.{IsSubstituted, is_substituted}
use Rattle.identity_check.proofs.Holding.{assigned_one, assigned_none}
use Rattle.identity_check.proofs.Agreeing.{IsOf, form_at, AgreeOn, value-without_at}

-- ---- the point
pub replaced_here : (v : ℕ) (c : ℤ) (a : ℕ → ℤ) → replaced (by_number v c) a v ≡ c
replaced_here v c a =
    ap (λ (o : Option (List Term)). value_by o a v) (assigned_one v (constant_terms c))
    ∙ value-constant_terms a c

pub replaced_there : (v w : ℕ) (c : ℤ) (a : ℕ → ℤ) → v ≢ w → replaced (by_number v c) a w ≡ a w
replaced_there v w c a n =
    ap (λ (o : Option (List Term)). value_by o a w) (assigned_none v w (constant_terms c) n)

-- ---- the polynomial
pub record IsUnit (c : ℤ) : Type 0 where
  pub not_zero : c ≢ pos 0
  pub small : unsigned_abs c ≤ 1

pub unit_up : IsUnit (pos 1)
unit_up = record { not_zero = λ e. cc; small = omega arith }

pub unit_down : IsUnit (negsuc 0)
unit_down = record { not_zero = λ e. cc; small = omega arith }

pub polynomial_number : (c : ℤ) → IsUnit c → IsPolynomial (constant_terms c)
polynomial_number c u =
    let small : unsigned_abs c ≤ 1 = u.small in
    subst IsPolynomial (constant_terms-other c u.not_zero)
    (polynomial-constant c u.not_zero (omega arith))

pub record IsStep (t : Tabled) (k : ℕ) (vs : List ℕ) (v : ℕ) (c : ℤ) : Type 0 where
  pub form : IsPolynomial (step_of (poly_at t k) vs v c)
  pub value : (a b : ℕ → ℤ) → AgreeOn t (zeroed vs (replaced (by_number v c) a)) b
      → value_of a (step_of (poly_at t k) vs v c) ≡ value_of b (poly_at t k)

pub is_step : (t : Tabled) (k : ℕ) (vs : List ℕ) (v : ℕ) (c : ℤ) → IsTabled t → IsOf t k → IsUnit c
    → ¬ SubstituteOverflows (without vs (poly_at t k)) (by_number v c) → IsStep t k vs v c
is_step t k vs v c h o u n =
    let s : IsSubstituted (without vs (poly_at t k)) (by_number v c) =
    is_substituted (without vs (poly_at t k)) (by_number v c)
    (polynomial-without vs (poly_at t k) (form_at t k h o)) (polynomial_number c u, tt) n in
    record {
      form = s.form;
      value = λ a b g. s.value a
          ∙ value-without_at t k vs (replaced (by_number v c) a) b h o g;
    }
