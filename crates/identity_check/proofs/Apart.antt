-- Identities at integer points: sides in unique form that are different differ at some point.
--   rels a presentation · t table · id identity · j < l and k m generators · p q polynomials
--   a point · up a generator, or its inverse
use Rattle.std.proofs.Common.{◌≡◌, ◌≢◌, ℕ, ◌≤◌, Bool, true, false, List, [], refl, sym, ap, subst, arith, inl, inr}
use Rattle.std.proofs.lemmas.Bool.{cases_lt}
use Rattle.std.proofs.lemmas.Bool.Decides.{eqb_tells}
use borrow.Author.Differences.{ints}
use lib.IntN.{ℤ, pos, ◌-ℤ◌}
use Rattle.nil_word.specs.Congruence.{Relations}
use Rattle.binom_poly.specs.declared.term.Term.{Term}
use Rattle.binom_poly.specs.Monomial.{point}
use Rattle.binom_poly.specs.Polynomial.{value_of, IsPolynomial}
use Rattle.binom_poly.specs.Variable.{y_of}
use Rattle.binom_poly.specs.Collected.{constant_terms, var_terms}
use Rattle.binom_poly.proofs.Unique.{equal_or_split}
use Rattle.binom_poly.proofs.Canonical.{all_monomials, polynomial-nothing, polynomial-var}
use Rattle.poly_subst.proofs.Vanishing.{polynomial-without}
use Rattle.hall_table.specs.Tabled.{Tabled, IsTabled, poly_at}
use Rattle.identity_check.specs.declared.identity.Identity.{Identity}
use Rattle.identity_check.specs.declared.identity.Identity.TheVariants.{UnitRight, UnitLeft, Up, Down, StepUp, StepDown, Relation}
use Rattle.identity_check.specs.Sides.{xs, ys, cleared, last_step, last_added, left_step, right_step, entry_of_unit, entry_of_pair, left_of, right_of}
use Rattle.identity_check.specs.Overflowing.{StepOverflows, LastStepOverflows, StepSidesOverflow, MakingOverflows, SidesOverflow}
use Rattle.identity_check.specs.Signs.{number_of}
use Rattle.identity_check.specs.Events.{Stops, HaveEqualSides}
use Rattle.identity_check.specs.Events.Event.{tries}
use Rattle.identity_check.specs.Points.{IsGenerator, IsIdentityOf, IsMade, AreEqualAt, DifferSomewhere}
use Rattle.identity_check.proofs.Agreeing.{bounds_of, IsOf, form_at}
use Rattle.identity_check.proofs.ByNumber.{polynomial_number, is_step}
use Rattle.identity_check.proofs.Products.{polynomial-sum_of}
use Rattle.identity_check.proofs.OrderConditions.{last_added_before, last_added_here, last_added_after}
use Rattle.identity_check.proofs.StepConditions.{AreSteps, steps_made, substituted-left, substituted-right}
use Rattle.identity_check.proofs.MadeSides.{small_sum}
use Rattle.identity_check.proofs.MadeSteps.{unit_of}
use Rattle.identity_check.proofs.Pushing.{x_variable, y_variable}
use Rattle.identity_check.proofs.Constants.{constants_apart}
use Rattle.identity_check.proofs.Walked.{OfWalk, of_walk, sides_equal}

-- ---- two polynomials
DifferAt : List Term → List Term → Type 0
DifferAt p q = (a : ℕ → ℤ) × ¬ (value_of a p ≡ value_of a q)

no_gap : (x y l r : ℤ) → l ≢ r → x -ℤ y ≡ l -ℤ r → x ≢ y
no_gap x y l r n d e = n (omega (arith, ints))

apart : (p q : List Term) → IsPolynomial p → IsPolynomial q → p ≢ q → DifferAt p q
unfolding DifferAt
apart p q h k n =
    elim (equal_or_split p q h k) [
      | inl e ↦ absurd (n e)
      | inr s ↦ (
        point s.monomial,
        no_gap (value_of (point s.monomial) p) (value_of (point s.monomial) q) s.left s.right s.differ
            s.is,
      )
    ]

-- ---- generators
is_of : (t : Tabled) (k : ℕ) → IsGenerator t k → IsOf t k
is_of t k g = record { low = g.0; high = g.1 }

polynomial-x : (t : Tabled) (k : ℕ) → IsTabled t → IsOf t k → IsPolynomial (var_terms k)
polynomial-x t k h o =
    let least : 1 ≤ t.level = (bounds_of t h).least in
    polynomial-var k (x_variable t k h o.low o.high) (omega (arith, o.low))

polynomial-y : (t : Tabled) (k : ℕ) → IsTabled t → IsOf t k → IsPolynomial (var_terms (y_of k))
polynomial-y t k h o = polynomial-var (y_of k) (y_variable t k h o.low o.high) (omega arith)

-- ---- sides in unique form
polynomial-last_added : (t : Tabled) (j k : ℕ) (up : Bool) → IsTabled t → IsOf t k
    → IsPolynomial (last_added j (number_of up) k)
polynomial-last_added t j k up h o =
    let c = number_of up in
    elim (cases_lt k j) [
      | inl l ↦ subst IsPolynomial (sym (last_added_before j k c l)) (polynomial-x t k h o)
      | inr g ↦ (elim (eqb_tells k j) [
        | inl same ↦
            subst IsPolynomial (sym (last_added_here j k c g same.1))
            (polynomial-sum_of (var_terms k) (constant_terms c)
            (all_monomials (var_terms k) (polynomial-x t k h o))
            (all_monomials (constant_terms c) (polynomial_number c (unit_of up))) (small_sum k up))
        | inr other ↦
            subst IsPolynomial (sym (last_added_after j k c g other.1)) (polynomial-nothing [] refl)
      ])
    ]

last_apart : (t : Tabled) (j k : ℕ) (up : Bool) → IsTabled t → IsOf t k
    → ¬ LastStepOverflows t j (number_of up) k
    → last_step t j (number_of up) k ≢ last_added j (number_of up) k
    → DifferAt (last_step t j (number_of up) k) (last_added j (number_of up) k)
last_apart t j k up h o n d =
    apart (last_step t j (number_of up) k) (last_added j (number_of up) k)
    ((is_step t k (cleared t j) (y_of j) (number_of up) h o (unit_of up) n).form)
    (polynomial-last_added t j k up h o) d

step_apart : (t : Tabled) (j k : ℕ) (up : Bool) → IsTabled t → IsOf t k
    → ((m : ℕ) → IsGenerator t m → ¬ StepOverflows t j (number_of up) m)
    → ¬ StepSidesOverflow t j (number_of up) k
    → left_step t j (number_of up) k ≢ right_step t j (number_of up) k
    → DifferAt (left_step t j (number_of up) k) (right_step t j (number_of up) k)
step_apart t j k up h o m n d =
    let c = number_of up in
    let s : AreSteps t j c = steps_made t j c h (unit_of up) (λ i q. m i (q.low, q.high)) in
    apart (left_step t j c k) (right_step t j c k) ((substituted-left t j c k h s o n).form)
    ((substituted-right t j c k h s o n).form) d

-- ---- identities
pub sides_apart : (rels : Relations) (t : Tabled) (id : Identity) → IsTabled t → IsIdentityOf t id
    → IsMade t id → left_of t id ≢ right_of rels t id → DifferSomewhere rels t id
unfolding DifferAt IsIdentityOf IsMade left_of right_of MakingOverflows SidesOverflow
sides_apart rels t (UnitRight k) h o m d =
    apart (left_of t (UnitRight k)) (var_terms k)
    (polynomial-without (ys t) (poly_at t k) (form_at t k h (is_of t k o)))
    (polynomial-x t k h (is_of t k o)) d
sides_apart rels t (UnitLeft k) h o m d =
    apart (left_of t (UnitLeft k)) (var_terms (y_of k))
    (polynomial-without (xs t) (poly_at t k) (form_at t k h (is_of t k o)))
    (polynomial-y t k h (is_of t k o)) d
sides_apart rels t (Up j k) h o m d = last_apart t j k true h (is_of t k o.1) m d
sides_apart rels t (Down j k) h o m d = last_apart t j k false h (is_of t k o.1) m d
sides_apart rels t (StepUp j k) h o m d = step_apart t j k true h (is_of t k o.1) m.0 m.1 d
sides_apart rels t (StepDown j k) h o m d = step_apart t j k false h (is_of t k o.1) m.0 m.1 d
sides_apart rels t (Relation j l k) h o m d = (
  λ v. pos 0,
  constants_apart (entry_of_unit t j l k) (entry_of_pair rels j l k) (λ v. pos 0) d,
)

pub fails_somewhere : (rels : Relations) (t : Tabled) (id : Identity) → IsTabled t
    → IsIdentityOf t id → IsMade t id
    → (left_of t id ≢ right_of rels t id → DifferSomewhere rels t id)
    × (DifferSomewhere rels t id → left_of t id ≢ right_of rels t id)
fails_somewhere rels t id h o m =
    (λ d. sides_apart rels t id h o m d, λ s e. s.1 (ap (value_of s.0) e))

not_stopped : (rels : Relations) (t : Tabled) (id : Identity)
    → OfWalk (λ e. ¬ Stops rels t e) t → IsIdentityOf t id → ¬ Stops rels t (tries id)
unfolding IsIdentityOf
not_stopped rels t (UnitRight k) w o = w.unit_right k (is_of t k o)
not_stopped rels t (UnitLeft k) w o = w.unit_left k (is_of t k o)
not_stopped rels t (Up j k) w o = w.up j k (is_of t j o.0) (is_of t k o.1)
not_stopped rels t (Down j k) w o = w.down j k (is_of t j o.0) (is_of t k o.1)
not_stopped rels t (StepUp j k) w o = w.step_up j k (is_of t j o.0) (is_of t k o.1)
not_stopped rels t (StepDown j k) w o = w.step_down j k (is_of t j o.0) (is_of t k o.1)
not_stopped rels t (Relation j l k) w o =
    w.relation j l k (is_of t j o.0) o.2 o.1.1 (is_of t k o.3)

pub holds_everywhere : (rels : Relations) (t : Tabled) (id : Identity) → HaveEqualSides rels t
    → IsIdentityOf t id → (a : ℕ → ℤ) → AreEqualAt rels t id a
holds_everywhere rels t id s o a =
    ap (value_of a) (sides_equal rels t id
    (not_stopped rels t id (of_walk (λ e. ¬ Stops rels t e) t s) o))
