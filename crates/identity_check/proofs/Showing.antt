-- What a failure shows.
--   rels a presentation · t table · es events · f failure · at the value of a variable · v variable
use Rattle.std.proofs.Common.{◌≡◌, ◌==◌, ℕ, Bool, true, false, cond, List, [], ◌∷◌, refl, sym, ap, ◌∙◌, subst}
use lib.IntN.{ℤ, pos, ◌-ℤ◌}
use Rattle.nil_word.specs.Congruence.{Relations}
use Rattle.binom_poly.specs.declared.term.Term.{Term}
use Rattle.binom_poly.specs.Monomial.{exponent_of, point}
use Rattle.binom_poly.specs.Polynomial.{value_of}
use Rattle.binom_poly.specs.Collected.{constant_terms}
use Rattle.binom_poly.specs.Difference.{IsFirstDifference}
use Rattle.hall_table.specs.Tabled.{Tabled}
use Rattle.identity_check.specs.declared.identity.Identity.{Identity}
use Rattle.identity_check.specs.declared.identity.Identity.TheVariants.{Relation}
use Rattle.identity_check.specs.declared.failure.At.{At}
use Rattle.identity_check.specs.declared.failure.Failure.{Failure}
use Rattle.identity_check.specs.Sides.{entry_of_unit, entry_of_pair, left_of, right_of}
use Rattle.identity_check.specs.Events.{Event}
use Rattle.identity_check.specs.Failures.{parts_of, FailsFirst}
use Rattle.identity_check.specs.Evidence.{listed, IsEvidence}
use Rattle.identity_check.proofs.Constants.{constants_first}

-- ---- the point
pos-cond : (b : Bool) (m n : ℕ) → pos (cond b m n) ≡ cond b (pos m) (pos n)
pos-cond true m n = refl
pos-cond false m n = refl

point-parts_of : (ats : List At) (v : ℕ) → point (parts_of ats) v ≡ listed ats v
unfolding exponent_of listed
point-parts_of [] v = refl
point-parts_of (at ∷ ats) v =
    pos-cond (at.var == v) at.value (exponent_of (parts_of ats) v)
    ∙ ap (λ (x : ℤ). cond (at.var == v) (pos at.value) x) (point-parts_of ats v)

value-listed : (ats : List At) (p : List Term)
    → value_of (listed ats) p ≡ value_of (point (parts_of ats)) p
value-listed ats p = sym (ap (λ (a : ℕ → ℤ). value_of a p) (λ i v. point-parts_of ats v i))

-- ---- a relation
no_parts : (ats : List At) → parts_of ats ≡ [] → ats ≡ []
no_parts [] e = refl
no_parts (at ∷ ats) e = absurd (cc)

pub are_entries : (rels : Relations) (t : Tabled) (f : Failure)
    → IsFirstDifference (left_of t f.identity) (right_of rels t f.identity) (parts_of f.point.items)
    f.left f.right → (j l k : ℕ) → f.identity ≡ Relation j l k
    → (f.point.items ≡ []) × (f.left ≡ entry_of_unit t j l k) × (f.right ≡ entry_of_pair rels j l k)
unfolding left_of right_of
are_entries rels t f d j l k e =
    let first : IsFirstDifference (constant_terms (entry_of_unit t j l k))
    (constant_terms (entry_of_pair rels j l k)) (parts_of f.point.items) f.left f.right =
    subst (λ (id : Identity). IsFirstDifference (left_of t id) (right_of rels t id)
    (parts_of f.point.items) f.left f.right) e d in
    let g = constants_first (entry_of_unit t j l k) (entry_of_pair rels j l k) f.left f.right
    (parts_of f.point.items) first in
    (no_parts f.point.items g.0, g.1, g.2)

pub shows : (rels : Relations) (t : Tabled) (es : List Event) (f : Failure) → FailsFirst rels t es f
    → IsEvidence rels t f
shows rels t es f h =
    let d = h.differs in
    record {
      differ = d.differ;
      values = ap (λ (x : ℤ). x -ℤ value_of (listed f.point.items) (right_of rels t f.identity))
          (value-listed f.point.items (left_of t f.identity))
          ∙ ap (λ (x : ℤ). value_of (point (parts_of f.point.items)) (left_of t f.identity) -ℤ x)
          (value-listed f.point.items (right_of rels t f.identity))
          ∙ d.values;
      entries = are_entries rels t f d;
    }
