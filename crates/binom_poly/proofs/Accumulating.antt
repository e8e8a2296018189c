-- From the contributions that a map holds to the polynomial that they make
use Rattle.std.proofs.Common.{◌≡◌, ℕ, List, [], ◌∷◌, ◌++◌, sym, ◌∙◌, subst}
use Rattle.std.specs.Prelude.{ℤ, unsigned_abs}
use Rattle.nil_num.specs.Bound.{Overflows}
use Rattle.binom_poly.specs.declared.part.Part.{Part}
use Rattle.binom_poly.specs.declared.term.Term.{Term}
use Rattle.binom_poly.specs.declared.sums.Sum.{Sum}
use Rattle.binom_poly.specs.Polynomial.{value_of, IsPolynomial}
use Rattle.binom_poly.specs.Weight.{DoOverflow}
use Rattle.binom_poly.specs.Times.{contribution}
use Rattle.binom_poly.specs.Sums.{entries_value, Holds, Gains}
use Rattle.binom_poly.specs.Collected.{collected}
use Rattle.binom_poly.proofs.Unique.{unique_form}
use Rattle.binom_poly.proofs.Contributing.{fits, overflows_first, overflows_before}
use Rattle.binom_poly.proofs.Collecting.{value-collected, polynomial-collected}

pub held_fits : (es : List (List Part × Sum)) (cs : List Term) → Holds es cs → DoOverflow cs → ⊥
held_fits es cs h = fits cs h.monomials h.within

pub held_collected : (es : List (List Part × Sum)) (cs ts : List Term) → Holds es cs → IsPolynomial ts
    → ((a : ℕ → ℤ) → value_of a ts ≡ entries_value a es) → ts ≡ collected cs
held_collected es cs ts h p v =
    unique_form ts (collected cs) p (polynomial-collected cs h.monomials h.within)
    (λ a. v a ∙ h.values a ∙ sym (value-collected a cs))

pub large_overflows : (cs : List Term) (ms : List Part) (c : ℤ) → Overflows (unsigned_abs c)
    → DoOverflow (cs ++ contribution ms c ∷ [])
large_overflows cs ms c h =
    overflows_before cs (contribution ms c ∷ []) (overflows_first (contribution ms c) [] h)

-- a number that went to bits and back
pub gained_by : (old mid new : List (List Part × Sum)) (ms : List Part) (c z : ℤ) (cs : List Term) → z ≡ c → mid ≡ old
    → Gains mid new (contribution ms z ∷ []) → Holds old cs → Holds new (cs ++ contribution ms c ∷ [])
gained_by old mid new ms c z cs e f g h =
    subst (λ (x : ℤ). Holds new (cs ++ contribution ms x ∷ [])) e (g.holds cs (subst (λ es. Holds es cs) (sym f) h))
