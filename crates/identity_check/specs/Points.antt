-- Identities at integer points.
--   IsGenerator t k            k is a generator of the table
--   IsIdentityOf t id          id is one of the identities of the table
--   IsMade t id                none of the operations that are written for id overflows, those of
--                              its step polynomials included
--   DifferSomewhere rels t id  at some integer point the values of the two sides of id differ
--   AreEqualAt rels t id a     at the point a they are equal
-- rels a presentation · t table · j < l and k m generators · id identity · a point
use Rattle.std.specs.Prelude.{◌≡◌, ◌<◌, ◌≤◌, ℕ, ℤ}
use Rattle.nil_word.specs.Congruence.{Relations}
use Rattle.binom_poly.specs.Polynomial.{value_of}
use Rattle.hall_table.specs.Tabled.{Tabled, last_of}
use Rattle.identity_check.specs.declared.identity.Identity.{Identity}
use Rattle.identity_check.specs.declared.identity.Identity.TheVariants.{UnitRight, UnitLeft, Up, Down, StepUp, StepDown, Relation}
use Rattle.identity_check.specs.Sides.{left_of, right_of}
use Rattle.identity_check.specs.Overflowing.{MakingOverflows, SidesOverflow}

abbrev pub IsGenerator : Tabled → ℕ → Type 0
IsGenerator t k = (t.level ≤ k) × (k ≤ last_of t)

unfoldable pub IsIdentityOf : Tabled → Identity → Type 0
IsIdentityOf t (UnitRight k) = IsGenerator t k
IsIdentityOf t (UnitLeft k) = IsGenerator t k
IsIdentityOf t (Up j k) = IsGenerator t j × IsGenerator t k
IsIdentityOf t (Down j k) = IsGenerator t j × IsGenerator t k
IsIdentityOf t (StepUp j k) = IsGenerator t j × IsGenerator t k
IsIdentityOf t (StepDown j k) = IsGenerator t j × IsGenerator t k
IsIdentityOf t (Relation j l k) = IsGenerator t j × IsGenerator t l × (j < l) × IsGenerator t k

unfoldable pub IsMade : Tabled → Identity → Type 0
IsMade t (StepUp j k) =
    ((m : ℕ) → IsGenerator t m → ¬ MakingOverflows t (StepUp j m)) × ¬ SidesOverflow t (StepUp j k)
IsMade t (StepDown j k) =
    ((m : ℕ) → IsGenerator t m → ¬ MakingOverflows t (StepDown j m))
    × ¬ SidesOverflow t (StepDown j k)
IsMade t id = ¬ SidesOverflow t id

abbrev pub AreEqualAt : Relations → Tabled → Identity → (ℕ → ℤ) → Type 0
AreEqualAt rels t id a = value_of a (left_of t id) ≡ value_of a (right_of rels t id)

abbrev pub DifferSomewhere : Relations → Tabled → Identity → Type 0
DifferSomewhere rels t id = (a : ℕ → ℤ) × ¬ AreEqualAt rels t id a
