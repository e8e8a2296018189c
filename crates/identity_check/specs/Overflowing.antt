-- When a written operation of an identity overflows.
--   StepOverflows t j c m        one of those that make `step`
--   LastStepOverflows t j c k    one of those that make `last_step`
--   StepSidesOverflow t j c k    one of those that make the two sides from the step polynomials
--   EntryRowsOverflow t a b      the row of an entry of a, for an x, or of b, for a y
--   MakingOverflows t id         one of those that make the step polynomial of k
--   SidesOverflow t id           one of those that make a side
-- t table · j < l and k m generators · c a number · a b vectors · id identity
use Rattle.std.specs.Prelude.{◌≡◌, ℕ, ◌≤◌, true, ℤ, pos, negsuc, List, ◌⊎◌}
use Rattle.poly_subst.specs.Renaming.{without}
use Rattle.poly_subst.specs.Substitute.{SubstituteOverflows}
use Rattle.poly_subst.specs.Walk.{by_number, in_x, in_y}
use Rattle.binom_poly.specs.Variable.{y_of}
use Rattle.hall_table.specs.Tabled.{Tabled, last_of, poly_at}
use Rattle.hall_table.specs.Order.{generators, x_overflows, y_overflows, sum_at_overflows}
use Rattle.identity_check.specs.declared.identity.Identity.{Identity}
use Rattle.identity_check.specs.declared.identity.Identity.TheVariants.{UnitRight, UnitLeft, Up, Down, StepUp, StepDown, Relation}
use Rattle.identity_check.specs.Sides.{other_ys, cleared, unit_vector, step}

abbrev pub StepOverflows : Tabled → ℕ → ℤ → ℕ → Type 0
StepOverflows t j c m =
    SubstituteOverflows (without (other_ys t j) (poly_at t m)) (by_number (y_of j) c)

abbrev pub LastStepOverflows : Tabled → ℕ → ℤ → ℕ → Type 0
LastStepOverflows t j c k =
    SubstituteOverflows (without (cleared t j) (poly_at t k)) (by_number (y_of j) c)

abbrev pub StepSidesOverflow : Tabled → ℕ → ℤ → ℕ → Type 0
StepSidesOverflow t j c k =
    SubstituteOverflows (poly_at t k) (in_y t.level (generators t) (step t j c))
    ⊎ SubstituteOverflows (step t j c k) (in_x t.level (generators t) (poly_at t))

abbrev pub EntryRowsOverflow : Tabled → List ℤ → List ℤ → Type 0
EntryRowsOverflow t a b = (k : ℕ) × (t.level ≤ k) × (k ≤ last_of t)
    × ((x_overflows t a k ≡ true) ⊎ (y_overflows t b k ≡ true))

unfoldable pub MakingOverflows : Tabled → Identity → Type 0
MakingOverflows t (StepUp j m) = StepOverflows t j (pos 1) m
MakingOverflows t (StepDown j m) = StepOverflows t j (negsuc 0) m
MakingOverflows t _ = ⊥

unfoldable pub SidesOverflow : Tabled → Identity → Type 0
SidesOverflow t (UnitRight k) = ⊥
SidesOverflow t (UnitLeft k) = ⊥
SidesOverflow t (Up j k) = LastStepOverflows t j (pos 1) k
SidesOverflow t (Down j k) = LastStepOverflows t j (negsuc 0) k
SidesOverflow t (StepUp j k) = StepSidesOverflow t j (pos 1) k
SidesOverflow t (StepDown j k) = StepSidesOverflow t j (negsuc 0) k
SidesOverflow t (Relation j l k) =
    EntryRowsOverflow t (unit_vector t l) (unit_vector t j)
    ⊎ (sum_at_overflows t (unit_vector t l) (unit_vector t j) k ≡ true)
