-- Overlaps whose generators commute.
--   DoCommute p i j k   the right sides of the three pairs are empty
--   CommutingAgree c i  each overlap of level i whose generators commute agrees
-- p presentation · c a presentation with a table above level i · i < j < k generators
use Rattle.std.specs.Prelude.{◌≡◌, ℕ, ◌<◌, ◌≤◌, [], length}
use Rattle.nil_pres.specs.Presented.{Presented, right_of}
use Rattle.hall_table.specs.Multiplies.{Paired}
use Rattle.overlap_test.specs.declared.level_result.LevelResult.TheVariants.{Agree}
use Rattle.overlap_test.specs.Verdict.{tried}

pub record DoCommute (p : Presented) (i j k : ℕ) : Type 0 where
  pub first : right_of p i j ≡ []
  pub second : right_of p i k ≡ []
  pub above : right_of p j k ≡ []

abbrev pub CommutingAgree : Paired → ℕ → Type 0
CommutingAgree c i =
    (j k : ℕ) → i < j → j < k → k ≤ length c.pres.names → DoCommute c.pres i j k
    → tried c i (j, k) ≡ Agree
