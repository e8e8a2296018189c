-- What the ways of overlaps are made with.
--   IsRoomOf w c i               it serves the overlaps of level i of a presentation with a checked
--                                table: a workspace, the images, and vectors with an entry for each
--                                generator
--   WritesWays result w c i j k  both ways stand in w, or the overlap is wide
-- w the room · c a presentation with a table above level i · j < k generators
use Rattle.std.specs.Prelude.{◌≡◌, ℕ, [], ◌∷◌, Result, Ok, MatchResult}
use Rattle.nil_pres.specs.Presented.{IsPresented}
use Rattle.hall_table.specs.declared.wide_at.WideAt.{WideAt}
use Rattle.hall_table.specs.Multiplies.{Paired, IsChecked}
use Rattle.group_eval.specs.Space.{IsSpaceOf, AreOf}
use Rattle.overlap_test.specs.declared.level_result.LevelResult.TheVariants.{Wide}
use Rattle.overlap_test.specs.declared.ways.Ways.{Ways}
use Rattle.overlap_test.specs.Verdict.{tried}
use Rattle.overlap_test.specs.Ways.{images, first_written, second_written}

pub record IsRoomOf (w : Ways) (c : Paired) (i : ℕ) : Type 0 where
  pub presented : IsPresented c.pres
  pub checked : IsChecked c
  pub ws : IsSpaceOf w.ws c
  pub images : w.images.items ≡ images c.pres i
  pub vectors : AreOf c (w.first ∷ w.second ∷ w.power ∷ w.product ∷ [])

abbrev pub WritesWays : Result (Unit {0}) WideAt → Ways → Paired → ℕ → ℕ → ℕ → Type 0
WritesWays result w c i j k =
    MatchResult result
    (λ _. (first_written c i j k ≡ Ok w.first) × (second_written c i j k ≡ Ok w.second))
    (λ at. tried c i (j, k) ≡ Wide j k)
