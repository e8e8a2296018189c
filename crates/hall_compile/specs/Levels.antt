-- The levels that a compile reaches, from the last generator downwards.
--   base_table n                the table of the last generator: x_n + y_n
--   Reached p os t by list      the compile comes to the table t: that of the last generator, or
--                               from that of a level, where the overlaps of the level below agree,
--                               the table that is chosen there. By tells the origins of the tables
--                               so far, and the list all that were asked and not taken, in order
--   paired p t                  the pair of a presentation and a table
--   StopsAt p os i P            the compile comes to a table of the level above i, and P holds of it
-- p presentation · n generators · i level · t above tables · os the proposals for each level
-- by origins · o origin · list more entries
use Rattle.std.specs.Prelude.{◌≡◌, ℕ, suc, ◌≤◌, List, [], ◌∷◌, ◌++◌, length}
use Rattle.nil_pres.specs.Presented.{Presented}
use Rattle.hall_table.specs.Multiplies.{Paired}
use Rattle.hall_table.specs.Tabled.{Tabled}
use Rattle.overlap_test.specs.declared.level_result.LevelResult.TheVariants.{Agree}
use Rattle.overlap_test.specs.Verdict.{IsVerdict}
use Rattle.sum_compiler.specs.Plan.{first_poly}
use Rattle.hall_compile.specs.declared.asked.Asked.{Asked}
use Rattle.hall_compile.specs.declared.origin.Origin.{Origin}
use Rattle.hall_compile.specs.declared.origin.Origin.TheVariants.{Base}
use Rattle.hall_compile.specs.Proposals.{Proposal}
use Rattle.hall_compile.specs.Choices.{IsChosen}

abbrev pub base_table : ℕ → Tabled
base_table n = record { level = n; polys = first_poly n ∷ [] }

abbrev pub paired : Presented → Tabled → Paired
paired p t = record { pres = p; table = t }

pub data Reached (p : Presented) (os : ℕ → List Proposal)
    : Tabled → List Origin → List Asked → Type 0 where
  base : Reached p os (base_table (length p.names)) (Base ∷ []) []
  next : (i : ℕ) (above t : Tabled) (by : List Origin) (o : Origin) (list more : List Asked)
      → Reached p os above by list → 1 ≤ i → above.level ≡ suc i
      → IsVerdict (paired p above) i Agree → IsChosen (paired p above) i (os i) o t more
      → Reached p os t (by ++ o ∷ []) (list ++ more)

pub record StopsAt (p : Presented) (os : ℕ → List Proposal) (i : ℕ) (P : Paired → Type 0)
    : Type 0 where
  pub above : Tabled
  pub by : List Origin
  pub list : List Asked
  pub reached : Reached p os above by list
  pub least : 1 ≤ i
  pub level : above.level ≡ suc i
  pub holds : P (paired p above)
