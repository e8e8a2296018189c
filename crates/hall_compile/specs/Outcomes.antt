-- What a compile says.
--   IsCompiled p os c      it comes to level 1: its table, the origins of the tables of the levels
--                          from the last one on, and all that were asked and not taken, in order
--   IsInconsistent p os o  the compile stops at the level of the overlap o, which is the first
--                          there that doesn't agree, and its two ways differ
--   IsWide p os at         it stops where a value of an overlap overflows, the first there that
--                          doesn't agree; or, where all agree and no proposal is accepted, at the
--                          first place of the sum plan that overflows. Trees are of no compile
--   IsOutcome p os r       one of these
-- p presentation · os the proposals for each level · i level · c compiled · o overlap · at place
-- r outcome
use Rattle.std.specs.Prelude.{◌≡◌, ℕ, List}
use Rattle.nil_pres.specs.Presented.{Presented}
use Rattle.overlap_test.specs.declared.overlap.Overlap.{Overlap}
use Rattle.overlap_test.specs.declared.level_result.LevelResult.TheVariants as says
use Rattle.overlap_test.specs.Verdict.{IsVerdict}
use Rattle.hall_compile.specs.declared.compiled.Compiled.{Compiled}
use Rattle.hall_compile.specs.declared.outcome.Outcome.{Outcome}
use Rattle.hall_compile.specs.declared.outcome.Outcome.TheVariants as outcome
use Rattle.hall_compile.specs.declared.wide_place.WidePlace.{WidePlace}
use Rattle.hall_compile.specs.declared.wide_place.WidePlace.TheVariants as place
use Rattle.hall_compile.specs.Proposals.{Proposal}
use Rattle.hall_compile.specs.Choices.{SumOverflows}
use Rattle.hall_compile.specs.Levels.{Reached, StopsAt}

pub record IsCompiled (p : Presented) (os : ℕ → List Proposal) (c : Compiled) : Type 0 where
  pub pres : c.checked.pres ≡ p
  pub level : c.checked.table.level ≡ 1
  pub reached : Reached p os c.checked.table c.by.items c.asked.items

abbrev pub IsInconsistent : Presented → (ℕ → List Proposal) → Overlap → Type 0
IsInconsistent p os o = StopsAt p os o.i (λ c. IsVerdict c o.i (says.Differ o))

abbrev pub IsWide : Presented → (ℕ → List Proposal) → WidePlace → Type 0
IsWide p os (place.Overlap i j k) = StopsAt p os i (λ c. IsVerdict c i (says.Wide j k))
IsWide p os (place.Sum i at) =
    StopsAt p os i (λ c. IsVerdict c i says.Agree × SumOverflows c i (os i) at)
IsWide p os (place.Trees k) = ⊥

abbrev pub IsOutcome : Presented → (ℕ → List Proposal) → Outcome → Type 0
IsOutcome p os (outcome.Compiled c) = IsCompiled p os c
IsOutcome p os (outcome.Inconsistent o) = IsInconsistent p os o
IsOutcome p os (outcome.Wide at) = IsWide p os at
