-- The lines of what a compile says.
--   name_at names k             the name of a generator, and nothing where there is none
--   three_names names k j i     three names, one space between
--   reason_text r               why a table isn't taken
--   asked_line a                one that was asked in vain: the level, its label and the reason
--   asked_lines i asked         those that were asked for a level, in their order
--   origin_text o               where a table comes from
--   origin_line i o             where the table of a level comes from
--   level_lines asked i o       those that were asked for a level, and where its table comes from
--   levels_lines asked by       the levels from the last one down: the last origin is level 1's
--   compiled_lines c            that the presentation is consistent, and its levels
--   step_text s                 a step of a sum plan, by its name
--   place_text at               a place of a sum plan: the step, and two numbers of generators
--   wide_line names at          the place of a value that overflows
--   wide_lines names at         its one line
--   inconsistent_lines names o  the generators of an overlap, and its two vectors
-- i level · i < j < k generators · r reason · a an entry of asked · o origin or overlap
-- by a list of origins · c compiled · s step · at place
use Rattle.std.specs.Prelude.{ℕ, zero, suc, ◌==◌, List, [], ◌∷◌, ◌++◌, length, map, slice_index_or, codes}
use Rattle.std.specs.List.{filter}
use Rattle.std.specs.Fmt.{decimal}
use Rattle.word_text.specs.Vectors.{text_of_entries}
use Rattle.identity_check.specs.Texts.{identity_text}
use Rattle.overlap_test.specs.declared.overlap.Overlap.{Overlap}
use Rattle.sum_compiler.specs.declared.sum_step.SumStep.{SumStep}
use Rattle.sum_compiler.specs.declared.sum_step.SumStep.TheVariants as step
use Rattle.sum_compiler.specs.declared.sum_place.SumPlace.{SumPlace}
use Rattle.hall_compile.specs.declared.asked.Asked.{Asked}
use Rattle.hall_compile.specs.declared.compiled.Compiled.{Compiled}
use Rattle.hall_compile.specs.declared.origin.Origin.{Origin}
use Rattle.hall_compile.specs.declared.origin.Origin.TheVariants as origin
use Rattle.hall_compile.specs.declared.reason.Reason.{Reason}
use Rattle.hall_compile.specs.declared.reason.Reason.TheVariants as reason
use Rattle.hall_compile.specs.declared.wide_place.WidePlace.{WidePlace}
use Rattle.hall_compile.specs.declared.wide_place.WidePlace.TheVariants as place

-- ---- names
abbrev pub name_at : List (List ℕ) → ℕ → List ℕ
name_at names zero = []
name_at names (suc k) = slice_index_or names k []

abbrev pub three_names : List (List ℕ) → ℕ → ℕ → ℕ → List ℕ
three_names names k j i =
    name_at names k ++ codes " " ++ name_at names j ++ codes " " ++ name_at names i

-- ---- compiled
abbrev pub reason_text : Reason → List ℕ
reason_text reason.NoTable = codes "none"
reason_text reason.WrongLevel = codes "wrong level"
reason_text (reason.Refused f) = codes "refused " ++ identity_text f.identity
reason_text (reason.Wide id) = codes "wide " ++ identity_text id

abbrev pub asked_line : Asked → List ℕ
asked_line a =
    codes "level " ++ decimal a.level ++ codes " asked " ++ decimal a.label ++ codes " "
    ++ reason_text a.reason

abbrev pub asked_lines : ℕ → List Asked → List (List ℕ)
asked_lines i asked = map asked_line (filter (λ a. a.level == i) asked)

abbrev pub origin_text : Origin → List ℕ
origin_text origin.Base = codes "base"
origin_text (origin.Proposer label) = codes "proposer " ++ decimal label
origin_text origin.Sum = codes "sum"

abbrev pub origin_line : ℕ → Origin → List ℕ
origin_line i o = codes "level " ++ decimal i ++ codes " " ++ origin_text o

abbrev pub level_lines : List Asked → ℕ → Origin → List (List ℕ)
level_lines asked i o = asked_lines i asked ++ origin_line i o ∷ []

abbrev pub levels_lines : List Asked → List Origin → List (List ℕ)
levels_lines asked [] = []
levels_lines asked (o ∷ by) =
    level_lines asked (length (o ∷ by)) o ++ levels_lines asked by

abbrev pub compiled_lines : Compiled → List (List ℕ)
compiled_lines c = codes "consistent" ∷ levels_lines c.asked.items c.by.items

-- ---- wide
abbrev pub step_text : SumStep → List ℕ
step_text step.Power = codes "power"
step_text step.Image = codes "image"
step_text step.Product = codes "product"
step_text step.Last = codes "last"

abbrev pub place_text : SumPlace → List ℕ
place_text at = step_text at.step ++ codes " " ++ decimal at.j ++ codes " " ++ decimal at.k

abbrev pub wide_line : List (List ℕ) → WidePlace → List ℕ
wide_line names (place.Overlap i j k) = codes "wide overlap " ++ three_names names k j i
wide_line names (place.Sum i at) =
    codes "wide sum level " ++ decimal i ++ codes " " ++ place_text at
wide_line names (place.Trees k) = codes "wide trees " ++ name_at names k

abbrev pub wide_lines : List (List ℕ) → WidePlace → List (List ℕ)
wide_lines names at = wide_line names at ∷ []

-- ---- inconsistent
abbrev pub inconsistent_lines : List (List ℕ) → Overlap → List (List ℕ)
inconsistent_lines names o =
    (codes "inconsistent " ++ three_names names o.k o.j o.i)
    ∷ text_of_entries o.left ∷ text_of_entries o.right ∷ []
