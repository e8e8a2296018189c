-- What the parts of a compile hand on.
--   IsJudged p i given j         what comes of a proposer's answer: an accepted table, or the reason
--                                why it isn't taken
--   Asks p i os old new r        the proposals were tried in order: the first accepted table with
--                                its label, or none; what was asked and not taken was written down
--   SumsUp c i l                 the table of the sum plan, or where that overflows
--   ShowsAt p l                  where l is inconsistent, the overlap shows it
--   IsChoice c i os more l       where the overlaps agree: the table that is chosen, or where the sum
--                                plan overflows
--   IsPassage c i os more l      the overlaps agree and l is that, or l is the first that doesn't
--   Chooses, Passes              so it is, and what was asked and not taken was written down
-- p presentation · c a presentation with a table above level i · i level · os proposals
-- old new entries before and after, more those that were added · j a judgement · r l results
use Rattle.std.specs.Prelude.{◌≡◌, ℕ, List, ◌++◌, Option, Some, None}
use Rattle.nil_pres.specs.Presented.{Presented}
use Rattle.nil_pres.specs.Relations.{relations_of, between}
use Rattle.hall_table.specs.Multiplies.{Paired}
use Rattle.hall_table.specs.Tabled.{Tabled}
use Rattle.overlap_test.specs.declared.level_result.LevelResult.TheVariants as result
use Rattle.overlap_test.specs.Verdict.{IsVerdict}
use Rattle.overlap_test.specs.Inconsistent.{ShowsInconsistent}
use Rattle.sum_compiler.specs.Calls.{IsFirstAt}
use Rattle.sum_compiler.specs.Plan.{plan}
use Rattle.hall_compile.specs.declared.asked.Asked.{Asked}
use Rattle.hall_compile.specs.declared.judging.Judged.{Judged}
use Rattle.hall_compile.specs.declared.judging.Judged.TheVariants.{Taken, Left}
use Rattle.hall_compile.specs.declared.asking.Accepted.{Accepted}
use Rattle.hall_compile.specs.declared.level.Level.{Level}
use Rattle.hall_compile.specs.declared.level.Level.TheVariants.{Chosen, Inconsistent, Wide}
use Rattle.hall_compile.specs.declared.origin.Origin.TheVariants.{Base, Proposer, Sum}
use Rattle.hall_compile.specs.declared.wide_place.WidePlace.TheVariants as place
use Rattle.hall_compile.specs.Proposals.{Proposal, IsAccepted, IsReason, AreAsked, IsTaken}
use Rattle.hall_compile.specs.Choices.{IsSummed, IsChosen, SumOverflows}

abbrev pub IsJudged : Presented → ℕ → Option Tabled → Judged → Type 0
IsJudged p i given (Taken c) =
    (c.pres ≡ p) × (given ≡ Some c.table) × IsAccepted p i c.table
IsJudged p i given (Left r) = IsReason p i given r

pub record Asks (p : Presented) (i : ℕ) (os : List Proposal) (old new : List Asked)
    (r : Option Accepted) : Type 0 where
  pub more : List Asked
  pub written : new ≡ old ++ more
  pub none : r ≡ None → AreAsked p i os more
  pub some : (a : Accepted) → r ≡ Some a
      → (a.checked.pres ≡ p) × IsTaken p i os a.label a.checked.table more

abbrev pub SumsUp : Paired → ℕ → Level → Type 0
SumsUp c i (Chosen Base d) = ⊥
SumsUp c i (Chosen (Proposer label) d) = ⊥
SumsUp c i (Chosen Sum d) = (d.pres ≡ c.pres) × IsSummed c i d.table
SumsUp c i (Inconsistent o) = ⊥
SumsUp c i (Wide (place.Overlap m j k)) = ⊥
SumsUp c i (Wide (place.Sum m at)) =
    (m ≡ i) × IsFirstAt (plan c.table (between c.pres i) i) at
SumsUp c i (Wide (place.Trees k)) = ⊥

abbrev pub ShowsAt : Presented → Level → Type 0
ShowsAt p (Chosen o d) = Unit {0}
ShowsAt p (Inconsistent o) = ShowsInconsistent (relations_of p) o
ShowsAt p (Wide at) = Unit {0}

abbrev pub IsChoice : Paired → ℕ → List Proposal → List Asked → Level → Type 0
IsChoice c i os more (Chosen o d) = (d.pres ≡ c.pres) × IsChosen c i os o d.table more
IsChoice c i os more (Inconsistent o) = ⊥
IsChoice c i os more (Wide (place.Overlap m j k)) = ⊥
IsChoice c i os more (Wide (place.Sum m at)) = (m ≡ i) × SumOverflows c i os at
IsChoice c i os more (Wide (place.Trees k)) = ⊥

abbrev pub IsPassage : Paired → ℕ → List Proposal → List Asked → Level → Type 0
IsPassage c i os more (Chosen o d) =
    (d.pres ≡ c.pres) × IsVerdict c i result.Agree × IsChosen c i os o d.table more
IsPassage c i os more (Inconsistent o) = (o.i ≡ i) × IsVerdict c i (result.Differ o)
IsPassage c i os more (Wide (place.Overlap m j k)) = (m ≡ i) × IsVerdict c i (result.Wide j k)
IsPassage c i os more (Wide (place.Sum m at)) =
    (m ≡ i) × IsVerdict c i result.Agree × SumOverflows c i os at
IsPassage c i os more (Wide (place.Trees k)) = ⊥

pub record Chooses (c : Paired) (i : ℕ) (os : List Proposal) (old new : List Asked) (l : Level)
    : Type 0 where
  pub more : List Asked
  pub written : new ≡ old ++ more
  pub choice : IsChoice c i os more l

pub record Passes (c : Paired) (i : ℕ) (os : List Proposal) (old new : List Asked) (l : Level)
    : Type 0 where
  pub more : List Asked
  pub written : new ≡ old ++ more
  pub passage : IsPassage c i os more l
