-- What the overlaps of a level say of the presentation.
--   OfLevelsBelow P     P holds of each presentation with a checked table, and of the level below
--   IsOneVerdict c i    what the overlaps say in their order is exactly what they say
--   AgreementIs c i     where that is Agree, both ways of each overlap are equal, whatever makes
--                       the powers
--   DifferenceIs c i    where it is Differ, the overlap shows that the presentation is inconsistent
-- c a presentation with its table · i level, the one below that of the table
use Rattle.std.specs.Prelude.{◌≡◌, ℕ, ◌+◌, ◌≤◌}
use Rattle.nil_pres.specs.Presented.{IsPresented}
use Rattle.nil_pres.specs.Relations.{relations_of}
use Rattle.hall_table.specs.Agreement.{HaveEqualWays}
use Rattle.hall_table.specs.Multiplies.{Paired, IsChecked}
use Rattle.hall_table.specs.Tabled.{IsTabled}
use Rattle.overlap_test.specs.Inconsistent.{ShowsInconsistent}
use Rattle.overlap_test.specs.Verdict.{verdict, IsVerdict, IfAgree, IfDiffer}

abbrev pub OfLevelsBelow : (Paired → ℕ → Type 0) → Type 0
OfLevelsBelow P =
    (c : Paired) (i : ℕ) → IsPresented c.pres → IsTabled c.table → IsChecked c → 1 ≤ i
    → c.table.level ≡ i + 1 → P c i

abbrev pub IsOneVerdict : Paired → ℕ → Type 0
IsOneVerdict c i = IsVerdict c i (verdict c i)

abbrev pub AgreementIs : Paired → ℕ → Type 0
AgreementIs c i = IfAgree (verdict c i) (HaveEqualWays c i)

abbrev pub DifferenceIs : Paired → ℕ → Type 0
DifferenceIs c i = IfDiffer (verdict c i) (ShowsInconsistent (relations_of c.pres))
