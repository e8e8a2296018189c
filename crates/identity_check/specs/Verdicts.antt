-- What a check says of a table.
--   IsVerdict pres t v     each identity holds, and the pair is handed on; or the first event that
--                          stops fails or overflows, as it is named
--   HasEvidence pres t v   a failure's point and numbers show that the identity fails
--   IsOnlyTable pres t     each table of that level which multiplies in the presentation is t
--   IsOnlyAccepted pres t v   so it is where v accepts the table
-- pres presentation · t s tables · v verdict
use Rattle.std.specs.Prelude.{◌≡◌}
use Rattle.nil_pres.specs.Presented.{Presented}
use Rattle.nil_pres.specs.Relations.{relations_of}
use Rattle.hall_table.specs.Tabled.{Tabled, IsTabled, last_of}
use Rattle.hall_table.specs.Multiplies.{IsChecked}
use Rattle.identity_check.specs.declared.verdict.Verdict.{Verdict}
use Rattle.identity_check.specs.declared.verdict.Verdict.TheVariants.{Accepted, Refused, Wide}
use Rattle.identity_check.specs.Events.{events, HaveEqualSides}
use Rattle.identity_check.specs.Failures.{FailsFirst, OverflowsFirst}
use Rattle.identity_check.specs.Evidence.{IsEvidence}

abbrev pub IsVerdict : Presented → Tabled → Verdict → Type 0
IsVerdict pres t (Accepted c) =
    (c ≡ record { pres = pres; table = t }) × HaveEqualSides (relations_of pres) t
IsVerdict pres t (Refused f) = FailsFirst (relations_of pres) t (events t.level (last_of t)) f
IsVerdict pres t (Wide id) = OverflowsFirst (relations_of pres) t (events t.level (last_of t)) id

abbrev pub HasEvidence : Presented → Tabled → Verdict → Type 0
HasEvidence pres t (Refused f) = IsEvidence (relations_of pres) t f
HasEvidence pres t _ = Unit {0}

abbrev pub IsOnlyTable : Presented → Tabled → Type 0
IsOnlyTable pres t = (s : Tabled) → IsTabled s → s.level ≡ t.level
    → IsChecked record { pres = pres; table = s } → s ≡ t

abbrev pub IsOnlyAccepted : Presented → Tabled → Verdict → Type 0
IsOnlyAccepted pres t (Accepted c) = IsOnlyTable pres t
IsOnlyAccepted pres t _ = Unit {0}
