-- What proposers give for a level, and why it isn't taken. They are seen by what they give alone.
--   Proposal                a proposer's label, and its table for the level, where there is one
--   proposal label table    these two
--   IsOf p i t              the table is of the level, and its last generator is that of p
--   IsAccepted p i t        so it is, and each of its identities holds, none of them wide
--   IsReason p i given r    why what was given isn't taken: no table, one of another level or last
--                           generator, or one that is refused or wide, as its check names it
--   IsAsked p i o a         a tells the level, the label, and why what was given isn't taken
--   AreAsked p i os list    of each of the proposals os the list tells so, in their order
--   IsTaken                 the first proposal whose table is accepted has this label and table;
--                           of all before it the list tells why they aren't taken
-- p presentation · i level · t table · r reason · o proposal, os a list of them · a an entry
use Rattle.std.specs.Prelude.{◌≡◌, ℕ, List, ◌∷◌, ◌++◌, length, Option, Some, None}
use Rattle.std.specs.List.{AllZip}
use Rattle.nil_pres.specs.Presented.{Presented}
use Rattle.nil_pres.specs.Relations.{relations_of}
use Rattle.hall_table.specs.Tabled.{Tabled, IsTabled, last_of}
use Rattle.identity_check.specs.declared.verdict.Verdict.TheVariants as verdict
use Rattle.identity_check.specs.Events.{HaveEqualSides}
use Rattle.identity_check.specs.Verdicts.{IsVerdict}
use Rattle.hall_compile.specs.declared.asked.Asked.{Asked}
use Rattle.hall_compile.specs.declared.reason.Reason.{Reason}
use Rattle.hall_compile.specs.declared.reason.Reason.TheVariants.{NoTable, WrongLevel, Refused, Wide}

pub record Proposal : Type 0 where
  pub label : ℕ
  pub table : Option Tabled

abbrev pub proposal : ℕ → Option Tabled → Proposal
proposal label table = record { label = label; table = table }

abbrev pub IsOf : Presented → ℕ → Tabled → Type 0
IsOf p i t = (t.level ≡ i) × (last_of t ≡ length p.names)

pub record IsAccepted (p : Presented) (i : ℕ) (t : Tabled) : Type 0 where
  pub form : IsTabled t
  pub place : IsOf p i t
  pub sides : HaveEqualSides (relations_of p) t

abbrev pub IsReason : Presented → ℕ → Option Tabled → Reason → Type 0
IsReason p i given NoTable = given ≡ None
IsReason p i given WrongLevel = (t : Tabled) × (given ≡ Some t) × (¬ IsOf p i t)
IsReason p i given (Refused f) =
    (t : Tabled) × (given ≡ Some t) × IsOf p i t × IsVerdict p t (verdict.Refused f)
IsReason p i given (Wide id) =
    (t : Tabled) × (given ≡ Some t) × IsOf p i t × IsVerdict p t (verdict.Wide id)

pub record IsAsked (p : Presented) (i : ℕ) (o : Proposal) (a : Asked) : Type 0 where
  pub level : a.level ≡ i
  pub label : a.label ≡ o.label
  pub reason : IsReason p i o.table a.reason

abbrev pub AreAsked : Presented → ℕ → List Proposal → List Asked → Type 0
AreAsked p i os list = AllZip (IsAsked p i) os list

pub record IsTaken (p : Presented) (i : ℕ) (os : List Proposal) (label : ℕ) (t : Tabled)
    (list : List Asked) : Type 0 where
  pub before : List Proposal
  pub after : List Proposal
  pub listed : os ≡ before ++ proposal label (Some t) ∷ after
  pub asked : AreAsked p i before list
  pub accepted : IsAccepted p i t
