-- The compile of a command.
--   IsCompiledBy os p c            c is what the compile of p says: its table multiplies in p, as no
--                                  other table of its level does, and p is consistent
--   IsCompiledOf os pres files c   the file says a presentation, and c is compiled from it
--   IsUncompiled os p s            the compile of p ends otherwise, and s says how: by the overlap of
--                                  which both vectors stand for one word and differ, or by the place
--                                  where a value overflows
--   IsRefused os pres a ..         the status comes before the output, with its cause
--   HasAccepted p i os             one of the proposals is accepted
--   GoesOn p os i above            over this table of the level above each overlap of the level agrees,
--                                  and its sum plan overflows nowhere, or a proposal is accepted
--   Compiles p os                  so it is at each table that the compile comes to
--   IsSmoothCompile os pres a p    the known file says the presentation p, which compiles
-- os the proposals for each presentation and level, or for each level, or for one · a what is asked
-- for · p presentation · i level · c compiled · o overlap · s status
use Rattle.std.specs.Prelude.{◌≡◌, ℕ, suc, ◌≤◌, ◌⊎◌, List, [], ◌∷◌, ◌++◌, All, length, Some}
use Rattle.nil_pres.specs.Presented.{Presented}
use Rattle.nil_pres.specs.Relations.{relations_of, between}
use Rattle.pres_text.specs.File.{IsFile}
use Rattle.hall_table.specs.Tabled.{Tabled, IsTabled}
use Rattle.hall_table.specs.Multiplies.{IsChecked}
use Rattle.identity_check.specs.Verdicts.{IsOnlyTable}
use Rattle.overlap_test.specs.declared.overlap.Overlap.{Overlap}
use Rattle.overlap_test.specs.declared.level_result.LevelResult.TheVariants.{Agree}
use Rattle.overlap_test.specs.Inconsistent.{ShowsInconsistent}
use Rattle.overlap_test.specs.Verdict.{tried, overlaps}
use Rattle.sum_compiler.specs.Calls.{NoneOverflows}
use Rattle.sum_compiler.specs.Plan.{plan}
use Rattle.hall_compile.specs.declared.asked.Asked as entry
use Rattle.hall_compile.specs.declared.compiled.Compiled.{Compiled}
use Rattle.hall_compile.specs.declared.origin.Origin.{Origin}
use Rattle.hall_compile.specs.declared.outcome.Outcome.TheVariants as outcome
use Rattle.hall_compile.specs.declared.wide_place.WidePlace.{WidePlace}
use Rattle.hall_compile.specs.Deciding.{IsSound}
use Rattle.hall_compile.specs.Levels.{Reached, paired}
use Rattle.hall_compile.specs.Outcomes.{IsOutcome}
use Rattle.hall_compile.specs.Proposals.{Proposal, proposal, IsAccepted}
use Rattle.session_io.specs.Asked.{Asked}
use Rattle.session_io.specs.Files.{Got}
use Rattle.query_session.specs.declared.status.Status.{Status}
use Rattle.query_session.specs.declared.status.Status.TheVariants as s
use Rattle.query_session.specs.Known.{IsKnown}
use Rattle.query_session.specs.Presentations.{presentation, IsFileRefused}

pub record IsCompiledBy (os : ℕ → List Proposal) (p : Presented) (c : Compiled) : Type 0 where
  pub outcome : IsOutcome p os (outcome.Compiled c)
  pub sound : IsSound p c
  pub only : IsOnlyTable p c.checked.table
  pub form : IsTabled c.checked.table
  pub multiplies : IsChecked c.checked

pub record IsCompiledOf (os : Presented → ℕ → List Proposal) (pres : List ℕ) (files : List Got)
    (c : Compiled) : Type 0 where
  pub file : List ℕ
  pub got : files ≡ presentation pres file ∷ []
  pub is_file : IsFile c.checked.pres file
  pub compiled : IsCompiledBy (os c.checked.pres) c.checked.pres c

pub data IsUncompiled (os : ℕ → List Proposal) (p : Presented) : Status → Type 0 where
  inconsistent : (o : Overlap) → IsOutcome p os (outcome.Inconsistent o)
      → ShowsInconsistent (relations_of p) o → IsUncompiled os p (s.Inconsistent o)
  wide : (at : WidePlace) → IsOutcome p os (outcome.Wide at) → IsUncompiled os p (s.Wide at)

pub data IsRefused (os : Presented → ℕ → List Proposal) (pres : List ℕ) (a : Asked)
    : List Got → List (List ℕ) → Status → Type 0 where
  in_file : (files : List Got) (names : List (List ℕ)) (status : Status)
      → IsFileRefused pres a files names status → IsRefused os pres a files names status
  uncompiled : (file : List ℕ) (p : Presented) (status : Status) → IsFile p file
      → IsUncompiled (os p) p status
      → IsRefused os pres a (presentation pres file ∷ []) p.names status

pub record HasAccepted (p : Presented) (i : ℕ) (os : List Proposal) : Type 0 where
  pub before : List Proposal
  pub label : ℕ
  pub t : Tabled
  pub after : List Proposal
  pub listed : os ≡ before ++ proposal label (Some t) ∷ after
  pub accepted : IsAccepted p i t

pub record GoesOn (p : Presented) (os : ℕ → List Proposal) (i : ℕ) (above : Tabled) : Type 0 where
  pub agree : All (λ o. tried (paired p above) i o ≡ Agree) (overlaps (length p.names) i)
  pub table : NoneOverflows (plan above (between p i) i) ⊎ HasAccepted p i (os i)

abbrev pub Compiles : Presented → (ℕ → List Proposal) → Type 0
Compiles p os = (i : ℕ) (above : Tabled) (by : List Origin) (list : List entry.Asked)
    → Reached p os above by list → 1 ≤ i → above.level ≡ suc i → GoesOn p os i above

pub record IsSmoothCompile (os : Presented → ℕ → List Proposal) (pres : List ℕ) (a : Asked)
    (p : Presented) : Type 0 where
  pub file : List ℕ
  pub known : IsKnown a (presentation pres file)
  pub is_file : IsFile p file
  pub compiles : Compiles p (os p)
