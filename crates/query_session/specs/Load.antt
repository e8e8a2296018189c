-- The command `load M COUNT SEED`.
--   lines_of m count seed          the lines of the load
--   IsLoaded os m count seed ..    the numbers are in range, the presentation of matrices with m rows
--                                  compiles, the lines are answered by its table, each rightly, and
--                                  out has the counts
--   IsRefused os m count seed ..   the status comes instead, with its cause
--   IsLoadOf os m count seed ..    the command's session
--   IsSmoothLoad os m count seed   the numbers are in range, and the presentation compiles
-- os the proposals for each presentation and level · a what is asked for · s status
use Rattle.std.specs.Prelude.{◌≡◌, ℕ, List, [], length, Option, None}
use Rattle.nil_pres.specs.Presented.{Presented}
use Rattle.nil_examples.specs.Places.{places, unitriangular}
use Rattle.nil_examples.specs.Loads.{queries, load_fault}
use Rattle.hall_compile.specs.declared.compiled.Compiled.{Compiled}
use Rattle.hall_compile.specs.Proposals.{Proposal}
use Rattle.load_tally.specs.declared.counts.Tally.{Tally}
use Rattle.load_tally.specs.Tallies.{IsTally, tally_text}
use Rattle.session_io.specs.Asked.{Asked, Fed}
use Rattle.session_io.specs.Files.{Got}
use Rattle.session_io.specs.Lines.{as_line, whole_lines}
use Rattle.query_session.specs.declared.status.Status.{Status}
use Rattle.query_session.specs.Compiling.{IsCompiledBy, IsUncompiled, Compiles}
use Rattle.query_session.specs.Sizes.{IsSizeRefused}
use Rattle.query_session.specs.Texts.{IsTextRun}

abbrev pub lines_of : ℕ → ℕ → ℕ → List (List ℕ)
lines_of m count seed = whole_lines (queries (length (places m)) seed count)

pub record IsLoaded (os : Presented → ℕ → List Proposal) (m count seed : ℕ) (files : List Got)
    (out : List ℕ) : Type 0 where
  pub none : files ≡ []
  pub within : load_fault m count seed ≡ None
  pub compiled : Compiled
  pub is : IsCompiledBy (os (unitriangular m)) (unitriangular m) compiled
  pub tally : Tally
  pub counted : IsTally compiled.checked (lines_of m count seed) tally
  pub text : out ≡ as_line (tally_text tally)

pub data IsRefused (os : Presented → ℕ → List Proposal) (m count seed : ℕ) (a : Asked)
    : List Got → List (List ℕ) → Status → Type 0 where
  out_of_range : (files : List Got) (names : List (List ℕ)) (status : Status)
      → IsSizeRefused (load_fault m count seed) a files names status
      → IsRefused os m count seed a files names status
  uncompiled : (status : Status) → load_fault m count seed ≡ None
      → IsUncompiled (os (unitriangular m)) (unitriangular m) status
      → IsRefused os m count seed a [] (unitriangular m).names status

abbrev pub IsLoadOf : (Presented → ℕ → List Proposal) → ℕ → ℕ → ℕ → ℕ → Asked → Fed → Status
    → Option (List ℕ) → Option (List ℕ) → Type 0
IsLoadOf os m count seed = IsTextRun (IsLoaded os m count seed) (IsRefused os m count seed)

pub record IsSmoothLoad (os : Presented → ℕ → List Proposal) (m count seed : ℕ) : Type 0 where
  pub within : load_fault m count seed ≡ None
  pub compiles : Compiles (unitriangular m) (os (unitriangular m))
