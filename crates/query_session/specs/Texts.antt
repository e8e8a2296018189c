-- Sessions of a command that writes one text and answers no lines.
--   IsWholeText ..   the whole output and the status that it ends with: a refusal, or the text
--   IsTextRun ..     the session of such a command
-- T files out   out is the text that belongs to the files · refused files names s   s comes instead,
-- over a presentation with these names · a what is asked for · f what is fed · s status
use Rattle.std.specs.Prelude.{ℕ, List, Option}
use Rattle.session_io.specs.Asked.{Asked, Fed, IsUntouched}
use Rattle.session_io.specs.Files.{Got}
use Rattle.session_io.specs.Lines.{as_lines}
use Rattle.query_session.specs.declared.status.Status.{Status}
use Rattle.query_session.specs.declared.status.Status.TheVariants as s
use Rattle.query_session.specs.Statuses.{text_of}
use Rattle.query_session.specs.Runs.{IsRun}

pub data IsWholeText (T : List Got → List ℕ → Type 0)
    (refused : List Got → List (List ℕ) → Status → Type 0) (f : Fed) (files : List Got)
    : Status → List ℕ → Type 0 where
  before : (names : List (List ℕ)) (status : Status) → refused files names status → IsUntouched f
      → IsWholeText T refused f files status (as_lines (text_of names status))
  written : (out : List ℕ) → T files out → IsUntouched f → IsWholeText T refused f files s.Done out

abbrev pub IsTextRun : (List Got → List ℕ → Type 0)
    → (Asked → List Got → List (List ℕ) → Status → Type 0) → ℕ → Asked → Fed → Status
    → Option (List ℕ) → Option (List ℕ) → Type 0
IsTextRun T refused limit a f =
    IsRun (λ files taken more. IsWholeText T (refused a) f files)
    (λ files taken more out. (status : Status) × IsWholeText T (refused a) f files status out)
    limit a f
