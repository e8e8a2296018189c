-- The command `compile PRES`.
--   IsTableOf os pres files out    the table that the file's presentation compiles to, as a table file
--                                  says it: compact, with keys ascending and a line feed
--   IsCompileOf os pres limit ..   the command's session
-- os the proposals for each presentation and level
use Rattle.std.specs.Prelude.{◌≡◌, ℕ, List, length, Option}
use Rattle.nil_pres.specs.Presented.{Presented}
use Rattle.hall_compile.specs.declared.compiled.Compiled.{Compiled}
use Rattle.hall_compile.specs.Proposals.{Proposal}
use Rattle.table_json.specs.Format.{table_text}
use Rattle.table_json.specs.Saying.{IsTableText}
use Rattle.session_io.specs.Asked.{Asked, Fed}
use Rattle.session_io.specs.Files.{Got}
use Rattle.session_io.specs.Lines.{as_line}
use Rattle.query_session.specs.declared.status.Status.{Status}
use Rattle.query_session.specs.Compiling.{IsCompiledOf, IsRefused}
use Rattle.query_session.specs.Texts.{IsTextRun}

pub record IsTableOf (os : Presented → ℕ → List Proposal) (pres : List ℕ) (files : List Got)
    (out : List ℕ) : Type 0 where
  pub compiled : Compiled
  pub is : IsCompiledOf os pres files compiled
  pub says : IsTableText (length compiled.checked.pres.names)
      (table_text compiled.checked.table) compiled.checked.table
  pub text : out ≡ as_line (table_text compiled.checked.table)

abbrev pub IsCompileOf : (Presented → ℕ → List Proposal) → List ℕ → ℕ → Asked → Fed → Status
    → Option (List ℕ) → Option (List ℕ) → Type 0
IsCompileOf os pres = IsTextRun (IsTableOf os pres) (IsRefused os pres)
