-- The command `check PRES`.
--   IsVerdict os pres files out   what the compile of the file's presentation says: that it is
--                                 consistent, and of each level who was asked in vain and where its
--                                 table comes from
--   IsCheckOf os pres limit ..    the command's session
-- os the proposals for each presentation and level
use Rattle.std.specs.Prelude.{◌≡◌, ℕ, List, Option}
use Rattle.nil_pres.specs.Presented.{Presented}
use Rattle.hall_compile.specs.declared.compiled.Compiled.{Compiled}
use Rattle.hall_compile.specs.Proposals.{Proposal}
use Rattle.compile_text.specs.Lines.{compiled_lines}
use Rattle.session_io.specs.Asked.{Asked, Fed}
use Rattle.session_io.specs.Files.{Got}
use Rattle.session_io.specs.Lines.{as_lines}
use Rattle.query_session.specs.declared.status.Status.{Status}
use Rattle.query_session.specs.Compiling.{IsCompiledOf, IsRefused}
use Rattle.query_session.specs.Texts.{IsTextRun}

pub record IsVerdict (os : Presented → ℕ → List Proposal) (pres : List ℕ) (files : List Got)
    (out : List ℕ) : Type 0 where
  pub compiled : Compiled
  pub is : IsCompiledOf os pres files compiled
  pub lines : out ≡ as_lines (compiled_lines compiled)

abbrev pub IsCheckOf : (Presented → ℕ → List Proposal) → List ℕ → ℕ → Asked → Fed → Status
    → Option (List ℕ) → Option (List ℕ) → Type 0
IsCheckOf os pres = IsTextRun (IsVerdict os pres) (IsRefused os pres)
