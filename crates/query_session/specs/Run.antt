-- The command `run PRES`.
--   IsOpened os pres files c   the file says the presentation of c, and c's table is the one that it
--                              compiles to
--   IsRunOf os pres limit ..   the command's session
-- os the proposals for each presentation and level · c a presentation with its table
use Rattle.std.specs.Prelude.{◌≡◌, ℕ, List, Option}
use Rattle.nil_pres.specs.Presented.{Presented}
use Rattle.hall_table.specs.Multiplies.{Paired}
use Rattle.hall_compile.specs.declared.compiled.Compiled.{Compiled}
use Rattle.hall_compile.specs.Proposals.{Proposal}
use Rattle.session_io.specs.Asked.{Asked, Fed}
use Rattle.session_io.specs.Files.{Got}
use Rattle.query_session.specs.declared.status.Status.{Status}
use Rattle.query_replies.specs.Right.{IsReply}
use Rattle.query_session.specs.Runs.{IsRunOver}
use Rattle.query_session.specs.Compiling.{IsCompiledOf, IsRefused}

pub record IsOpened (os : Presented → ℕ → List Proposal) (pres : List ℕ) (files : List Got)
    (c : Paired) : Type 0 where
  pub compiled : Compiled
  pub is : IsCompiledOf os pres files compiled
  pub checked : compiled.checked ≡ c

abbrev pub IsRunOf : (Presented → ℕ → List Proposal) → List ℕ → ℕ → Asked → Fed → Status
    → Option (List ℕ) → Option (List ℕ) → Type 0
IsRunOf os pres = IsRunOver Paired (IsOpened os pres) IsReply (IsRefused os pres)
