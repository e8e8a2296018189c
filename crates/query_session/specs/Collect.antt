-- The command `collect PRES`.
--   IsPresentation pres files p    the file says p
--   IsCollectOf pres limit ..      the command's session
--   IsSmoothCollect pres a p       the known file says p
-- p a presentation
use Rattle.std.specs.Prelude.{◌≡◌, ℕ, List, [], ◌∷◌, Option}
use Rattle.nil_pres.specs.Presented.{Presented}
use Rattle.pres_text.specs.File.{IsFile}
use Rattle.collect_text.specs.Right.{IsCollected}
use Rattle.session_io.specs.Asked.{Asked, Fed}
use Rattle.session_io.specs.Files.{Got}
use Rattle.query_session.specs.declared.status.Status.{Status}
use Rattle.query_session.specs.Presentations.{presentation, IsFileRefused}
use Rattle.query_session.specs.Known.{IsKnown}
use Rattle.query_session.specs.Runs.{IsRunOver}

pub record IsPresentation (pres : List ℕ) (files : List Got) (p : Presented) : Type 0 where
  pub file : List ℕ
  pub got : files ≡ presentation pres file ∷ []
  pub is_file : IsFile p file

abbrev pub IsCollectOf : List ℕ → ℕ → Asked → Fed → Status → Option (List ℕ) → Option (List ℕ)
    → Type 0
IsCollectOf pres = IsRunOver Presented (IsPresentation pres) IsCollected (IsFileRefused pres)

pub record IsSmoothCollect (pres : List ℕ) (a : Asked) (p : Presented) : Type 0 where
  pub file : List ℕ
  pub known : IsKnown a (presentation pres file)
  pub is_file : IsFile p file
