-- The presentation file of a command.
--   presentation pres file      the file of the presentation, as it is got
--   HasPresentation pres a p    it was got, and says p
--   IsFileRefused pres a ..     it wasn't read, or it has a first fault: the status says which
-- a what is asked for · pres the name of the file · p a presentation
use Rattle.std.specs.Prelude.{◌≡◌, ℕ, List, [], ◌∷◌, Some}
use Rattle.nil_pres.specs.Presented.{Presented}
use Rattle.pres_text.specs.declared.file_kind.FileKind.{FileKind}
use Rattle.pres_text.specs.declared.pres_fault.PresFault.TheVariants as fault
use Rattle.pres_text.specs.File.{IsFile}
use Rattle.pres_text.specs.FirstFault.{first_fault}
use Rattle.nil_io.specs.declared.shelf_fault.ShelfFault.{ShelfFault}
use Rattle.session_io.specs.Asked.{Asked}
use Rattle.session_io.specs.Files.{Got, IsGot, IsUnread}
use Rattle.query_session.specs.declared.status.Status.{Status}
use Rattle.query_session.specs.declared.status.Status.TheVariants as s
use Rattle.query_session.specs.Limits.{file_limit}
use Rattle.query_session.specs.Statuses.{file_status}

abbrev pub presentation : List ℕ → List ℕ → Got
presentation pres file = record { name = pres; limit = file_limit; bytes = file }

pub record HasPresentation (pres : List ℕ) (a : Asked) (p : Presented) : Type 0 where
  pub file : List ℕ
  pub got : IsGot a (presentation pres file)
  pub is_file : IsFile p file

pub data IsFileRefused (pres : List ℕ) (a : Asked) : List Got → List (List ℕ) → Status
    → Type 0 where
  unread : (e : ShelfFault) → IsUnread a pres file_limit e
      → IsFileRefused pres a [] [] (file_status e)
  bad_file : (file : List ℕ) (line : ℕ) (kind : FileKind)
      → first_fault file ≡ Some (fault.File line kind)
      → IsFileRefused pres a (presentation pres file ∷ []) [] (s.BadFile line kind)
