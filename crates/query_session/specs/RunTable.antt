-- The command `run PRES TABLE`.
--   table_file table text        the table file, as it is got
--   IsAccepted p text t          the text says the table t, each identity of it holds in p and none
--                                is wide; so t multiplies in p, as no other table of its level does
--   IsTableRefused p text s      the text is refused by its form, by the first identity that fails, or
--                                by the first that is wide
--   IsOpened pres table files c  the files say the presentation and the table of c, which is
--                                accepted; so the presentation is consistent
--   IsRefused pres table a ..    the status comes before the queries, with its cause
--   IsRunTableOf pres table ..   the command's session
--   IsSmoothRunTable pres table a p   the known files say p and an accepted table of it
-- a what is asked for · c a presentation with its table · p presentation · t table · s status
use Rattle.std.specs.Prelude.{◌≡◌, ◌≢◌, ℕ, List, [], ◌∷◌, length, Option}
use Rattle.nil_word.specs.Congruence.{IsConsistent}
use Rattle.nil_pres.specs.Presented.{Presented}
use Rattle.nil_pres.specs.Relations.{relations_of}
use Rattle.pres_text.specs.File.{IsFile}
use Rattle.hall_table.specs.Tabled.{Tabled}
use Rattle.hall_table.specs.Multiplies.{Paired, IsChecked}
use Rattle.table_json.specs.declared.table_fault.TableFault.{TableFault}
use Rattle.table_json.specs.declared.table_fault.TableFault.TheVariants as fault
use Rattle.table_json.specs.Saying.{IsTableText}
use Rattle.table_json.specs.Refusing.{IsFirstRefusal}
use Rattle.identity_check.specs.declared.identity.Identity.{Identity}
use Rattle.identity_check.specs.declared.failure.Failure.{Failure}
use Rattle.identity_check.specs.declared.verdict.Verdict.TheVariants as verdict
use Rattle.identity_check.specs.Events.{HaveEqualSides}
use Rattle.identity_check.specs.Verdicts.{IsVerdict, HasEvidence, IsOnlyTable}
use Rattle.nil_io.specs.declared.shelf_fault.ShelfFault.{ShelfFault}
use Rattle.session_io.specs.Asked.{Asked, Fed}
use Rattle.session_io.specs.Files.{Got, IsUnread}
use Rattle.query_session.specs.declared.status.Status.{Status}
use Rattle.query_session.specs.declared.status.Status.TheVariants as s
use Rattle.query_session.specs.declared.table_refusal.TableRefusal.TheVariants as r
use Rattle.query_session.specs.Limits.{table_limit}
use Rattle.query_replies.specs.Right.{IsReply}
use Rattle.query_session.specs.Statuses.{file_status}
use Rattle.query_session.specs.Runs.{IsRunOver}
use Rattle.query_session.specs.Known.{IsKnown}
use Rattle.query_session.specs.Presentations.{presentation, IsFileRefused}

abbrev pub table_file : List ℕ → List ℕ → Got
table_file table text = record { name = table; limit = table_limit; bytes = text }

pub record IsAccepted (p : Presented) (text : List ℕ) (t : Tabled) : Type 0 where
  pub says : IsTableText (length p.names) text t
  pub holds : HaveEqualSides (relations_of p) t
  pub multiplies : IsChecked record { pres = p; table = t }
  pub only : IsOnlyTable p t

pub data IsTableRefused (p : Presented) (text : List ℕ) : Status → Type 0 where
  form : (f : TableFault) → f ≢ fault.Memory → IsFirstRefusal (length p.names) text f
      → IsTableRefused p text (s.TableRefused (r.Form f))
  identity : (t : Tabled) (f : Failure) → IsTableText (length p.names) text t
      → IsVerdict p t (verdict.Refused f) → HasEvidence p t (verdict.Refused f)
      → IsTableRefused p text (s.TableRefused (r.Identity f))
  wide : (t : Tabled) (id : Identity) → IsTableText (length p.names) text t
      → IsVerdict p t (verdict.Wide id) → IsTableRefused p text (s.TableRefused (r.Wide id))

pub record IsOpened (pres table : List ℕ) (files : List Got) (c : Paired) : Type 0 where
  pub file : List ℕ
  pub text : List ℕ
  pub got : files ≡ presentation pres file ∷ table_file table text ∷ []
  pub is_file : IsFile c.pres file
  pub accepted : IsAccepted c.pres text c.table
  pub consistent : IsConsistent (relations_of c.pres) 1

pub data IsRefused (pres table : List ℕ) (a : Asked) : List Got → List (List ℕ) → Status
    → Type 0 where
  in_file : (files : List Got) (names : List (List ℕ)) (status : Status)
      → IsFileRefused pres a files names status → IsRefused pres table a files names status
  unread : (file : List ℕ) (p : Presented) (e : ShelfFault) → IsFile p file
      → IsUnread a table table_limit e
      → IsRefused pres table a (presentation pres file ∷ []) p.names (file_status e)
  in_table : (file text : List ℕ) (p : Presented) (status : Status) → IsFile p file
      → IsTableRefused p text status
      → IsRefused pres table a (presentation pres file ∷ table_file table text ∷ []) p.names status

abbrev pub IsRunTableOf : List ℕ → List ℕ → ℕ → Asked → Fed → Status → Option (List ℕ)
    → Option (List ℕ) → Type 0
IsRunTableOf pres table =
    IsRunOver Paired (IsOpened pres table) IsReply (IsRefused pres table)

pub record IsSmoothRunTable (pres table : List ℕ) (a : Asked) (p : Presented) : Type 0 where
  pub file : List ℕ
  pub text : List ℕ
  pub t : Tabled
  pub known_file : IsKnown a (presentation pres file)
  pub known_table : IsKnown a (table_file table text)
  pub is_file : IsFile p file
  pub says : IsTableText (length p.names) text t
  pub holds : HaveEqualSides (relations_of p) t
