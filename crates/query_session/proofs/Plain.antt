-- Refusals that are no write fault and no want of memory, and those whose text names no generator.
--   IsPlain status   it is neither
--   IsUnnamed status   its text is the same over all names
use Rattle.std.proofs.Common.{◌≡◌, ℕ, List, refl}
use Rattle.nil_io.specs.declared.shelf_fault.ShelfFault.{ShelfFault}
use Rattle.nil_io.specs.declared.shelf_fault.ShelfFault.TheVariants as shelf
use Rattle.session_io.specs.Asked.{Asked}
use Rattle.session_io.specs.Files as files
use Rattle.session_io.specs.Files.{Got, IsUnread}
use Rattle.query_session.specs.declared.status.Status.{Status}
use Rattle.query_session.specs.declared.status.Status.TheVariants as s
use Rattle.query_session.specs.Limits.{file_limit}
use Rattle.query_session.specs.Statuses.{file_status, plain_text, text_of}
use Rattle.query_session.specs.Presentations.{IsFileRefused, unread, bad_file}

abbrev pub IsPlain : Status → Type 0
IsPlain status = (status ≡ s.WriteFault → ⊥) × (status ≡ s.Memory → ⊥)

abbrev pub IsUnnamed : Status → Type 0
IsUnnamed status = (names : List (List ℕ)) → plain_text status ≡ text_of names status

pub unread_plain : (a : Asked) (name : List ℕ) (limit : ℕ) (e : ShelfFault)
    → IsUnread a name limit e → IsPlain (file_status e)
unread_plain a name limit e (files.failed r) = ((λ h. cc), λ h. cc)
unread_plain a name limit e (files.long r l) = ((λ h. cc), λ h. cc)

pub file_plain : (pres : List ℕ) (a : Asked) (files : List Got) (names : List (List ℕ))
    (status : Status) → IsFileRefused pres a files names status → IsPlain status
file_plain pres a files names status (unread e u) = unread_plain a pres file_limit e u
file_plain pres a files names status (bad_file file line kind e) = ((λ h. cc), λ h. cc)

pub unread_unnamed : (e : ShelfFault) → IsUnnamed (file_status e)
unread_unnamed shelf.Failed names = refl
unread_unnamed shelf.Long names = refl
unread_unnamed shelf.Memory names = refl

pub file_unnamed : (pres : List ℕ) (a : Asked) (files : List Got) (names : List (List ℕ))
    (status : Status) → IsFileRefused pres a files names status → IsUnnamed status
file_unnamed pres a files names status (unread e u) = unread_unnamed e
file_unnamed pres a files names status (bad_file file line kind e) = λ other. refl
