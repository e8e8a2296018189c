-- Files that were got, or the status that refuses them.
use Rattle.std.proofs.Common.{◌≡◌, ℕ, ◌≤◌, ◌⊎◌, inl, inr, List, [], ◌∷◌, Option, Some, IfSome, length, refl, sym, ap, subst, arith}
use Rattle.nil_pres.specs.Presented.{Presented}
use Rattle.pres_text.specs.declared.pres_fault.PresFault.{PresFault}
use Rattle.pres_text.specs.declared.pres_fault.PresFault.TheVariants as fault
use Rattle.pres_text.specs.FirstFault.{first_fault}
use Rattle.nil_io.specs.declared.shelf_fault.ShelfFault.{ShelfFault}
use Rattle.nil_io.specs.declared.shelf_fault.ShelfFault.TheVariants as shelf
use Rattle.nil_io.specs.Causes.{Rose}
use Rattle.session_io.specs.Asked.{Asked, asked}
use Rattle.session_io.specs.Files as files
use Rattle.session_io.specs.Files.{Got, IsGot, IsUnread}
use Rattle.session_io.specs.Lines.{as_lines}
use Rattle.query_session.specs.declared.refusal.Refusal.{Refusal}
use Rattle.query_session.specs.declared.status.Status.{Status}
use Rattle.query_session.specs.declared.status.Status.TheVariants as s
use Rattle.query_session.specs.Limits.{file_limit}
use Rattle.query_session.specs.Statuses.{file_status, pres_status, plain_text, text_of}
use Rattle.query_session.specs.Opening.{HasRefused, HasRefusal}
use Rattle.query_session.specs.Refusals.{plain, Says}
use Rattle.query_session.specs.Presentations.{presentation, HasPresentation, IsFileRefused, unread, bad_file}
use Rattle.query_session.proofs.Plain.{IsUnnamed}

-- how a reading fails
pub IsUnread-fault : (a : Asked) (name : List ℕ) (limit : ℕ) (e : ShelfFault)
    → (e ≡ shelf.Failed → Rose (a.faults name) (a.faults' name))
    → (e ≡ shelf.Long → IsUnread a name limit shelf.Long)
    → (file_status e ≡ s.Memory) ⊎ IsUnread a name limit e
IsUnread-fault a name limit shelf.Failed h k = inr (files.failed (h refl))
IsUnread-fault a name limit shelf.Long h k = inr (k refl)
IsUnread-fault a name limit shelf.Memory h k = inl refl

-- counts that rose later rose
pub Rose-later : (first before now : ℕ) → first ≤ before → Rose before now → Rose first now
Rose-later first before now h r = omega (arith, h, r)

-- what was read is what was got
pub IsGot-read : (a : Asked) (name : List ℕ) (limit : ℕ) (bytes read : List ℕ)
    (known : Option (List ℕ)) → read ≡ bytes → known ≡ a.contents name
    → IfSome known (λ xs. bytes ≡ xs) → length read ≤ limit
    → IsGot a (record { name = name; limit = limit; bytes = read })
IsGot-read a name limit bytes read known same told h within =
    let P : List ℕ → Type 0 = λ ys. IfSome (a.contents name) (λ xs. ys ≡ xs) in
    record {
      known =
          subst P (sym same) (subst (λ (o : Option (List ℕ)). IfSome o (λ xs. bytes ≡ xs)) told h);
      within = within;
    }

-- a file that was got stays so while others are read
pub HasPresentation-later : (pres : List ℕ) (words : List (List ℕ))
    (contents : List ℕ → Option (List ℕ)) (faults faults' later : List ℕ → ℕ)
    (longs longs' long_later : List ℕ → ℕ → ℕ) (p : Presented)
    → HasPresentation pres (asked words contents faults faults' longs longs') p
    → HasPresentation pres (asked words contents faults later longs long_later) p
HasPresentation-later pres words contents faults faults' later longs longs' long p h = record {
  file = h.file;
  got = record { known = h.got.known; within = h.got.within };
  is_file = h.is_file;
}

-- a refusal of another kind
pub HasRefused-weaker : (refused other : Asked → List Got → List (List ℕ) → Status → Type 0)
    → ((a : Asked) (files : List Got) (names : List (List ℕ)) (status : Status)
    → refused a files names status → other a files names status)
    → (a : Asked) (status : Status) → HasRefused refused a status → HasRefused other a status
HasRefused-weaker refused other weaker a status h =
    record { files = h.files; got = h.got; cause = either h.cause }
  where
    either : (status ≡ s.Memory) ⊎ ((names : List (List ℕ)) × refused a h.files names status)
        → (status ≡ s.Memory) ⊎ ((names : List (List ℕ)) × other a h.files names status)
    either (inl m) = inl m
    either (inr (names, k)) = inr (names, weaker a h.files names status k)

-- a refusal whose text names no generator
pub HasRefusal-plain : (refused : Asked → List Got → List (List ℕ) → Status → Type 0) (a : Asked)
    → ((files : List Got) (names : List (List ℕ)) (status : Status) → refused a files names status
    → IsUnnamed status)
    → (status : Status) → HasRefused refused a status → HasRefusal refused a (plain status)
HasRefusal-plain refused a unnamed status h =
    record { files = h.files; got = h.got; cause = either h.cause }
  where
    either : (status ≡ s.Memory) ⊎ ((names : List (List ℕ)) × refused a h.files names status)
        → (status ≡ s.Memory)
        ⊎ ((names : List (List ℕ)) × refused a h.files names status
        × (as_lines (plain_text status) ≡ as_lines (text_of names status)))
    either (inl m) = inl m
    either (inr (names, k)) = inr (names, k, ap as_lines (unnamed h.files names status k names))

pub HasRefusal-weaker : (refused other : Asked → List Got → List (List ℕ) → Status → Type 0)
    → ((a : Asked) (files : List Got) (names : List (List ℕ)) (status : Status)
    → refused a files names status → other a files names status)
    → (a : Asked) (r : Refusal) → HasRefusal refused a r → HasRefusal other a r
HasRefusal-weaker refused other weaker a r h =
    record { files = h.files; got = h.got; cause = either h.cause }
  where
    either : (r.status ≡ s.Memory)
        ⊎ ((names : List (List ℕ)) × refused a h.files names r.status × Says names r)
        → (r.status ≡ s.Memory)
        ⊎ ((names : List (List ℕ)) × other a h.files names r.status × Says names r)
    either (inl m) = inl m
    either (inr (names, k, says)) = inr (names, weaker a h.files names r.status k, says)

module _ (a : Asked) (pres : List ℕ) where
  pub HasRefused-unread : (e : ShelfFault)
      → (file_status e ≡ s.Memory) ⊎ IsUnread a pres file_limit e
      → HasRefused (IsFileRefused pres) a (file_status e)
  HasRefused-unread e (inl m) = record { files = []; got = tt; cause = inl m }
  HasRefused-unread e (inr u) = record { files = []; got = tt; cause = inr ([], unread e u) }

  pub HasRefused-fault : (file : List ℕ) (f : PresFault) → IsGot a (presentation pres file)
      → (f ≡ fault.Memory) ⊎ (first_fault file ≡ Some f)
      → HasRefused (IsFileRefused pres) a (pres_status f)
  HasRefused-fault file fault.Memory got h = record { files = []; got = tt; cause = inl refl }
  HasRefused-fault file (fault.File line kind) got (inl m) = cc
  HasRefused-fault file (fault.File line kind) got (inr h) = record {
    files = presentation pres file ∷ [];
    got = (got, tt);
    cause = inr ([], bad_file file line kind h);
  }
