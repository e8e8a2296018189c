-- A session without a fault answers all.
use Rattle.std.proofs.Common.{◌≡◌, ℕ, ◌⊎◌, ◌<◌, ◌≤◌, inl, inr, List, length, Option, Some, None, IfSome, refl, sym, ◌∙◌, ap, subst, arith, length-append}
use Rattle.std.specs.Io.KnownBytes.{Consumes}
use Rattle.nil_pres.specs.Presented.{Presented}
use Rattle.pres_text.specs.File.{IsFile}
use Rattle.pres_text.specs.FirstFault.{first_fault}
use Rattle.nil_io.specs.declared.shelf_fault.ShelfFault.{ShelfFault}
use Rattle.session_io.specs.declared.end.End.{End}
use Rattle.session_io.specs.Asked.{Asked, Fed}
use Rattle.session_io.specs.Files as files
use Rattle.session_io.specs.Files.{Got, IsGot, AreGot, IsUnread}
use Rattle.session_io.specs.Taking as taking
use Rattle.session_io.specs.Taking.{IsEnd}
use Rattle.query_session.specs.declared.status.Status.{Status}
use Rattle.query_session.specs.declared.status.Status.TheVariants as s
use Rattle.query_session.specs.Limits.{file_limit}
use Rattle.query_session.specs.Known.{IsKnown, AreKnown}
use Rattle.query_session.specs.Statuses.{end_status}
use Rattle.query_session.specs.Runs.{IsWhole, before, answered, IsPromise, Wrote, IsRunOver}
use Rattle.query_session.specs.Texts as texts
use Rattle.query_session.specs.Texts.{IsWholeText, IsTextRun}
use Rattle.query_session.specs.Presentations.{presentation, IsFileRefused, unread, bad_file}

-- what is taken is a front of what was there
length-taken : (old new : Option (List ℕ)) (taken xs : List ℕ) → old ≡ Some xs
    → Consumes old new taken
    → length taken ≤ length xs
length-taken None new taken xs e h = cc
length-taken (Some ys) None taken xs e h = absurd h
length-taken (Some ys) (Some zs) taken xs e h =
    let same : ys ≡ xs = cc in
    omega (arith, ap length same, ap length h, length-append taken zs)

known-is : (o : Option (List ℕ)) (file xs : List ℕ) → o ≡ Some xs → IfSome o (λ known. file ≡ known)
    → file ≡ xs
known-is None file xs e h = cc
known-is (Some ys) file xs e h = let same : ys ≡ xs = cc in h ∙ same

long-known : (o : Option (List ℕ)) (xs : List ℕ) (limit : ℕ) → o ≡ Some xs
    → IfSome o (λ known. limit < length known) → limit < length xs
long-known None xs limit e h = cc
long-known (Some ys) xs limit e h = let same : ys ≡ xs = cc in omega (arith, h, ap length same)

-- a file that is known is read
pub known_not_unread : (a : Asked) (g : Got) → IsKnown a g → (e : ShelfFault)
    → IsUnread a g.name g.limit e → ⊥
known_not_unread a g known e (files.failed r) = known.shelf r
known_not_unread a g known e (files.long r l) =
    let above : g.limit < length g.bytes =
    long-known (a.contents g.name) g.bytes g.limit known.known l in
    omega (arith, above, known.within)

pub got_is_known : (a : Asked) (name : List ℕ) (limit : ℕ) (file bytes : List ℕ)
    → IsKnown a (record { name = name; limit = limit; bytes = file })
    → IsGot a (record { name = name; limit = limit; bytes = bytes }) → bytes ≡ file
got_is_known a name limit file bytes known got =
    known-is (a.contents name) bytes file known.known got.known

-- a known file that says a presentation is not refused
pub file_not_refused : ((file : List ℕ) (p : Presented) → IsFile p file → first_fault file ≡ None)
    → (a : Asked) (pres file : List ℕ) (p : Presented) → IsKnown a (presentation pres file)
    → IsFile p file
    → (files : List Got) (names : List (List ℕ)) (status : Status) → AreGot a files
    → IsFileRefused pres a files names status → ⊥
file_not_refused none a pres file p known is files names status are (unread e u) =
    known_not_unread a (presentation pres file) known e u
file_not_refused none a pres file p known is files names status are (bad_file bytes line kind e) =
    let same : bytes ≡ file = got_is_known a pres file_limit file bytes known are.0 in
    let k : first_fault bytes ≡ None = none bytes p (subst (IsFile p) (sym same) is) in
    cc

-- it says that presentation alone
pub same_presentation :
    ((file : List ℕ) (p q : Presented) → IsFile p file → IsFile q file → p ≡ q)
    → (a : Asked) (pres file : List ℕ) (p : Presented) → IsKnown a (presentation pres file)
    → IsFile p file
    → (bytes : List ℕ) (q : Presented) → IsGot a (presentation pres bytes) → IsFile q bytes
    → p ≡ q
same_presentation one a pres file p known is bytes q got other =
    let same : bytes ≡ file = got_is_known a pres file_limit file bytes known got in
    one file p q is (subst (IsFile q) same other)

-- what is written of a session whose whole outputs end with Done
module _ (W : Status → List ℕ → Type 0) (P : List ℕ → Type 0) (f : Fed)
    (done : (status : Status) (out : List ℕ) → W status out → status ≡ s.Done) where
  wrote_done : (status : Status) (old new : Option (List ℕ)) → Wrote W P f status old new
      → (status ≡ s.WriteFault → ⊥) → (status ≡ s.Done) ⊎ (status ≡ s.Memory)
  wrote_done s.Done old new w n = inl refl
  wrote_done (s.Usage kind) old new w n = inl (done (s.Usage kind) w.0 w.1)
  wrote_done (s.BadFile line kind) old new w n = inl (done (s.BadFile line kind) w.0 w.1)
  wrote_done (s.Inconsistent o) old new w n = inl (done (s.Inconsistent o) w.0 w.1)
  wrote_done (s.Wide at) old new w n = inl (done (s.Wide at) w.0 w.1)
  wrote_done s.ReadFault old new w n = inl (done s.ReadFault w.0 w.1)
  wrote_done s.WriteFault old new w n = absurd (n refl)
  wrote_done s.Memory old new w n = inr refl
  wrote_done (s.TableRefused table) old new w n = inl (done (s.TableRefused table) w.0 w.1)
  wrote_done s.LongInput old new w n = inl (done s.LongInput w.0 w.1)
  wrote_done (s.Size size) old new w n = inl (done (s.Size size) w.0 w.1)

module _ (I : Type 0) (opened : List Got → I → Type 0) (R : I → List ℕ → List ℕ → Type 0)
    (refused : Asked → List Got → List (List ℕ) → Status → Type 0) (limit : ℕ) (a : Asked) (f : Fed)
    (not_refused : (files : List Got) (names : List (List ℕ)) (status : Status) → AreGot a files
    → refused a files names status → ⊥)
    (queries : AreKnown limit f) where
  module _ (got : List Got) (are : AreGot a got) (taken more : List ℕ)
      (took : Consumes f.left f.left' taken) where
    end_done : (e : End) → IsEnd limit f taken more e → end_status e ≡ s.Done
    end_done e (taking.finished h m l) = refl
    end_done e (taking.failed r l) = absurd (queries.source r)
    end_done e (taking.long r l) =
        let within : length taken ≤ length queries.queries =
        length-taken f.left f.left' taken queries.queries queries.known took in
        absurd (omega (arith, l, within, queries.few))

    whole_done : (status : Status) (out : List ℕ)
        → IsWhole I opened R (refused a) limit f got taken more status out → status ≡ s.Done
    whole_done status out (before names t r u) = absurd (not_refused got names t are r)
    whole_done status out (answered i e text is ends answer) = end_done e ends

  pub IsRunOver-done : (status : Status) (old new : Option (List ℕ))
      → IsRunOver I opened R refused limit a f status old new
      → (status ≡ s.WriteFault → ⊥) → (status ≡ s.Done) ⊎ (status ≡ s.Memory)
  IsRunOver-done status old new run n =
      wrote_done (IsWhole I opened R (refused a) limit f run.files run.taken run.more)
      (IsPromise I opened R (refused a) limit f run.files run.taken run.more) f
      (whole_done run.files run.got run.taken run.more run.took.took) status old new run.wrote n

-- a session that writes a text
module _ (T : List Got → List ℕ → Type 0)
    (refused : Asked → List Got → List (List ℕ) → Status → Type 0) (limit : ℕ) (a : Asked) (f : Fed)
    (not_refused : (files : List Got) (names : List (List ℕ)) (status : Status) → AreGot a files
    → refused a files names status → ⊥) where
  text_done : (got : List Got) → AreGot a got → (status : Status) (out : List ℕ)
      → IsWholeText T (refused a) f got status out → status ≡ s.Done
  text_done got are status out (texts.before names t r u) =
      absurd (not_refused got names t are r)
  text_done got are status out (texts.written text h u) = refl

  pub IsTextRun-done : (status : Status) (old new : Option (List ℕ))
      → IsTextRun T refused limit a f status old new
      → (status ≡ s.WriteFault → ⊥) → (status ≡ s.Done) ⊎ (status ≡ s.Memory)
  IsTextRun-done status old new run n =
      wrote_done (IsWholeText T (refused a) f run.files)
      (λ out. (t : Status) × IsWholeText T (refused a) f run.files t out) f
      (text_done run.files run.got) status old new run.wrote n
