-- Sessions of a command that writes one text.
use Rattle.std.proofs.Common.{ℕ, List, [], Option, Result, Ok, Err, IfOk, IfErr, String, string_bytes, unwrap_or}
use Rattle.std.specs.declared.alloc.Global.{Global}
use Rattle.session_io.specs.Asked.{Asked, Fed, IsUntouched}
use Rattle.session_io.specs.Files.{Got}
use Rattle.query_session.specs.declared.refusal.Refusal.{Refusal}
use Rattle.query_session.specs.declared.status.Status.{Status}
use Rattle.query_session.specs.declared.status.Status.TheVariants as s
use Rattle.query_session.specs.Statuses.{Ended}
use Rattle.query_session.specs.Opening.{HasOpened, HasRefusal}
use Rattle.query_session.specs.Ends.{IsRefusedAs}
use Rattle.query_session.specs.Texts.{IsWholeText, before, written, IsTextRun}
use Rattle.query_session.proofs.Plain.{IsPlain}
use Rattle.query_session.proofs.Untouched.{IsTaken-untouched, IsRun-refused}
use Rattle.query_session.proofs.Written.{Wrote-ended}

module _ (T : List Got → List ℕ → Type 0)
    (refused : Asked → List Got → List (List ℕ) → Status → Type 0) (limit : ℕ) (a : Asked) (f : Fed)
    (o n : Option (List ℕ))
    (plain : (files : List Got) (names : List (List ℕ)) (status : Status)
    → refused a files names status → IsPlain status) (r : Status) where
  IsTextRun-written : (out : List ℕ) → HasOpened (List ℕ) T a out → IsUntouched f
      → Ended out s.Done o n r → IsTextRun T refused limit a f r o n
  IsTextRun-written out h u end = record {
    files = h.files;
    got = h.got;
    taken = [];
    more = unwrap_or f.left [];
    took = IsTaken-untouched limit f u;
    wrote =
        Wrote-ended (IsWholeText T (refused a) f h.files)
        (λ text. (t : Status) × IsWholeText T (refused a) f h.files t text) f o n s.Done out r
        (λ e. cc) (λ e. cc) (written out h.is u) (s.Done, written out h.is u) end;
  }

  pub IsTextRun-result : (found : Result (String Global) Refusal)
      → IfOk found (λ t. HasOpened (List ℕ) T a (string_bytes t))
      → IfErr found (HasRefusal refused a) → IsUntouched f
      → IfOk found (λ t. Ended (string_bytes t) s.Done o n r)
      → IfErr found (λ d. IsRefusedAs d f r o n)
      → IsTextRun T refused limit a f r o n
  IsTextRun-result (Ok t) h k u end none = IsTextRun-written (string_bytes t) h u end
  IsTextRun-result (Err d) h k u none said =
      IsRun-refused refused limit a f o n (λ files taken more. IsWholeText T (refused a) f files)
      (λ files taken more text. (t : Status) × IsWholeText T (refused a) f files t text)
      (λ files taken more names status. before names status)
      (λ files taken more names status c v. (status, before names status c v)) plain d r k said
