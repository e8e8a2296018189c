-- Sessions that leave the source as it is.
use Rattle.std.proofs.Common.{◌≡◌, ℕ, ◌⊎◌, inl, inr, List, [], Option, Some, None, IfSome, unwrap_or, refl, sym, subst, arith}
use Rattle.std.specs.Io.KnownBytes.{Appends, Consumes}
use Rattle.session_io.specs.Asked.{Asked, Fed, IsUntouched}
use Rattle.session_io.specs.Files.{Got}
use Rattle.session_io.specs.Lines.{as_lines}
use Rattle.session_io.specs.Taking.{IsTaken}
use Rattle.session_io.proofs.Appending.{Appends-none}
use Rattle.query_session.specs.declared.refusal.Refusal.{Refusal}
use Rattle.query_session.specs.declared.status.Status.{Status}
use Rattle.query_session.specs.declared.status.Status.TheVariants as s
use Rattle.query_session.specs.Statuses.{text_of, Ended}
use Rattle.query_session.specs.Runs.{nothing, Wrote, IsRun}
use Rattle.query_session.specs.Refusals.{Says}
use Rattle.query_session.specs.Opening.{HasRefusal}
use Rattle.query_session.specs.Ends.{IsRefusedAs}
use Rattle.query_session.proofs.Plain.{IsPlain}
use Rattle.query_session.proofs.Written.{Wrote-ended}

-- nothing was taken of a source that isn't touched
Consumes-none : (left : Option (List ℕ)) → Consumes left left []
Consumes-none None = tt
Consumes-none (Some xs) = refl

left_of : (left : Option (List ℕ)) → IfSome left (λ xs. unwrap_or left [] ≡ xs)
left_of None = tt
left_of (Some xs) = refl

pub IsTaken-untouched : (limit : ℕ) (f : Fed) → IsUntouched f
    → IsTaken limit f [] (unwrap_or f.left [])
IsTaken-untouched limit f u = record {
  took =
      subst (λ (now : Option (List ℕ)). Consumes f.left now []) (sym u.left)
      (Consumes-none f.left);
  left =
      subst (λ (now : Option (List ℕ)). IfSome now (λ xs. unwrap_or f.left [] ≡ xs)) (sym u.left)
      (left_of f.left);
  given = (omega (arith, u.given), omega (arith, u.given));
  bound = omega arith;
}

-- a session that was refused, or found no memory before its output
module _ (refused : Asked → List Got → List (List ℕ) → Status → Type 0) (limit : ℕ) (a : Asked)
    (f : Fed) (o n : Option (List ℕ))
    (W : List Got → List ℕ → List ℕ → Status → List ℕ → Type 0)
    (P : List Got → List ℕ → List ℕ → List ℕ → Type 0)
    (whole : (files : List Got) (taken more : List ℕ) (names : List (List ℕ)) (status : Status)
    → refused a files names status → IsUntouched f
    → W files taken more status (as_lines (text_of names status)))
    (promise : (files : List Got) (taken more : List ℕ) (names : List (List ℕ)) (status : Status)
    → refused a files names status → IsUntouched f
    → P files taken more (as_lines (text_of names status)))
    (plain : (files : List Got) (names : List (List ℕ)) (status : Status)
    → refused a files names status → IsPlain status)
    (d : Refusal) (r : Status) where
  module _ (h : IsRefusedAs d f r o n) (files : List Got) where
    refused_short : d.status ≡ s.Memory
        → Wrote (W files [] (unwrap_or f.left [])) (P files [] (unwrap_or f.left [])) f r o n
    refused_short m =
        let k = h.memory m in
        let S : Status → Type 0 =
        λ t. Wrote (W files [] (unwrap_or f.left [])) (P files [] (unwrap_or f.left [])) f t o n in
        subst S (sym k.0) (
          [],
          nothing h.untouched,
          subst (λ (x : Option (List ℕ)). Appends o x []) (sym k.1) (Appends-none o),
        )

    refused_whole : (names : List (List ℕ)) → refused a files names d.status → Says names d
        → Wrote (W files [] (unwrap_or f.left [])) (P files [] (unwrap_or f.left [])) f r o n
    refused_whole names k says =
        let free : IsPlain d.status = plain files names d.status k in
        Wrote-ended (W files [] (unwrap_or f.left [])) (P files [] (unwrap_or f.left [])) f o n
        d.status (as_lines (text_of names d.status)) r free.0 free.1
        (whole files [] (unwrap_or f.left []) names d.status k h.untouched)
        (promise files [] (unwrap_or f.left []) names d.status k h.untouched)
        (subst (λ (t : List ℕ). Ended t d.status o n r) says (h.written free.1))

    refused_either : (d.status ≡ s.Memory)
        ⊎ ((names : List (List ℕ)) × refused a files names d.status × Says names d)
        → Wrote (W files [] (unwrap_or f.left [])) (P files [] (unwrap_or f.left [])) f r o n
    refused_either (inl m) = refused_short m
    refused_either (inr (names, k, says)) = refused_whole names k says

  pub IsRun-refused : HasRefusal refused a d → IsRefusedAs d f r o n → IsRun W P limit a f r o n
  IsRun-refused k h = record {
    files = k.files;
    got = k.got;
    taken = [];
    more = unwrap_or f.left [];
    took = IsTaken-untouched limit f h.untouched;
    wrote = refused_either h k.files k.cause;
  }
