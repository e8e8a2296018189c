-- The command `load M COUNT SEED`: what is written, or refused.
use Rattle.std.proofs.Common.{◌≡◌, ◌⊎◌, inl, inr, ℕ, List, [], length, None, IfSome, IfNone, Result, Ok, Err, IfOk, IfErr, String, string_bytes, refl, subst}
use Rattle.std.specs.Result.{IsErrOf, IsOkUnless}
use Rattle.std.specs.declared.alloc.Global.{Global}
use Rattle.nil_pres.specs.Presented.{Presented}
use Rattle.nil_examples.specs.Places.{places, unitriangular}
use Rattle.nil_examples.specs.Loads.{queries, load_fault}
use Rattle.nil_examples.specs.declared.example_fault.ExampleFault.{ExampleFault}
use Rattle.nil_examples.specs.declared.example_fault.ExampleFault.TheVariants as fault
use Rattle.hall_compile.specs.declared.compiled.Compiled.{Compiled}
use Rattle.hall_compile.specs.Proposals.{Proposal}
use Rattle.load_tally.specs.declared.counts.Tally.{Tally}
use Rattle.load_tally.specs.Tallies.{IsTally, tally_text}
use Rattle.session_io.specs.Asked.{Asked}
use Rattle.session_io.specs.Files.{Got, AreGot}
use Rattle.session_io.specs.Lines.{as_line, whole_lines}
use Rattle.query_session.specs.declared.refusal.Refusal.{Refusal}
use Rattle.query_session.specs.declared.status.Status.{Status}
use Rattle.query_session.specs.declared.status.Status.TheVariants as s
use Rattle.query_session.specs.Refusals.{plain, Says}
use Rattle.query_session.specs.Opening.{HasOpened, HasRefusal}
use Rattle.query_session.specs.Compiling.{IsCompiledBy, IsUncompiled}
use Rattle.query_session.specs.Statuses.{example_status}
use Rattle.query_session.specs.Sizes.{IsSizeRefused}
use Rattle.query_session.specs.Load.{IsLoaded, IsRefused, out_of_range, uncompiled, IsSmoothLoad}
use Rattle.query_session.proofs.Plain.{IsPlain}
use Rattle.query_session.proofs.Files.{HasRefusal-weaker}
use Rattle.query_session.proofs.Examples.{size_plain, size_not_refused, HasRefusal-example}
use Rattle.query_session.proofs.CompileOpened.{uncompiled_plain, not_uncompiled}

module _ (os : Presented → ℕ → List Proposal) (m count seed : ℕ) (a : Asked) where
  pub load_plain : (files : List Got) (names : List (List ℕ)) (status : Status)
      → IsRefused os m count seed a files names status → IsPlain status
  load_plain files names status (out_of_range fs ns t h) =
      size_plain (load_fault m count seed) a fs ns t h
  load_plain files names status (uncompiled t none h) =
      uncompiled_plain (os (unitriangular m)) (unitriangular m) t h

  abbrev IsCounted : Presented → List ℕ → List ℕ → Type 0
  IsCounted p text out =
      (c : Compiled) × (counts : Tally) × IsCompiledBy (os p) p c
      × IsTally c.checked (whole_lines text) counts × (out ≡ as_line (tally_text counts))

  loaded : load_fault m count seed ≡ None → (out : List ℕ) → IsCounted (unitriangular m) (queries (length (places m)) seed count) out
      → HasOpened (List ℕ) (IsLoaded os m count seed) a out
  loaded within out (c, counts, is, counted, text) = record {
    files = [];
    got = tt;
    is = record {
      none = refl;
      within = within;
      compiled = c;
      is = is;
      tally = counts;
      counted = counted;
      text = text;
    };
  }

  pub HasOpened-load : load_fault m count seed ≡ None → (p : Presented) (text : List ℕ)
      → p ≡ unitriangular m
      → text ≡ queries (length (places m)) seed count → (r : Result (String Global) Refusal)
      → IfOk r (λ t. IsCounted p text (string_bytes t))
      → IfOk r (λ t. HasOpened (List ℕ) (IsLoaded os m count seed) a (string_bytes t))
  HasOpened-load within p text same lines (Err d) k = tt
  HasOpened-load within p text same lines (Ok t) k =
      loaded within (string_bytes t)
      (subst (λ (x : Presented).
      IsCounted x (queries (length (places m)) seed count) (string_bytes t)) same
      (subst (λ (y : List ℕ). IsCounted p y (string_bytes t)) lines k))

  abbrev IsEnded : Presented → Refusal → Type 0
  IsEnded p d = (d.status ≡ s.Memory) ⊎ (IsUncompiled (os p) p d.status × Says p.names d)

  ended : load_fault m count seed ≡ None → (d : Refusal) → IsEnded (unitriangular m) d
      → HasRefusal (IsRefused os m count seed) a d
  ended none d (inl e) = record { files = []; got = tt; cause = inl e }
  ended none d (inr (h, says)) = record {
    files = [];
    got = tt;
    cause = inr ((unitriangular m).names, uncompiled d.status none h, says);
  }

  pub HasRefusal-uncompiled_load : load_fault m count seed ≡ None → (p : Presented)
      → p ≡ unitriangular m → (r : Result (String Global) Refusal) → IfErr r (IsEnded p)
      → IfErr r (HasRefusal (IsRefused os m count seed) a)
  HasRefusal-uncompiled_load none p same (Ok t) k = tt
  HasRefusal-uncompiled_load none p same (Err d) k =
      ended none d (subst (λ (x : Presented). IsEnded x d) same k)

  of_size : (b : Asked) (files : List Got) (names : List (List ℕ)) (status : Status)
      → IsSizeRefused (load_fault m count seed) b files names status
      → IsRefused os m count seed b files names status
  of_size b files names status h = out_of_range files names status h

  pub HasRefusal-load_fault : {X : Type 0} (d : ExampleFault) (r : Result X ExampleFault)
      → r ≡ Err d → IfSome (load_fault m count seed) (λ x. IsErrOf r x)
      → IfNone (load_fault m count seed) (IsOkUnless r fault.Memory)
      → HasRefusal (IsRefused os m count seed) a (plain (example_status d))
  HasRefusal-load_fault d r is h k =
      HasRefusal-weaker (IsSizeRefused (load_fault m count seed)) (IsRefused os m count seed) of_size
      a (plain (example_status d))
      (HasRefusal-example (load_fault m count seed) a d r is h k)

-- numbers in range, and a presentation that compiles, are not refused
pub load_not_refused : (os : Presented → ℕ → List Proposal) (m count seed : ℕ) (a : Asked)
    → IsSmoothLoad os m count seed → (files : List Got) (names : List (List ℕ)) (status : Status)
    → AreGot a files → IsRefused os m count seed a files names status → ⊥
load_not_refused os m count seed a smooth files names status are (out_of_range fs ns t h) =
    size_not_refused (load_fault m count seed) a smooth.within fs ns t are h
load_not_refused os m count seed a smooth files names status are (uncompiled t none h) =
    not_uncompiled (unitriangular m) (os (unitriangular m)) smooth.compiles t h
