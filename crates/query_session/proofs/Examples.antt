-- Sizes of examples.
use Rattle.std.proofs.Common.{◌≡◌, inl, inr, ℕ, List, [], Option, Some, None, IfSome, IfNone, Result, Ok, Err, refl, ◌∙◌, ap, subst}
use Rattle.std.specs.Result.{IsErrOf, IsOkUnless}
use Rattle.nil_pres.specs.Presented.{Presented}
use Rattle.pres_text.specs.File.{IsFile}
use Rattle.pres_text.specs.Text.{text_of}
use Rattle.nil_examples.specs.declared.example_fault.ExampleFault.{ExampleFault}
use Rattle.nil_examples.specs.declared.example_fault.ExampleFault.TheVariants as fault
use Rattle.session_io.specs.Asked.{Asked}
use Rattle.session_io.specs.Files.{Got, AreGot}
use Rattle.query_session.specs.declared.status.Status.{Status}
use Rattle.query_session.specs.Statuses.{example_status}
use Rattle.query_session.specs.Refusals.{plain}
use Rattle.query_session.specs.Opening.{HasOpened, HasRefusal}
use Rattle.query_session.specs.declared.example_kind.ExampleKind.{ExampleKind}
use Rattle.query_session.specs.Example.{fault_of, example_of, IsExample}
use Rattle.query_session.specs.Sizes.{IsSizeRefused, size}
use Rattle.query_session.proofs.Plain.{IsPlain}

-- a size within its range isn't refused
pub size_not_refused : (fault : Option ExampleFault) (a : Asked) → fault ≡ None
    → (files : List Got) (names : List (List ℕ)) (status : Status) → AreGot a files
    → IsSizeRefused fault a files names status → ⊥
size_not_refused fault a none files names status are (size x e) = cc

-- refusals are no write faults, nor want of memory
pub size_plain : (fault : Option ExampleFault) (a : Asked) (files : List Got)
    (names : List (List ℕ)) (status : Status) → IsSizeRefused fault a files names status
    → IsPlain status
size_plain fault a files names status (size x e) = ((λ h. cc), λ h. cc)

-- what an example's fault refuses
pub HasRefusal-example : {X : Type 0} (e : Option ExampleFault) (a : Asked) (d : ExampleFault)
    (r : Result X ExampleFault) → r ≡ Err d → IfSome e (λ x. IsErrOf r x)
    → IfNone e (IsOkUnless r fault.Memory)
    → HasRefusal (IsSizeRefused e) a (plain (example_status d))
HasRefusal-example {X} e a d r is h m = by e r is h m
  where
    P : Option ExampleFault → ExampleFault → Type 0
    P o y = HasRefusal (IsSizeRefused o) a (plain (example_status y))

    no_memory : (o : Option ExampleFault) → P o fault.Memory
    no_memory o = record { files = []; got = tt; cause = inl refl }

    by : (o : Option ExampleFault) (q : Result X ExampleFault) → q ≡ Err d
        → IfSome o (λ x. IsErrOf q x) → IfNone o (IsOkUnless q fault.Memory) → P o d
    by o (Ok t) is h m = cc
    by None (Err y) is h m =
        let same : fault.Memory ≡ d = cc in subst (P None) same (no_memory None)
    by (Some fault.Memory) (Err y) is h m =
        let same : fault.Memory ≡ d = cc in
        subst (P (Some fault.Memory)) same (no_memory (Some fault.Memory))
    by (Some (fault.Size x)) (Err y) is h m =
        let same : fault.Size x ≡ d = cc in
        subst (P (Some (fault.Size x))) same
        (record { files = []; got = tt; cause = inr ([], size x refl, refl) })

-- a size that isn't refused is in range
pub within-ok : {X : Type 0} (e : Option ExampleFault) (x : X) (r : Result X ExampleFault)
    → r ≡ Ok x → IfSome e (λ y. IsErrOf r y) → e ≡ None
within-ok None x r is h = refl
within-ok (Some y) x r is h = cc

-- the text of an example
pub HasOpened-example : (k : ExampleKind) (n : ℕ) (a : Asked) (p : Presented) (out : List ℕ)
    → fault_of k n ≡ None → p ≡ example_of k n → out ≡ text_of p → IsFile p out
    → HasOpened (List ℕ) (IsExample k n) a out
HasOpened-example k n a p out within same text is =
    record {
      files = [];
      got = tt;
      is = record {
        none = refl;
        within = within;
        text = text ∙ ap text_of same;
        is_file = subst (λ (x : Presented). IsFile x out) same is;
      };
    }
