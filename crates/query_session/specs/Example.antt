-- The command `example KIND N`.
--   fault_of kind n               the fault of a size that is out of range for its kind
--   example_of kind n             the presentation of a kind and a size
--   IsExample kind n files out    no file is got, the size is in range, and out is the canonical text
--                                 of the presentation, which says it
--   IsExampleOf kind n limit ..   the command's session
use Rattle.std.specs.Prelude.{◌≡◌, ℕ, List, [], Option, None}
use Rattle.nil_pres.specs.Presented.{Presented}
use Rattle.pres_text.specs.File.{IsFile}
use Rattle.pres_text.specs.Text as pres_text
use Rattle.nil_examples.specs.declared.example_fault.ExampleFault.{ExampleFault}
use Rattle.nil_examples.specs.Sizes.{size_fault}
use Rattle.nil_examples.specs.Places.{unitriangular}
use Rattle.nil_examples.specs.Free.{free_class_two}
use Rattle.session_io.specs.Asked.{Asked, Fed}
use Rattle.session_io.specs.Files.{Got}
use Rattle.query_session.specs.declared.example_kind.ExampleKind.{ExampleKind}
use Rattle.query_session.specs.declared.example_kind.ExampleKind.TheVariants as kind
use Rattle.query_session.specs.declared.status.Status.{Status}
use Rattle.query_session.specs.Sizes.{IsSizeRefused}
use Rattle.query_session.specs.Texts.{IsTextRun}

abbrev pub fault_of : ExampleKind → ℕ → Option ExampleFault
fault_of kind.Unitriangular n = size_fault 2 10 n
fault_of kind.FreeClassTwo n = size_fault 1 9 n

abbrev pub example_of : ExampleKind → ℕ → Presented
example_of kind.Unitriangular n = unitriangular n
example_of kind.FreeClassTwo n = free_class_two n

pub record IsExample (k : ExampleKind) (n : ℕ) (files : List Got) (out : List ℕ) : Type 0 where
  pub none : files ≡ []
  pub within : fault_of k n ≡ None
  pub text : out ≡ pres_text.text_of (example_of k n)
  pub is_file : IsFile (example_of k n) out

abbrev pub IsExampleOf : ExampleKind → ℕ → ℕ → Asked → Fed → Status → Option (List ℕ)
    → Option (List ℕ) → Type 0
IsExampleOf k n = IsTextRun (IsExample k n) (IsSizeRefused (fault_of k n))
