-- Sizes that are refused.
--   IsSizeRefused fault a ..   no file is got, and the fault names the size that is out of range
-- fault the fault of the first size that is out of range, or none · a what is asked for
use Rattle.std.specs.Prelude.{◌≡◌, ℕ, List, [], Option, Some}
use Rattle.nil_examples.specs.declared.example_fault.ExampleFault.{ExampleFault}
use Rattle.nil_examples.specs.declared.example_fault.ExampleFault.TheVariants as fault
use Rattle.session_io.specs.Asked.{Asked}
use Rattle.session_io.specs.Files.{Got}
use Rattle.query_session.specs.declared.status.Status.{Status}
use Rattle.query_session.specs.declared.status.Status.TheVariants as s

pub data IsSizeRefused (out_of_range : Option ExampleFault) (a : Asked)
    : List Got → List (List ℕ) → Status → Type 0 where
  size : (x : ℕ) → out_of_range ≡ Some (fault.Size x) → IsSizeRefused out_of_range a [] [] (s.Size x)
