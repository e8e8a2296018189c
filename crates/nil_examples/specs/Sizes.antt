-- Which numbers are refused.
--   size_fault least most x   the fault of a number that isn't least to most
-- x a size that was asked for
use Rattle.std.specs.Prelude.{ℕ, nat_le, ◌&&◌, Option, Some, None, if◌then◌else◌}
use Rattle.nil_examples.specs.declared.example_fault.ExampleFault.{ExampleFault}
use Rattle.nil_examples.specs.declared.example_fault.ExampleFault.TheVariants.{Size}

abbrev pub size_fault : ℕ → ℕ → ℕ → Option ExampleFault
size_fault least most x = if nat_le least x && nat_le x most then None else Some (Size x)
