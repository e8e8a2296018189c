use Rattle.std.proofs.Common.{◌≡◌}
use Rattle.nil_examples.specs.Examples.{count_of, power_of}
use Rattle.nil_examples.specs.Building.{so_far}
use Rattle.nil_examples.proofs.presenting.present.Given as goal

abbrev pub invariant-loop-k : goal.invariant-loop-k
invariant-loop-k l = l.builder ≡ so_far (count_of l.example) (power_of l.example) l.k
