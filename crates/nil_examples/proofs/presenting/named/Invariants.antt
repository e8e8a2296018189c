use Rattle.std.proofs.Common.{◌≡◌}
use Rattle.nil_examples.specs.Building.{named}
use Rattle.nil_examples.proofs.presenting.named.Given as goal

abbrev pub invariant-loop-k : goal.invariant-loop-k
invariant-loop-k l = l.builder ≡ named l.k
