use Rattle.std.proofs.Common.{◌≡◌}
use Rattle.nil_examples.specs.Examples.{power_of}
use Rattle.nil_examples.specs.Building.{rows, with_row}
use Rattle.nil_examples.proofs.presenting.add_row.Given as goal

abbrev pub invariant-loop-k : goal.invariant-loop-k
invariant-loop-k l = l.builder ≡ with_row l.initial.builder l.j (rows (power_of l.example) l.j l.k)
