use Rattle.std.proofs.Common.{◌≡◌}
use Rattle.nil_examples.proofs.Diagonals.{diagonals}
use Rattle.nil_examples.proofs.places.places.Given as goal

abbrev pub invariant-loop-d : goal.invariant-loop-d
invariant-loop-d l = l.places.items ≡ diagonals l.m l.d
