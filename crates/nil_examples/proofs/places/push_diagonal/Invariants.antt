use Rattle.std.proofs.Common.{◌≡◌, ◌++◌}
use Rattle.nil_examples.proofs.Diagonals.{along}
use Rattle.nil_examples.proofs.places.push_diagonal.Given as goal

abbrev pub invariant-loop-p : goal.invariant-loop-p
invariant-loop-p l = l.places.items ≡ l.initial.places.items ++ along l.d l.p
