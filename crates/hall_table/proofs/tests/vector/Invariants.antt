use Rattle.std.proofs.Common.{◌≡◌, length}
use Rattle.hall_table.proofs.tests.vector.Given as goal

abbrev pub invariant-loop-place : goal.invariant-loop-place
invariant-loop-place l = length l.vector ≡ length l.entries
