use Rattle.hall_table.proofs.Following.{FitSoFar}
use Rattle.hall_table.proofs.summing.first_fits.Given as goal

abbrev pub invariant-loop-place : goal.invariant-loop-place
invariant-loop-place l = FitSoFar l.sums l.place
