use Rattle.std.proofs.Common.{◌<◌, ◌≤◌, ℕ}
use Rattle.std.specs.Prelude.{All}
use Rattle.hall_table.specs.Tabled.{poly_at}
use Rattle.identity_check.specs.Crossing.{Crosses}
use Rattle.identity_check.proofs.crossing.all_cross.Given as goal

abbrev pub invariant-loop-k : goal.invariant-loop-k
invariant-loop-k l =
    (i : ℕ) → l.table.level ≤ i → i < l.k
    → All (λ u. Crosses i u.monomial) (poly_at l.table i)
