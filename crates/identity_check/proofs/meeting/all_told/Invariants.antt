use Rattle.std.proofs.Common.{◌<◌, ◌≤◌, ℕ}
use Rattle.std.specs.Prelude.{All}
use Rattle.nil_pres.specs.Relations.{relations_of}
use Rattle.hall_table.specs.Tabled.{last_of, poly_at}
use Rattle.identity_check.specs.Meeting.{IsTold}
use Rattle.identity_check.proofs.meeting.all_told.Given as goal

abbrev pub invariant-loop-k : goal.invariant-loop-k
invariant-loop-k l =
    (i : ℕ) → l.table.level ≤ i → i < l.k
    → All (λ u. IsTold (relations_of l.pres) (last_of l.table) i u.monomial) (poly_at l.table i)
