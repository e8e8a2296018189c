use Rattle.std.proofs.Common.{◌<◌, ℕ, IsTrue}
use Rattle.binom_poly.specs.Variable.{y_of}
use Rattle.hall_table.specs.Tabled.{poly_at}
use Rattle.identity_check.specs.Adding.{is_free}
use Rattle.identity_check.proofs.adding.is_added_on.Given as goal

abbrev pub invariant-loop-k : goal.invariant-loop-k
invariant-loop-k l =
    (i : ℕ) → l.m < i → i < l.k → IsTrue (is_free (y_of l.m) (poly_at l.table i))
