use Rattle.std.proofs.Common.{◌≡◌, ℕ}
use Rattle.binom_poly.specs.Readings.{value_at}
use Rattle.binom_poly.specs.Variable.{y_of}
use Rattle.hall_table.specs.Shape.{IsX}
use Rattle.hall_table.proofs.Following.{PutSoFar}
use Rattle.hall_table.proofs.table.Table.put_y.Given as goal

abbrev pub invariant-loop-k : goal.invariant-loop-k
invariant-loop-k l = record {
  put : PutSoFar l.self y_of l.b l.rows l.k;
  kept : (v : ℕ) → IsX v → value_at l.rows v ≡ value_at l.initial.rows v;
}
