use Rattle.std.proofs.Common.{ℕ, ◌+◌, ◌<◌, ◌≤◌, get_or, []}
use Rattle.binom_poly.specs.Polynomial.{IsPolynomial}
use Rattle.hall_table.specs.Shape.{HasShape}
use Rattle.hall_table.specs.Tabled.{poly_in}
use Rattle.hall_table.proofs.table.Table.of.Given as goal

abbrev pub invariant-loop-place : goal.invariant-loop-place
invariant-loop-place l = record {
  forms : (i : ℕ) → i < l.place → IsPolynomial (get_or l.poly-items i []);
  shapes : (k : ℕ) → l.level ≤ k → k < l.level + l.place → HasShape l.level k (poly_in l.level l.poly-items k);
}
