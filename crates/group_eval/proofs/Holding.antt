-- Rows that hold the entries of two vectors: the sums and differences that they give.
--   t table · a b x vectors · rows rows with the entries of a and x · k generator · v variable
use Rattle.std.proofs.Common.{◌≡◌, ℕ, ◌≤◌, List, ap}
use lib.IntN.{ℤ, ◌-ℤ◌}
use Rattle.nil_num.specs.Bound.{overflows}
use Rattle.nil_word.specs.Exponents.{entry}
use Rattle.binom_poly.specs.Polynomial.{value_of}
use Rattle.binom_poly.specs.Reading.{Reading}
use Rattle.binom_poly.specs.Readings.{value_at}
use Rattle.hall_table.specs.Tabled.{Tabled, IsTabled, last_of, poly_at}
use Rattle.hall_table.specs.Values.{point_of}
use Rattle.hall_table.specs.Order.{sum_overflows, sum_at_overflows}
use Rattle.hall_table.proofs.Multiplied.{Hold, points_agree}
use Rattle.hall_table.proofs.Putting.{value-agree, magnitude-agree}
use Rattle.group_eval.specs.Order.{difference}

pub difference-rows : (t : Tabled) (a b x : List ℤ) (rows : List Reading) (k : ℕ) → IsTabled t
    → Hold t a x rows → t.level ≤ k → k ≤ last_of t
    → entry b k -ℤ value_of (value_at rows) (poly_at t k) ≡ difference t a b x k
difference-rows t a b x rows k h r low high =
    ap (λ z. entry b k -ℤ z)
    (value-agree (value_at rows) (point_of a x) (poly_at t k)
    (points_agree t a x rows k h r low high))

pub sum_overflows-rows : (t : Tabled) (a x : List ℤ) (rows : List Reading) (k : ℕ) → IsTabled t
    → Hold t a x rows → t.level ≤ k → k ≤ last_of t
    → sum_overflows (value_at rows) (poly_at t k) ≡ sum_at_overflows t a x k
sum_overflows-rows t a x rows k h r low high =
    ap overflows
    (magnitude-agree (value_at rows) (point_of a x) (poly_at t k)
    (points_agree t a x rows k h r low high))
