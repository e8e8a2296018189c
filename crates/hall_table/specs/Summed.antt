-- The sums of a table's polynomials, in a list from the level on.
--   sum_in level sums k     the sum of f_k, and that of no terms where the list has none
--   value_in level sums k   its value
--   AreSummed t a sums      each is the sum of f_k at the point a
-- level level · k generator · t table · a point
use Rattle.std.specs.Prelude.{ℕ, ◌-◌, ◌≤◌, List, ℤ}
use Rattle.nested_poly.specs.declared.weighed.Weighed.{Weighed}
use Rattle.nested_poly.specs.Counts.{weighed_at, IsSumOf}
use Rattle.hall_table.specs.Tabled.{Tabled, last_of, poly_at}

abbrev pub sum_in : ℕ → List Weighed → ℕ → Weighed
sum_in level sums k = weighed_at sums (k - level)

abbrev pub value_in : ℕ → List Weighed → ℕ → ℤ
value_in level sums k = (sum_in level sums k).value

abbrev pub AreSummed : Tabled → (ℕ → ℤ) → List Weighed → Type 0
AreSummed t a sums =
    (k : ℕ) → t.level ≤ k → k ≤ last_of t → IsSumOf a (poly_at t k) (sum_in t.level sums k)
