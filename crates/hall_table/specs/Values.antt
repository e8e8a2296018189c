-- The product that a table's polynomials give.
--   point_of x y v     the value of a variable: entry k of x for x_k, entry k of y for y_k
--   values t           entry k is the value of f_k there, and 0 below the level
-- k generator · v variable · x y vectors · t table
use Rattle.std.specs.Prelude.{ℕ, ◌-◌, ℤ, List, if◌then◌else◌}
use Rattle.nil_word.specs.Exponents.{entry}
use Rattle.binom_poly.specs.Polynomial.{value_of}
use Rattle.binom_poly.specs.Variable.{y_of}
use Rattle.hall_law.specs.Table.{Operation, from_entries}
use Rattle.hall_table.specs.Shape.{is_x}
use Rattle.hall_table.specs.Tabled.{Tabled, last_of, poly_at}

abbrev pub point_of : List ℤ → List ℤ → ℕ → ℤ
point_of x y v = if is_x v then entry x v else entry y (v - y_of 0)

abbrev pub values : Tabled → Operation
values t = from_entries (last_of t) t.level (λ k x y. value_of (point_of x y) (poly_at t k))
