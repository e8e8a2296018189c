-- The table that the least trees give.
--   types_from p level     how many types of a presentation there are from the level on
--   AnyOverflows p level   the tree polynomial of one of these types overflows
--   any_overflows p level  the test of it
--   tree_table p level     their tree polynomials, and none where one of them overflows
-- p presentation
use Rattle.std.specs.Prelude.{ℕ, ◌+◌, ◌-◌, Bool, length, Option, Some, None, if◌then◌else◌}
use Rattle.nil_pres.specs.Presented.{Presented}
use Rattle.hall_table.specs.Tabled.{Tabled}
use Rattle.dt_letters.specs.Allowed.{exponents_of}
use Rattle.dt_trees.specs.Polynomials.{polys_of, AnyPolyOverflows}
use Rattle.dt_trees.specs.Overflowing.{any_poly_overflows}

abbrev pub types_from : Presented → ℕ → ℕ
types_from p level = length p.names + 1 - level

abbrev pub AnyOverflows : Presented → ℕ → Type 0
AnyOverflows p level = AnyPolyOverflows (exponents_of p) level (types_from p level)

unfoldable pub any_overflows : Presented → ℕ → Bool
any_overflows p level = any_poly_overflows (exponents_of p) level (types_from p level)

unfoldable pub tree_table : Presented → ℕ → Option Tabled
tree_table p level =
    if any_overflows p level then None
    else Some record {
      level = level;
      polys = polys_of (exponents_of p) level (types_from p level);
    }
