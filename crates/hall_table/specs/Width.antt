-- Which rows a table needs: one for each x_k and y_k, up to its greatest exponent in the table, and
-- at least 1.
--   has_row t v      v is x_k or y_k of a generator from the level on
--   width_for t v    how many places the row of v has: its top plus 1, and 0 without a row
--   HasRows t rows   the rows have exactly these variables and tops
-- v variable · t table
use Rattle.std.specs.Prelude.{◌≡◌, ℕ, ◌+◌, Bool, max, List, if◌then◌else◌}
use Rattle.binom_poly.specs.Exponents.{greatest_in}
use Rattle.binom_poly.specs.Reading.{Reading}
use Rattle.binom_poly.specs.Readings.{width_at}
use Rattle.hall_table.specs.Shape.{is_lower}
use Rattle.hall_table.specs.Tabled.{Tabled, last_of}

abbrev pub has_row : Tabled → ℕ → Bool
has_row t v = is_lower t.level (last_of t + 1) v

abbrev pub width_for : Tabled → ℕ → ℕ
width_for t v = if has_row t v then max (greatest_in v t.polys) 1 + 1 else 0

pub record HasRows (t : Tabled) (rows : List Reading) : Type 0 where
  pub width : (v : ℕ) → width_at rows v ≡ width_for t v
