-- Divisibility.
--   Divides d x    x is a multiple of d
-- d x integers
use Rattle.std.specs.Prelude.{◌≡◌, ℤ, ◌*ℤ◌}

abbrev pub Divides : ℤ → ℤ → Type 0
Divides d x = (q : ℤ) × (q *ℤ d ≡ x)
