-- The numbers of the calculator: integers of magnitude at most 2^127 - 1.
--   Overflows m    the magnitude m is above 2^127 - 1
--   overflows m    the test of it
--   Fits m         it isn't
--   IsNumber z     the magnitude of z fits
-- m magnitude · z integer
use Rattle.std.specs.Prelude.{ℕ, ◌^◌, ◌<◌, ◌≤◌, nat_le, Bool, ℤ, unsigned_abs}

abbrev pub Overflows : ℕ → Type 0
Overflows m = 2 ^ 127 ≤ m

abbrev pub overflows : ℕ → Bool
overflows m = nat_le (2 ^ 127) m

abbrev pub Fits : ℕ → Type 0
Fits m = m < 2 ^ 127

abbrev pub IsNumber : ℤ → Type 0
IsNumber z = Fits (unsigned_abs z)
