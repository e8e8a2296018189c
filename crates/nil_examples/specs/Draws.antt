-- The stream of draws of a load.
--   next s      the state after s
--   later s k   the state k draws after s
--   draw s k    the k-th draw from the state s, from 1: what it leaves, without its last 16 bits
-- s state
use Rattle.std.specs.Prelude.{ℕ, zero, suc, ◌+◌, ◌*◌, ◌/◌, ◌%◌, ◌^◌}

unfoldable pub next : ℕ → ℕ
next s = (s * 1103515245 + 12345) % 2 ^ 31

abbrev pub later : ℕ → ℕ → ℕ
later s zero = s
later s (suc k) = next (later s k)

abbrev pub draw : ℕ → ℕ → ℕ
draw s k = later s k / 65536
