-- The limit of a line.
--   line_limit   the greatest number of bytes of a line that isn't long
use Rattle.std.specs.Prelude.{ℕ}

abbrev pub line_limit : ℕ
line_limit = 65536
