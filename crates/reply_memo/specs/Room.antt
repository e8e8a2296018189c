-- How much is kept.
--   room    the greatest number of lines whose replies are kept
use Rattle.std.specs.Prelude.{ℕ}

abbrev pub room : ℕ
room = 256
