-- Limits of what is answered.
--   letter_limit   the greatest number of letters of a word that is collected
use Rattle.std.specs.Prelude.{ℕ}

abbrev pub letter_limit : ℕ
letter_limit = 64
