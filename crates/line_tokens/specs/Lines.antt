-- Bytes cut at line feeds.
--   is_line_feed b    b ends a line
--   lines_of bytes    the runs of bytes between the line feeds; the last one may be empty
use Rattle.std.specs.Prelude.{ℕ, ◌==◌, Bool, List}
use Rattle.std.specs.List.{slice_split}

abbrev pub is_line_feed : ℕ → Bool
is_line_feed b = b == 10

abbrev pub lines_of : List ℕ → List (List ℕ)
lines_of bytes = slice_split is_line_feed bytes
