-- Limits of what is read.
--   file_limit    the greatest number of bytes of a presentation file
--   table_limit   the greatest number of bytes of a table file
--   query_limit   the greatest number of query bytes
use Rattle.std.specs.Prelude.{ℕ}

abbrev pub file_limit : ℕ
file_limit = 4194304

abbrev pub table_limit : ℕ
table_limit = 16777216

abbrev pub query_limit : ℕ
query_limit = 4294967296
