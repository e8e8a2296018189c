-- The text of a vector.
--   text_of_entries v   the entries in decimal, one space between
--   space_before i      what stands before the entry at a place, from 0
use Rattle.std.specs.Prelude.{ℕ, zero, suc, ℤ, List, [], map, codes}
use Rattle.std.specs.List.{join_with_byte}
use Rattle.std.specs.Fmt.{signed_decimal}

abbrev pub text_of_entries : List ℤ → List ℕ
text_of_entries v = join_with_byte 32 (map signed_decimal v)

abbrev pub space_before : ℕ → List ℕ
space_before zero = []
space_before (suc i) = codes " "
