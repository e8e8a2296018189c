-- The query lines of a load.
--   syllable n s           one of n generators to a power of -4 to 4, by two draws
--   word n s               two syllables, by four draws
--   form kind u v          a query of two words, by its kind: 1 a product, 2 an equation that holds
--                          in each group, 3 `solve`, else a commutator
--   line q u v             the line of the query with the number q, of two words
--   query n seed q         that query of a load, by its eight draws: first the word u, then v
--   queries n seed count   all lines
--   load_fault m count seed   the first of the three numbers that is out of range
-- s state of the draws · u v texts of words · q number of a query, from 1
use Rattle.std.specs.Prelude.{ℕ, ◌+◌, ◌-◌, ◌*◌, ◌%◌, ◌==◌, pos, ◌-ℤ◌, List, ◌++◌, codes, Option, if◌then◌else◌}
use Rattle.std.specs.List.{flat_map, range_with_len}
use Rattle.std.specs.Option.{option_or}
use Rattle.std.specs.Fmt.{decimal, signed_decimal}
use Rattle.nil_examples.specs.declared.example_fault.ExampleFault.{ExampleFault}
use Rattle.nil_examples.specs.Draws.{later, draw}
use Rattle.nil_examples.specs.Sizes.{size_fault}

abbrev pub syllable : ℕ → ℕ → List ℕ
syllable n s =
    codes "a" ++ decimal (1 + draw s 1 % n) ++ codes "^"
    ++ signed_decimal (pos (draw s 2 % 9) -ℤ pos 4)

abbrev pub word : ℕ → ℕ → List ℕ
word n s = syllable n s ++ codes "*" ++ syllable n (later s 2)

abbrev pub form : ℕ → List ℕ → List ℕ → List ℕ
form kind u v =
    if kind == 1 then codes "(" ++ u ++ codes ")*(" ++ v ++ codes ")"
    else (if kind == 2 then codes "(" ++ u ++ codes ")*(" ++ v ++ codes ") = (" ++ v ++ codes ")*("
    ++ u ++ codes ")*[" ++ u ++ codes "," ++ v ++ codes "]"
    else (if kind == 3 then codes "solve " ++ u ++ codes " | " ++ v
    else codes "[" ++ u ++ codes "," ++ v ++ codes "]"))

abbrev pub line : ℕ → List ℕ → List ℕ → List ℕ
line q u v = form (q % 4) u v ++ codes "\n"

abbrev pub query : ℕ → ℕ → ℕ → List ℕ
query n seed q =
    line q (word n (later seed (8 * (q - 1)))) (word n (later (later seed (8 * (q - 1))) 4))

abbrev pub queries : ℕ → ℕ → ℕ → List ℕ
queries n seed count = flat_map (query n seed) (range_with_len 1 count)

abbrev pub load_fault : ℕ → ℕ → ℕ → Option ExampleFault
load_fault m count seed =
    option_or (size_fault 2 10 m)
    (option_or (size_fault 1 1000000 count) (size_fault 0 2147483647 seed))
