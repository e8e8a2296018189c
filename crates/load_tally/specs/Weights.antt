-- Vectors by weights, and remainders.
--   modulus              what remainders are taken by
--   remainder z          the remainder of z, from 0 to 999,999,999
--   weighted_from k v    k times the first entry, k + 1 times the second, and so on, added
--   weighted v           each entry times its place from 1, added
-- z an integer · k a place · v vector
use Rattle.std.specs.Prelude.{ℕ, ◌+◌, ℤ, pos, ◌+ℤ◌, ◌*ℤ◌, unsigned_abs, List, [], ◌∷◌}
use Rattle.std.specs.Int.{int_rem_euclid}

abbrev pub modulus : ℕ
modulus = 1000000000

abbrev pub remainder : ℤ → ℕ
remainder z = unsigned_abs (int_rem_euclid z (pos modulus))

abbrev pub weighted_from : ℕ → List ℤ → ℤ
weighted_from k [] = pos 0
weighted_from k (e ∷ v) = pos k *ℤ e +ℤ weighted_from (k + 1) v

abbrev pub weighted : List ℤ → ℤ
weighted v = weighted_from 1 v
