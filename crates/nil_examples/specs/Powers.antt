-- Presentations whose right sides are one power each, or empty.
--   name_of k              the name a1, a2, .. of a generator
--   numbered n             the names of n generators
--   entry e, right_side e  what is added for a pair, and its right side: one power, or nothing
--   row right j            the right sides of a_j with a_1 to a_{j-1}
--   presentation n right   n generators, where right i j is the power that [a_j,a_i] is equal to;
--                          where there is none, a_i and a_j commute
-- i < j generators · e a power, where there is one
use Rattle.std.specs.Prelude.{ℕ, ◌-◌, List, [], ◌∷◌, ◌++◌, map, codes, Option, option_map, unwrap_or}
use Rattle.std.specs.List.{range_with_len}
use Rattle.std.specs.Fmt.{decimal}
use Rattle.nil_pres.specs.declared.syllable.Syllable.{Syllable}
use Rattle.nil_pres.specs.Presented.{Presented}

abbrev pub name_of : ℕ → List ℕ
name_of k = codes "a" ++ decimal k

abbrev pub numbered : ℕ → List (List ℕ)
numbered n = map name_of (range_with_len 1 n)

abbrev pub entry : Option Syllable → Option (List Syllable)
entry e = option_map (λ power. power ∷ []) e

abbrev pub right_side : Option Syllable → List Syllable
right_side e = unwrap_or (entry e) []

abbrev pub row : (ℕ → ℕ → Option Syllable) → ℕ → List (List Syllable)
row right j = map (λ i. right_side (right i j)) (range_with_len 1 (j - 1))

abbrev pub presentation : ℕ → (ℕ → ℕ → Option Syllable) → Presented
presentation n right = record {
  names = numbered n;
  rights = map (row right) (range_with_len 1 n);
}
