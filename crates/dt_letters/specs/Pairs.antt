-- The pairs of types that have a type in their right side.
--   row_in rows k          the pairs in row k, none past the end
--   named pair k right     the pair as often as k is in a right side
--   pair_of e k p q        the pair of p and q, where k is in its right side
--   pairs_up_to e k n      those with a left type up to n, by the left type and then by the right one
--   pairs_of e k           those of all types below k
--   HasPairs e rows        a row for each type up to 48, with its pairs
-- e exponents · k p q types · n number · rows lists of pairs
use Rattle.std.specs.Prelude.{◌≡◌, ℕ, zero, suc, ◌-◌, ◌<◌, ◌==◌, List, [], ◌∷◌, length, Vec, if◌then◌else◌}
use Rattle.std.specs.declared.alloc.Global.{Global}
use Rattle.nil_pres.specs.declared.syllable.Syllable.{Syllable}
use Rattle.dt_letters.specs.declared.pair.Pair.{Pair}
use Rattle.dt_letters.specs.Allowed.{Exponents}
use Rattle.dt_letters.specs.Listing.{each, is_zero, upto}

abbrev pub row_in : List (Vec Pair Global) → ℕ → List Pair
row_in [] k = []
row_in (row ∷ rows) zero = row.items
row_in (row ∷ rows) (suc k) = row_in rows k

abbrev pub named : Pair → ℕ → List Syllable → List Pair
named pair k right = each (λ s. if s.number == k then pair ∷ [] else []) right

abbrev pub pair_of : Exponents → ℕ → ℕ → ℕ → List Pair
pair_of e k p q = if is_zero (e q p k) then [] else record { left = p; right = q } ∷ []

abbrev pub pairs_up_to : Exponents → ℕ → ℕ → List Pair
pairs_up_to e k n = each (λ p. each (λ q. pair_of e k p q) (upto (p - 1))) (upto n)

abbrev pub pairs_of : Exponents → ℕ → List Pair
pairs_of e k = pairs_up_to e k (k - 1)

pub record HasPairs (e : Exponents) (rows : List (Vec Pair Global)) : Type 0 where
  pub count : length rows ≡ 49
  pub pairs : (k : ℕ) → k < 49 → row_in rows k ≡ pairs_of e k
