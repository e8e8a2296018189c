-- The two entries of a relation.
--   exponent_in k right    the exponent of a_k in a right side, and 0 where it isn't there
--   PutPair t rows j l     the rows have the entries of the unit vector of l as values of the x,
--                          and those of the unit vector of j as values of the y
--   AreZero rows           all values are 0
--   AreZeroBut rows j l    those of other variables than the x of l and the y of j are 0
-- t table · j < l and k m generators · v variable · right right side · s syllable · rows readings of rows
use Rattle.std.specs.Prelude.{◌≡◌, ◌≢◌, ℕ, ◌≤◌, ◌==◌, ℤ, pos, List, [], ◌∷◌, if◌then◌else◌}
use Rattle.nil_word.specs.Exponents.{entry}
use Rattle.nil_pres.specs.declared.syllable.Syllable.{Syllable}
use Rattle.binom_poly.specs.Variable.{y_of}
use Rattle.binom_poly.specs.Reading.{Reading}
use Rattle.binom_poly.specs.Readings.{value_at}
use Rattle.hall_table.specs.Tabled.{Tabled, last_of}
use Rattle.identity_check.specs.Sides.{unit_vector}

abbrev pub exponent_in : ℕ → List Syllable → ℤ
exponent_in k [] = pos 0
exponent_in k (s ∷ rest) = if s.number == k then s.exp else exponent_in k rest

pub record PutPair (t : Tabled) (rows : List Reading) (j l : ℕ) : Type 0 where
  pub x : (m : ℕ) → t.level ≤ m → m ≤ last_of t → value_at rows m ≡ entry (unit_vector t l) m
  pub y : (m : ℕ) → t.level ≤ m → m ≤ last_of t
      → value_at rows (y_of m) ≡ entry (unit_vector t j) m

abbrev pub AreZero : List Reading → Type 0
AreZero rows = (v : ℕ) → value_at rows v ≡ pos 0

abbrev pub AreZeroBut : List Reading → ℕ → ℕ → Type 0
AreZeroBut rows j l = (v : ℕ) → v ≢ l → v ≢ y_of j → value_at rows v ≡ pos 0
