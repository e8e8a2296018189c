-- Products of elementary matrices.
--   Matrix                        an integer in each row and column
--   times x c M                   M times the matrix with ones on the diagonal and c at the place x,
--                                 off the diagonal: column x.column grows by c times column x.row
--   generator k                   a_k as a syllable
--   product m w M                 M times the powers in w, one after another, where a_k is the
--                                 elementary matrix with m rows at its place
--   HoldForMatrices m pres        a_j a_i = a_i a_j w as matrices for each pair and its right side w
-- x place · w syllables · M matrix · i < j generators
use Rattle.std.specs.Prelude.{◌≡◌, ℕ, ◌<◌, ◌≤◌, ◌==◌, ℤ, pos, ◌+ℤ◌, ◌*ℤ◌, List, [], ◌∷◌, length, if◌then◌else◌}
use Rattle.nil_pres.specs.declared.syllable.Syllable.{Syllable}
use Rattle.nil_pres.specs.Presented.{Presented, right_of}
use Rattle.nil_examples.specs.declared.places.Place.{Place}
use Rattle.nil_examples.specs.Places.{places, place_of}

abbrev pub Matrix : Type 0
Matrix = ℕ → ℕ → ℤ

abbrev pub times : Place → ℤ → Matrix → Matrix
times x c M row column =
    if column == x.column then M row column +ℤ (c *ℤ M row x.row) else M row column

abbrev pub generator : ℕ → Syllable
generator k = record { number = k; exp = pos 1 }

abbrev pub product : ℕ → List Syllable → Matrix → Matrix
product m [] M = M
product m (s ∷ w) M = product m w (times (place_of (places m) s.number) s.exp M)

pub record HoldForMatrices (m : ℕ) (pres : Presented) : Type 0 where
  pub relation : (i j : ℕ) → 1 ≤ i → i < j → j ≤ length pres.names → (M : Matrix)
      → (row column : ℕ) → product m (generator j ∷ generator i ∷ []) M row column
      ≡ product m (generator i ∷ generator j ∷ right_of pres i j) M row column
