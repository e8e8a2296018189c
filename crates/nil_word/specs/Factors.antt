-- Words as products of powers of generators.
--   Factor                      a generator to a power
--   word_of ss                  the word of factors, one behind another
--   factors_from k v            the entries of v as factors, from generator k on
--   IsAscending low high ss     ascending factors above low, each of a generator up to high
--   Factoring                   factors for each pair of generators
--   IsFactored rels factors     they are the right sides, and above their pair
-- rels a presentation · j < l generators · s factor · ss factors · v vector
use Rattle.std.specs.Prelude.{◌≡◌, ℕ, suc, ◌≤◌, ◌<◌, ℤ, List, [], ◌∷◌, ◌++◌, All}
use Rattle.nil_word.specs.declared.letter.Letter.{Letter}
use Rattle.nil_word.specs.Words.{power}
use Rattle.nil_word.specs.Congruence.{Relations}

pub record Factor : Type 0 where
  pub number : ℕ
  pub exp : ℤ

abbrev pub word_of : List Factor → List Letter
word_of [] = []
word_of (s ∷ ss) = power s.number s.exp ++ word_of ss

abbrev pub factors_from : ℕ → List ℤ → List Factor
factors_from k [] = []
factors_from k (e ∷ v) =
    let s : Factor = record { number = k; exp = e } in s ∷ factors_from (suc k) v

abbrev pub IsAscending : ℕ → ℕ → List Factor → Type 0
IsAscending low high [] = Unit {0}
IsAscending low high (s ∷ ss) = (low < s.number) × (s.number ≤ high) × IsAscending s.number high ss

abbrev pub Factoring : Type 0
Factoring = ℕ → ℕ → List Factor

pub record IsFactored (rels : Relations) (factors : Factoring) : Type 0 where
  pub word : (j l : ℕ) → 1 ≤ j → j < l → l ≤ rels.count → rels.right j l ≡ word_of (factors j l)
  pub above : (j l : ℕ) → 1 ≤ j → j < l → l ≤ rels.count
      → All (λ s. (l < s.number) × (s.number ≤ rels.count)) (factors j l)
