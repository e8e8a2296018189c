-- The generators whose step identities are tried.
--   AreEnough rels level ms     each generator from the level on is drawn from the generators ms, so
--                               their upward step identities are enough
--   AreGenerators low n ms      each of the ms is from low to n
--   IsMarked marks k            generator k is marked
--   AreDrawn rels level ms marks    each that is marked is drawn from the generators ms
--   KeepDrawn rels level marks more    where these marked are drawn, those of the next list are
--   IsLeft right marks m        m is once in a right side, and each other generator there is marked
-- rels a presentation · k m generators, ms a list of them · marks by generator · s syllable
use Rattle.std.specs.Prelude.{◌≡◌, ◌≢◌, ◌⊎◌, ℕ, ◌≤◌, pos, negsuc, Bool, false, List, All, Contains, IsTrue, slice_index_or}
use Rattle.nil_word.specs.Congruence.{Relations}
use Rattle.nil_pres.specs.declared.syllable.Syllable.{Syllable}
use Rattle.hall_law.specs.Nucleus.{IsDrawn}
use Rattle.identity_check.specs.Pairs.{exponent_in}

abbrev pub AreEnough : Relations → ℕ → List ℕ → Type 0
AreEnough rels level ms =
    (m : ℕ) → level ≤ m → m ≤ rels.count → IsDrawn rels level (Contains ms) m

abbrev pub AreGenerators : ℕ → ℕ → List ℕ → Type 0
AreGenerators low n ms = All (λ m. (low ≤ m) × (m ≤ n)) ms

abbrev pub IsMarked : List Bool → ℕ → Type 0
IsMarked marks k = IsTrue (slice_index_or marks k false)

abbrev pub AreDrawn : Relations → ℕ → List ℕ → List Bool → Type 0
AreDrawn rels level ms marks = (m : ℕ) → IsMarked marks m → IsDrawn rels level (Contains ms) m

abbrev pub KeepDrawn : Relations → ℕ → List Bool → List Bool → Type 0
KeepDrawn rels level marks more =
    (ms : List ℕ) → AreDrawn rels level ms marks → AreDrawn rels level ms more

pub record IsLeft (right : List Syllable) (marks : List Bool) (m : ℕ) : Type 0 where
  pub once : (exponent_in m right ≡ pos 1) ⊎ (exponent_in m right ≡ negsuc 0)
  pub others : All (λ s. s.number ≢ m → IsMarked marks s.number) right
