-- The words that the functions of the collector append, and what each of them asks for.
--   piece rels a l       what a generator a_l of a right side is in the word `conjugated rels a k`
--   pieces rels a ss     what the syllables of a right side are there
--   turned forward w     w, or its inverse where forward is false
--   IsReady p v b        a vector of the presentation, whose entries are within the letters that
--                        are spent where b of 2^24 are left
-- a letter · l generator · ss syllables · p presentation · v vector · b budget
use Rattle.std.specs.Prelude.{◌≡◌, ℕ, ◌-◌, ◌^◌, ◌≤◌, Bool, ℤ, unsigned_abs, List, [], ◌∷◌, length, All, if◌then◌else◌}
use Rattle.nil_word.specs.declared.letter.Letter.{Letter}
use Rattle.nil_word.specs.Words.{up, inverse}
use Rattle.nil_word.specs.Factors.{word_of}
use Rattle.nil_word.specs.Congruence.{Relations}
use Rattle.nil_pres.specs.declared.syllable.Syllable.{Syllable}
use Rattle.nil_pres.specs.Presented.{Presented, IsPresented}
use Rattle.nil_pres.specs.Relations.{factors_of}
use Rattle.left_collect.specs.Conjugates.{image, conjugated}

abbrev pub piece : Relations → Letter → ℕ → List Letter
piece rels a l = if a.up then up l ∷ [] else conjugated rels a l

abbrev pub pieces : Relations → Letter → List Syllable → List Letter
pieces rels a ss = image (piece rels a) (word_of (factors_of ss))

abbrev pub turned : Bool → List Letter → List Letter
turned forward w = if forward then w else inverse w

pub record IsReady (p : Presented) (v : List ℤ) (b : ℕ) : Type 0 where
  pub lawful : IsPresented p
  pub entries : length v ≡ length p.names
  pub budget : b ≤ 2 ^ 24
  pub within : All (λ e. unsigned_abs e ≤ 2 ^ 24 - b) v
