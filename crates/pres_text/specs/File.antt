-- Which presentation a file says.
--   Relation              a relation of the generators above and below
--   power_of s            the power that is spelled for a syllable
--   spelled_as r          the spelling of a relation
--   right_given rs j i    the right side that is given for a pair, and else the empty one
--   IsLawful n r          r is of two of n generators, the first above the second, and its right
--                         side is lawful
--   IsApart r rs          none of these relations is of the pair of r
--   AreRelations names texts rs    each text spells its relation, a lawful one of a pair of its own
--   IsFile p file         the file says the presentation p
use Rattle.std.specs.Prelude.{◌≡◌, ℕ, ◌<◌, ◌≤◌, ◌==◌, ◌&&◌, true, List, [], ◌∷◌, length, map, Some, codes, if◌then◌else◌}
use Rattle.nil_pres.specs.declared.syllable.Syllable.{Syllable}
use Rattle.nil_pres.specs.Rights.{IsRight}
use Rattle.nil_pres.specs.Presented.{Presented, IsPresented, right_of}
use Rattle.line_tokens.specs.Tokens.{kinds}
use Rattle.pres_text.specs.Lines.{content, words, is_text}
use Rattle.pres_text.specs.Relation.{Power, Spelled, IsSpelled, relation_word}

pub record Relation : Type 0 where
  pub above : ℕ
  pub below : ℕ
  pub right : List Syllable

abbrev pub power_of : Syllable → Power
power_of s = record { number = s.number; exponent = Some s.exp }

abbrev pub spelled_as : Relation → Spelled
spelled_as r = record { above = r.above; below = r.below; right = map power_of r.right }

abbrev pub right_given : List Relation → ℕ → ℕ → List Syllable
right_given [] j i = []
right_given (r ∷ rs) j i = if (r.above == j) && (r.below == i) then r.right else right_given rs j i

pub record IsLawful (n : ℕ) (r : Relation) : Type 0 where
  pub low : 1 ≤ r.below
  pub order : r.below < r.above
  pub right : IsRight r.above n r.right

abbrev pub IsApart : Relation → List Relation → Type 0
IsApart r [] = Unit {0}
IsApart r (s ∷ rs) = (s.above ≡ r.above → s.below ≡ r.below → ⊥) × IsApart r rs

pub data AreRelations (names : List (List ℕ)) : List (List ℕ) → List Relation → Type 0 where
  none : AreRelations names [] []
  more : (text : List ℕ) (texts : List (List ℕ)) (r : Relation) (rs : List Relation)
      → is_text text ≡ true → IsSpelled (kinds (relation_word names) text) (spelled_as r)
      → IsLawful (length names) r → IsApart r rs → AreRelations names texts rs
      → AreRelations names (text ∷ texts) (r ∷ rs)

pub record IsFile (p : Presented) (file : List ℕ) : Type 0 where
  -- the texts of the lines that say something
  pub header : List ℕ
  pub generators : List ℕ
  pub others : List (List ℕ)
  pub texts : map (λ l. l.text) (content file) ≡ header ∷ generators ∷ others
  -- what they say
  pub header_text : is_text header ≡ true
  pub header_words : words header ≡ codes "nilpotent" ∷ codes "1" ∷ []
  pub generators_text : is_text generators ≡ true
  pub generators_words : words generators ≡ codes "generators" ∷ p.names
  pub relations : List Relation
  pub are_relations : AreRelations p.names others relations
  -- the presentation is lawful, and has the right sides that are given
  pub lawful : IsPresented p
  pub rights : (j i : ℕ) → 1 ≤ i → i < j → j ≤ length p.names
      → right_of p i j ≡ right_given relations j i
