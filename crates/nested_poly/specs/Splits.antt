-- Terms that end with one part, and the others.
--   terms_by p c bs os    the term c p, the tails bs below the part p, and the tails os
--   split_terms s         the terms of a split
--   parts_left s          how many parts its tails have
--   HavePartsLeft s           each of its tails has a part
--   Adds old new t        new has the terms of old and t
--   IsSplitOf s ts        s has the terms of ts, and fewer parts are left in it
-- p part · c coefficient · bs os ts tails · s old new splits · t tail
use Rattle.std.specs.Prelude.{◌≡◌, ◌≤◌, ℕ, ◌+◌, ◌<◌, List, [], ◌∷◌, ◌++◌, ℤ, pos, ◌+ℤ◌, length, All}
use Rattle.binom_poly.specs.declared.term.Term.{Term}
use Rattle.binom_poly.specs.declared.part.Part.{Part}
use Rattle.binom_poly.specs.Polynomial.{value_of}
use Rattle.binom_poly.specs.Reading.{Reading}
use Rattle.binom_poly.specs.Readings.{width_at, magnitude_of, IsCovered}
use Rattle.nested_poly.specs.declared.split.Split.{Split}
use Rattle.nested_poly.specs.declared.tail.Tail.{Tail}
use Rattle.nested_poly.specs.Nodes.{branch_terms, IsNestOf}
use Rattle.nested_poly.specs.Tails.{last_part, tail_terms, parts_in, HasPart}

abbrev pub terms_by : Part → ℤ → List Tail → List Tail → List Term
terms_by p c bs os =
    branch_terms record { part = p; coefficient = c; below = 0 } (tail_terms bs) ++ tail_terms os

abbrev pub split_terms : Split → List Term
split_terms s = terms_by s.part s.coefficient s.below.items s.others.items

abbrev pub parts_left : Split → ℕ
parts_left s = parts_in s.below.items + parts_in s.others.items

pub record HavePartsLeft (s : Split) : Type 0 where
  pub below : All HasPart s.below.items
  pub others : All HasPart s.others.items

pub record Adds (old new : Split) (t : Tail) : Type 0 where
  pub part : new.part ≡ old.part
  pub values : (a : ℕ → ℤ) → value_of a (split_terms new)
      ≡ value_of a (split_terms old) +ℤ value_of a (tail_terms (t ∷ []))
  pub magnitudes : (a : ℕ → ℤ) → magnitude_of a (split_terms new)
      ≡ magnitude_of a (split_terms old) + magnitude_of a (tail_terms (t ∷ []))
  pub covers : (rows : List Reading) → old.part.exp < width_at rows old.part.var
      → IsCovered rows (split_terms old) → IsCovered rows (tail_terms (t ∷ []))
      → IsCovered rows (split_terms new)
  pub form : HavePartsLeft old → HavePartsLeft new
  pub parts : parts_left new ≤ parts_left old + length t.parts.now
  pub fewer : old.coefficient ≡ pos 0 → last_part t.parts.now old.part ≡ old.part
      → parts_left new + 1 ≤ parts_left old + length t.parts.now

pub record IsSplitOf (s : Split) (ts : List Tail) : Type 0 where
  pub nest : IsNestOf (split_terms s) (tail_terms ts)
  pub form : HavePartsLeft s
  pub fewer : parts_left s + 1 ≤ parts_in ts
