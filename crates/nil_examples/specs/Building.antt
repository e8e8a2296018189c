-- How far a builder has come.
--   partly f g xs i      f of the first i elements, and g of the others
--   blank j              a row of a_j in which no pair was added
--   rows right j i       a row of a_j with the pairs up to a_i
--   whole_row right j    the same with all its pairs
--   named n              n names, and no pair
--   so_far n right k     n names, and all pairs of the first k generators
--   with_row d j r       the draft with another row of a_j
--   with_pair d i j e    the draft with a pair, where its generators don't commute
-- d draft · i < j generators
use Rattle.std.specs.Prelude.{ℕ, zero, suc, ◌-◌, List, [], ◌∷◌, map, replicate, slice_set, Option, Some, None}
use Rattle.std.specs.List.{range_with_len}
use Rattle.nil_pres.specs.declared.syllable.Syllable.{Syllable}
use Rattle.nil_pres.specs.Presented.{Draft, with_relation}
use Rattle.nil_examples.specs.Powers.{numbered, entry}

abbrev pub partly : {A B : Type 0} → (A → B) → (A → B) → List A → ℕ → List B
partly f g [] i = []
partly f g (x ∷ xs) zero = g x ∷ partly f g xs zero
partly f g (x ∷ xs) (suc i) = f x ∷ partly f g xs i

abbrev pub blank : ℕ → List (Option (List Syllable))
blank j = replicate (j - 1) None

abbrev pub rows : (ℕ → ℕ → Option Syllable) → ℕ → ℕ → List (Option (List Syllable))
rows right j i = partly (λ k. entry (right k j)) (λ _. None) (range_with_len 1 (j - 1)) i

abbrev pub whole_row : (ℕ → ℕ → Option Syllable) → ℕ → List (Option (List Syllable))
whole_row right j = map (λ k. entry (right k j)) (range_with_len 1 (j - 1))

abbrev pub named : ℕ → Draft
named n = record { names = numbered n; rights = map blank (range_with_len 1 n) }

abbrev pub so_far : ℕ → (ℕ → ℕ → Option Syllable) → ℕ → Draft
so_far n right k = record {
  names = numbered n;
  rights = partly (whole_row right) blank (range_with_len 1 n) k;
}

abbrev pub with_row : Draft → ℕ → List (Option (List Syllable)) → Draft
with_row d j r = record { names = d.names; rights = slice_set d.rights (j - 1) r }

abbrev pub with_pair : Draft → ℕ → ℕ → Option Syllable → Draft
with_pair d i j None = d
with_pair d i j (Some power) = with_relation d i j (power ∷ [])
