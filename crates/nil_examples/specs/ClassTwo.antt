-- What a presentation says of a free nilpotent group of class two with r generators.
--   IsPair r i j                  a_i and a_j, i < j, are of the first r generators
--   IsEarlier i j i' j'           the pair of i and j comes before that of i' and j': by the later
--                                 generator, then by the earlier one
--   IsCommutator pres i j k       [a_j,a_i] = a_k
--   IsFreeOfClassTwo r pres       each generator behind the first r is the commutator of a pair of
--                                 these, one for each pair and in their order, and commutes with all
-- i < j generators · k generator
use Rattle.std.specs.Prelude.{◌≡◌, ℕ, ◌+◌, ◌<◌, ◌≤◌, ◌⊎◌, pos, [], ◌∷◌, length}
use Rattle.nil_pres.specs.Presented.{Presented, right_of}
use Rattle.nil_examples.specs.Powers.{numbered}
use Rattle.nil_examples.specs.Free.{pairs}

pub record IsPair (r i j : ℕ) : Type 0 where
  pub least : 1 ≤ i
  pub below : i < j
  pub most : j ≤ r

abbrev pub IsEarlier : ℕ → ℕ → ℕ → ℕ → Type 0
IsEarlier i j i' j' = (j < j') ⊎ ((j ≡ j') × (i < i'))

abbrev pub IsCommutator : Presented → ℕ → ℕ → ℕ → Type 0
IsCommutator pres i j k = right_of pres i j ≡ record { number = k; exp = pos 1 } ∷ []

pub record IsFreeOfClassTwo (r : ℕ) (pres : Presented) : Type 0 where
  pub names : pres.names ≡ numbered (r + pairs r)
  pub each : (i j : ℕ) → IsPair r i j
      → (k : ℕ) × (r < k) × (k ≤ length pres.names) × IsCommutator pres i j k
  pub only : (k : ℕ) → r < k → k ≤ length pres.names
      → (i : ℕ) × ((j : ℕ) × IsPair r i j × IsCommutator pres i j k)
  pub in_order : (i j i' j' k k' : ℕ) → IsPair r i j → IsPair r i' j' → IsEarlier i j i' j'
      → IsCommutator pres i j k → IsCommutator pres i' j' k' → k < k'
  pub central : (i j : ℕ) → IsPair (length pres.names) i j → r < j → right_of pres i j ≡ []
