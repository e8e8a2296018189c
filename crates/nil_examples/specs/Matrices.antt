-- What a presentation says of elementary matrices with m rows, by their places.
--   IsAbove m x          x is a place above the diagonal
--   IsNearer x y         x is nearer to the diagonal than y, or as near and in an earlier row
--   IsAt m k x           the generator a_k is the elementary matrix at the place x
--   AreNumbered m        generators are at the places above the diagonal, one at each and in order
--   AreMatrices m pres   such generators with the relations of elementary matrices: for the places
--                        (p,q), (q,r) and (p,r) of a_s, a_t and a_u the commutator of a_s and a_t
--                        is a_u or its inverse, by which of the two comes first; all others commute
-- p q r rows and columns · x y places · i j k s t u generators
use Rattle.std.specs.Prelude.{◌≡◌, ◌≢◌, ℕ, ◌-◌, ◌<◌, ◌≤◌, ◌⊎◌, pos, negsuc, [], ◌∷◌, length}
use Rattle.nil_pres.specs.Presented.{Presented, right_of}
use Rattle.nil_examples.specs.declared.places.Place.{Place}
use Rattle.nil_examples.specs.Powers.{numbered}
use Rattle.nil_examples.specs.Places.{places, place_of}

pub record IsAbove (m : ℕ) (x : Place) : Type 0 where
  pub least : 1 ≤ x.row
  pub above : x.row < x.column
  pub most : x.column ≤ m

abbrev pub IsNearer : Place → Place → Type 0
IsNearer x y =
    (x.column - x.row < y.column - y.row)
    ⊎ ((x.column - x.row ≡ y.column - y.row) × (x.row < y.row))

pub record IsAt (m k : ℕ) (x : Place) : Type 0 where
  pub least : 1 ≤ k
  pub most : k ≤ length (places m)
  pub place : place_of (places m) k ≡ x

pub record AreNumbered (m : ℕ) : Type 0 where
  pub above : (k : ℕ) (x : Place) → IsAt m k x → IsAbove m x
  pub all : (x : Place) → IsAbove m x → (k : ℕ) × IsAt m k x
  pub in_order : (i j : ℕ) (x y : Place) → i < j → IsAt m i x → IsAt m j y → IsNearer x y

pub record AreMatrices (m : ℕ) (pres : Presented) : Type 0 where
  pub names : pres.names ≡ numbered (length (places m))
  pub places : AreNumbered m
  pub product : (s t u p q r : ℕ) → s < t → IsAt m s (record { row = p; column = q })
      → IsAt m t (record { row = q; column = r }) → IsAt m u (record { row = p; column = r })
      → right_of pres s t ≡ record { number = u; exp = negsuc 0 } ∷ []
  pub turned : (s t u p q r : ℕ) → t < s → IsAt m s (record { row = p; column = q })
      → IsAt m t (record { row = q; column = r }) → IsAt m u (record { row = p; column = r })
      → right_of pres t s ≡ record { number = u; exp = pos 1 } ∷ []
  pub others : (i j : ℕ) (x y : Place) → i < j → IsAt m i x → IsAt m j y
      → x.column ≢ y.row → y.column ≢ x.row → right_of pres i j ≡ []
