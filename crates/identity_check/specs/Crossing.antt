-- Terms that are 0 where a last generator, or 0, is multiplied on.
--   Crosses k ms     the monomial ms has x_k or y_k; or it has a y_j, with an exponent above 1 or
--                    beside a variable that stands above x_j in number
--   AllCross t       each term of each f_k of the table does
-- t table · k j generators · i h places of parts
use Rattle.std.specs.Prelude.{◌≡◌, ◌⊎◌, ℕ, ◌-◌, ◌<◌, ◌≤◌, List, All, HoldsAt, length, slice_index_or}
use Rattle.binom_poly.specs.declared.part.Part.{Part}
use Rattle.binom_poly.specs.Variable.{y_of}
use Rattle.hall_table.specs.Tabled.{Tabled, last_of, poly_at}

pub data Crosses (k : ℕ) (ms : List Part) : Type 0 where
  own : (i : ℕ) → i < length ms → HoldsAt (λ p. (p.var ≡ k) ⊎ (p.var ≡ y_of k)) ms i
      → Crosses k ms
  often : (i : ℕ) → i < length ms → HoldsAt (λ p. (y_of 0 ≤ p.var) × (1 < p.exp)) ms i
      → Crosses k ms
  past : (i h : ℕ) → h < i → i < length ms
      → ((d : Part) → (y_of 0 ≤ (slice_index_or ms i d).var)
      × ((slice_index_or ms i d).var - y_of 0 < (slice_index_or ms h d).var))
      → Crosses k ms

abbrev pub AllCross : Tabled → Type 0
AllCross t = (k : ℕ) → t.level ≤ k → k ≤ last_of t
    → All (λ u. Crosses k u.monomial) (poly_at t k)
