-- Terms that aren't 0 where two generators are multiplied.
--   IsApart j l ms       ms is 0 at the unit vectors of l and j: it has another variable than x_l
--                        and y_j, or an exponent above 1
--   IsTold rels n k ms   so it is for each pair up to n of other generators than k whose relation
--                        has 0 at entry k
--   AllTold rels t       each term of each f_k of the table is told so
-- rels a presentation · t table · j < l and k generators · n the last one · ms monomial
use Rattle.std.specs.Prelude.{◌≡◌, ◌≢◌, ◌⊎◌, ℕ, ◌<◌, ◌≤◌, pos, List, All, HoldsAt, length}
use Rattle.nil_word.specs.Congruence.{Relations}
use Rattle.binom_poly.specs.declared.part.Part.{Part}
use Rattle.binom_poly.specs.Variable.{y_of}
use Rattle.hall_table.specs.Tabled.{Tabled, last_of, poly_at}
use Rattle.identity_check.specs.Sides.{entry_of_pair}

pub record IsApart (j l : ℕ) (ms : List Part) : Type 0 where
  pub place : ℕ
  pub within : place < length ms
  pub zero : HoldsAt (λ p. (1 < p.exp) ⊎ ((p.var ≢ l) × (p.var ≢ y_of j))) ms place

abbrev pub IsTold : Relations → ℕ → ℕ → List Part → Type 0
IsTold rels n k ms = (j l : ℕ) → 1 ≤ j → j < l → l ≤ n → k ≢ j → k ≢ l
    → entry_of_pair rels j l k ≡ pos 0 → IsApart j l ms

abbrev pub AllTold : Relations → Tabled → Type 0
AllTold rels t = (k : ℕ) → t.level ≤ k → k ≤ last_of t
    → All (λ u. IsTold rels (last_of t) k u.monomial) (poly_at t k)
