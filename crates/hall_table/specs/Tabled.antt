-- What contracts see of a table.
--   Tabled                        the level, and the polynomials f_level to f_last
--   last_of t                     the number of the last generator
--   poly_in level ps k            f_k of the polynomials ps from the level on, and 0 past the end
--   poly_at t k                   f_k of a table
--   AreShaped level ps            each of the polynomials has the shape
--   IsFirstUnshaped level ps k    f_k is the first that hasn't
--   IsTabled t                    what each table meets
-- j k generators · t table · ps polynomials
use Rattle.std.specs.Prelude.{ℕ, ◌+◌, ◌-◌, ◌<◌, ◌≤◌, List, [], length, slice_index_or}
use Rattle.binom_poly.specs.declared.term.Term.{Term}
use Rattle.binom_poly.specs.Polynomial.{IsPolynomial}
use Rattle.hall_table.specs.declared.table.TheConstants.{GENERATOR_LIMIT}
use Rattle.hall_table.specs.Shape.{HasShape}

pub record Tabled : Type 0 where
  pub level : ℕ
  pub polys : List (List Term)

abbrev pub last_of : Tabled → ℕ
last_of t = t.level + length t.polys - 1

abbrev pub poly_in : ℕ → List (List Term) → ℕ → List Term
poly_in level ps k = slice_index_or ps (k - level) []

abbrev pub poly_at : Tabled → ℕ → List Term
poly_at t k = poly_in t.level t.polys k

abbrev pub AreShaped : ℕ → List (List Term) → Type 0
AreShaped level ps =
    (k : ℕ) → level ≤ k → k < level + length ps → HasShape level k (poly_in level ps k)

pub record IsFirstUnshaped (level : ℕ) (ps : List (List Term)) (k : ℕ) : Type 0 where
  pub from : level ≤ k
  pub to : k < level + length ps
  pub breaks : ¬ HasShape level k (poly_in level ps k)
  pub before : (j : ℕ) → level ≤ j → j < k → HasShape level j (poly_in level ps j)

pub record IsTabled (t : Tabled) : Type 0 where
  pub least : 1 ≤ t.level
  pub nonempty : 0 < length t.polys
  pub most : t.level + length t.polys ≤ GENERATOR_LIMIT + 1
  pub forms : (i : ℕ) → i < length t.polys → IsPolynomial (slice_index_or t.polys i [])
  pub shapes : AreShaped t.level t.polys
