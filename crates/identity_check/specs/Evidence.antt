-- What a failure shows by its point and its two numbers.
--   listed point          the integer point of a list of values: 0 at each variable that it
--                         doesn't name
--   IsEvidence rels t f   the numbers of f differ, and at its point the values of the two sides
--                         differ by left - right; of a relation they are the two entries, and the
--                         point is empty
-- rels a presentation · t table · f failure · j < l and k generators · v variable
use Rattle.std.specs.Prelude.{◌≡◌, ◌≢◌, ◌==◌, ℕ, ℤ, pos, ◌-ℤ◌, List, [], ◌∷◌, cond}
use Rattle.nil_word.specs.Congruence.{Relations}
use Rattle.binom_poly.specs.Polynomial.{value_of}
use Rattle.hall_table.specs.Tabled.{Tabled}
use Rattle.identity_check.specs.declared.identity.Identity.TheVariants.{Relation}
use Rattle.identity_check.specs.declared.failure.At.{At}
use Rattle.identity_check.specs.declared.failure.Failure.{Failure}
use Rattle.identity_check.specs.Sides.{entry_of_unit, entry_of_pair, left_of, right_of}

unfoldable pub listed : List At → ℕ → ℤ
listed [] v = pos 0
listed (at ∷ rest) v = cond (at.var == v) (pos at.value) (listed rest v)

pub record IsEvidence (rels : Relations) (t : Tabled) (f : Failure) : Type 0 where
  pub differ : f.left ≢ f.right
  pub values : value_of (listed f.point.items) (left_of t f.identity)
      -ℤ value_of (listed f.point.items) (right_of rels t f.identity) ≡ f.left -ℤ f.right
  pub entries : (j l k : ℕ) → f.identity ≡ Relation j l k → (f.point.items ≡ [])
      × (f.left ≡ entry_of_unit t j l k) × (f.right ≡ entry_of_pair rels j l k)
