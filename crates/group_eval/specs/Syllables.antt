-- Syllables, powers of one generator, multiplied on to a vector that is 0 above the generator.
--   IsSyllableOf c g e   g is a generator from the level of c on, and e a number
--   appended t x g e     what the written order gives there: the rows of x, the row of e, the sum at g
--   AppendedIs c         it is the product with the power
-- c a presentation with its table · t table · x vector · g generator · e exponent
use Rattle.std.specs.Prelude.{◌≡◌, ℕ, ◌+◌, ◌≤◌, ℤ, unsigned_abs, List, length, Ok}
use Rattle.nil_num.specs.Bound.{overflows, IsNumber}
use Rattle.nil_num.specs.First.{first_from}
use Rattle.nil_word.specs.Exponents.{entry}
use Rattle.hall_law.specs.Table.{added, single, IsZeroAbove}
use Rattle.binom_poly.specs.Variable.{y_of}
use Rattle.hall_table.specs.declared.wide_at.WideAt.TheVariants.{RowX, RowY, Sum}
use Rattle.hall_table.specs.Tabled.{Tabled, last_of}
use Rattle.hall_table.specs.Width.{width_for}
use Rattle.hall_table.specs.Multiplies.{Paired}
use Rattle.hall_table.specs.Order.{generators, named, multiplied, row_overflows, x_overflows}
use Rattle.group_eval.specs.ByValues.{IsWritten}
use Rattle.group_eval.specs.Order.{Outcome, unless}

pub record IsSyllableOf (c : Paired) (g : ℕ) (e : ℤ) : Type 0 where
  pub least : c.table.level ≤ g
  pub most : g ≤ length c.pres.names
  pub number : IsNumber e

abbrev pub appended : Tabled → List ℤ → ℕ → ℤ → Outcome
appended t x g e =
    named RowX (first_from t.level (generators t) (x_overflows t x))
    (unless (row_overflows e (width_for t (y_of g))) (RowY g)
    (unless (overflows (unsigned_abs (entry x g) + unsigned_abs e)) (Sum g)
    (Ok (added x g e))))

abbrev pub AppendedIs : Paired → Type 0
AppendedIs c = (x : List ℤ) (g : ℕ) (e : ℤ) → IsWritten c x → IsZeroAbove g x → IsSyllableOf c g e
    → multiplied c.table x (single (last_of c.table) g e) ≡ appended c.table x g e
