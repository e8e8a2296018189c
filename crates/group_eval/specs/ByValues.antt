-- What the written order gives in terms of the table's values, for each table that multiplies in
-- its presentation.
--   IsIn c x            x is a vector of the level of the table of c
--   IsWritten c x       it is one, and its entries are numbers
--   IsOnly c P x        x is the only vector of the level with P, and it is written
--   MultipliedByValues c    what `multiplied` gives is the value of the table
--   SolvedByValues c        what `solved` gives is the only solution
--   InvertedByValues c      what `inverted` gives is the only inverse on the right
--   DividedByValues c       what `divided` gives is the only vector whose product with b is a
--   PoweredByValues c       what `powered` gives is the power, whatever makes the powers
--   CommutedByValues c      what `commuted` gives is the only x with (b a) x = a b
--   ConjugatedByValues c    what `conjugated` gives is the only x with b x = a b
-- c a presentation with its table · a b x y vectors · e an integer · Q powers of the table
use Rattle.std.specs.Prelude.{◌≡◌, ℤ, List, length, Ok}
use Rattle.nil_word.specs.Words.{IsVector}
use Rattle.hall_law.specs.Table.{zeros}
use Rattle.hall_law.specs.Plan.{Powers, IsPower}
use Rattle.hall_table.specs.Values.{values}
use Rattle.hall_table.specs.Multiplies.{Paired}
use Rattle.hall_table.specs.Order.{multiplied}
use Rattle.group_eval.specs.Order.{solved, inverted, divided, powered, commuted, conjugated}
use Rattle.group_eval.specs.Right.{AreSmall}

abbrev pub IsIn : Paired → List ℤ → Type 0
IsIn c x = IsVector (length c.pres.names) c.table.level x

pub record IsWritten (c : Paired) (x : List ℤ) : Type 0 where
  pub vector : IsIn c x
  pub small : AreSmall x

pub record IsOnly (c : Paired) (P : List ℤ → Type 0) (x : List ℤ) : Type 0 where
  pub written : IsWritten c x
  pub holds : P x
  pub only : (y : List ℤ) → IsIn c y → P y → y ≡ x

abbrev pub MultipliedByValues : Paired → Type 0
MultipliedByValues c = (a b x : List ℤ) → IsIn c a → IsIn c b → multiplied c.table a b ≡ Ok x
    → IsWritten c x × (x ≡ values c.table a b)

abbrev pub SolvedByValues : Paired → Type 0
SolvedByValues c = (a b x : List ℤ) → IsIn c a → IsIn c b → solved c.table a b ≡ Ok x
    → IsOnly c (λ y. values c.table a y ≡ b) x

abbrev pub InvertedByValues : Paired → Type 0
InvertedByValues c = (a x : List ℤ) → IsIn c a → inverted c.table a ≡ Ok x
    → IsOnly c (λ y. values c.table a y ≡ zeros (length c.pres.names)) x

abbrev pub DividedByValues : Paired → Type 0
DividedByValues c = (a b x : List ℤ) → IsIn c a → IsIn c b → divided c.table a b ≡ Ok x
    → IsOnly c (λ y. values c.table y b ≡ a) x

abbrev pub PoweredByValues : Paired → Type 0
PoweredByValues c = (Q : Powers)
    → IsPower (length c.pres.names) c.table.level (values c.table) Q
    → (a x : List ℤ) (e : ℤ) → IsIn c a → powered c.table a e ≡ Ok x
    → IsIn c x × (x ≡ Q a e) × (AreSmall a → AreSmall x)

abbrev pub CommutedByValues : Paired → Type 0
CommutedByValues c = (a b x : List ℤ) → IsIn c a → IsIn c b → commuted c.table a b ≡ Ok x
    → IsOnly c (λ y. values c.table (values c.table b a) y ≡ values c.table a b) x

abbrev pub ConjugatedByValues : Paired → Type 0
ConjugatedByValues c = (a b x : List ℤ) → IsIn c a → IsIn c b → conjugated c.table a b ≡ Ok x
    → IsOnly c (λ y. values c.table b y ≡ values c.table a b) x
