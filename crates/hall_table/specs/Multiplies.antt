-- A presentation with a table of it.
--   Paired          what contracts see: the presentation and the table
--   IsChecked c     the table's values are a multiplication table of the presentation at its level
--   OfChecked P     P holds of the presentation, level and values of each checked table
-- c a presentation with its table
use Rattle.std.specs.Prelude.{◌≡◌, ℕ, length}
use Rattle.nil_word.specs.Congruence.{Relations}
use Rattle.hall_law.specs.Table.{Operation, IsTable}
use Rattle.nil_pres.specs.Presented.{Presented, IsPresented}
use Rattle.nil_pres.specs.Relations.{relations_of}
use Rattle.hall_table.specs.Tabled.{Tabled, last_of}
use Rattle.hall_table.specs.Values.{values}

pub record Paired : Type 0 where
  pub pres : Presented
  pub table : Tabled

pub record IsChecked (c : Paired) : Type 0 where
  pub last : last_of c.table ≡ length c.pres.names
  pub multiplies : IsTable (relations_of c.pres) c.table.level (values c.table)

abbrev pub OfChecked : (Relations → ℕ → Operation → Type 0) → Type 0
OfChecked P = (c : Paired) → IsPresented c.pres → IsChecked c
    → P (relations_of c.pres) c.table.level (values c.table)
