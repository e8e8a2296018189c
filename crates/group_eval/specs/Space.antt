-- What contracts see of a workspace.
--   Space              how many generators its vectors have, and its rows
--   IsSpaceOf s c      it serves the table of c: as many generators, and the rows that it needs
--   HaveEntries n vs   each of the vectors has n entries
--   AreOf c vs         each has an entry for each generator of c
-- s workspace · c a presentation with its table · vs vectors
use Rattle.std.specs.Prelude.{◌≡◌, ℕ, ℤ, List, [], ◌∷◌, length}
use Rattle.binom_poly.specs.Reading.{Reading}
use Rattle.hall_table.specs.Multiplies.{Paired}
use Rattle.hall_table.specs.Width.{HasRows}

pub record Space : Type 0 where
  pub count : ℕ
  pub rows : List Reading

pub record IsSpaceOf (s : Space) (c : Paired) : Type 0 where
  pub count : s.count ≡ length c.pres.names
  pub rows : HasRows c.table s.rows

abbrev pub HaveEntries : ℕ → List (List ℤ) → Type 0
HaveEntries n [] = Unit {0}
HaveEntries n (v ∷ vs) = (length v ≡ n) × HaveEntries n vs

abbrev pub AreOf : Paired → List (List ℤ) → Type 0
AreOf c vs = HaveEntries (length c.pres.names) vs
