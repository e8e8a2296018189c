-- Whether the overlaps of a level agree, by a checked table of the level above.
--   IsPowerOf c Q            Q gives the powers of the vectors of the table's level
--   HaveEqualWays c i        both ways of each overlap of level i give one vector, as integers
--                            without bound, whatever makes the powers
-- c a presentation with its table · i level, the one below that of the table · Q powers
use Rattle.std.specs.Prelude.{ℕ, length}
use Rattle.nil_pres.specs.Relations.{relations_of, between}
use Rattle.hall_law.specs.Plan.{Powers, IsPower, DoAgree}
use Rattle.hall_table.specs.Multiplies.{Paired}
use Rattle.hall_table.specs.Values.{values}

abbrev pub IsPowerOf : Paired → Powers → Type 0
IsPowerOf c Q = IsPower (length c.pres.names) c.table.level (values c.table) Q

abbrev pub HaveEqualWays : Paired → ℕ → Type 0
HaveEqualWays c i = (Q : Powers) → IsPowerOf c Q
    → DoAgree (relations_of c.pres) (between c.pres) i (values c.table) Q
