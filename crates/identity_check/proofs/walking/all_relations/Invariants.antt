use Rattle.std.proofs.Common.{◌-◌}
use Rattle.std.specs.List.{flat_map}
use Rattle.nil_word.specs.Exponents.{numbers}
use Rattle.nil_pres.specs.Relations.{relations_of}
use Rattle.hall_table.specs.Tabled.{last_of}
use Rattle.hall_table.specs.Width.{HasRows}
use Rattle.identity_check.specs.Sides.{xs}
use Rattle.identity_check.specs.Events.{relation_events}
use Rattle.identity_check.specs.Pairs.{AreZero}
use Rattle.identity_check.proofs.Halting.{NoneOf}
use Rattle.identity_check.proofs.walking.all_relations.Given as goal

abbrev pub invariant-loop-j : goal.invariant-loop-j
invariant-loop-j l = record {
  rows : HasRows l.table l.rows;
  zeros : AreZero l.rows;
  walked : NoneOf (relations_of l.pres) l.table
      (flat_map (relation_events (xs l.table) (last_of l.table))
      (numbers l.table.level (l.j - l.table.level)));
}
