use Rattle.std.proofs.Common.{◌≡◌, ◌-◌}
use Rattle.std.specs.List.{flat_map}
use Rattle.nil_word.specs.Congruence.{Relations}
use Rattle.nil_word.specs.Exponents.{numbers}
use Rattle.poly_subst.specs.Walk.{in_x}
use Rattle.hall_table.specs.Tabled.{poly_at}
use Rattle.hall_table.specs.Order.{generators}
use Rattle.identity_check.specs.Sides.{xs}
use Rattle.identity_check.specs.Events.{step_events}
use Rattle.identity_check.proofs.Halting.{NoneOf}
use Rattle.identity_check.proofs.walking.all_steps.Given as goal

abbrev pub invariant-loop-j : goal.invariant-loop-j
invariant-loop-j l = record {
  kept : l.put ≡ in_x l.table.level (generators l.table) (poly_at l.table);
  walked : (rels : Relations) → NoneOf rels l.table
      (flat_map (step_events (xs l.table)) (numbers l.table.level (l.j - l.table.level)));
}
