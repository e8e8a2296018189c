use Rattle.std.proofs.Common.{◌≡◌, ◌-◌, map}
use Rattle.nil_word.specs.Congruence.{Relations}
use Rattle.nil_word.specs.Exponents.{numbers}
use Rattle.poly_subst.specs.Walk.{in_x, in_y}
use Rattle.hall_table.specs.Tabled.{poly_at}
use Rattle.hall_table.specs.Order.{generators}
use Rattle.identity_check.specs.Sides.{xs, step}
use Rattle.identity_check.specs.Signs.{number_of, step_id}
use Rattle.identity_check.specs.Events.{at_each}
use Rattle.identity_check.specs.Events.Event.{tries}
use Rattle.identity_check.proofs.Halting.{NoneOf}
use Rattle.identity_check.proofs.steps.steps.Given as goal

abbrev pub invariant-loop-k : goal.invariant-loop-k
invariant-loop-k l = record {
  kept : l.put ≡ in_x l.table.level (generators l.table) (poly_at l.table);
  polys : l.made.polys.items ≡ map (step l.table l.j (number_of l.up)) (xs l.table);
  in_y : l.made.in_y ≡ in_y l.table.level (generators l.table) (step l.table l.j (number_of l.up));
  walked : (rels : Relations) → NoneOf rels l.table
      (at_each (numbers l.table.level (l.k - l.table.level)) (λ k. tries (step_id l.up l.j k)));
}
