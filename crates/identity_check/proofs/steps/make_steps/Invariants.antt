use Rattle.std.proofs.Common.{◌≡◌, ◌-◌, map}
use Rattle.nil_word.specs.Congruence.{Relations}
use Rattle.nil_word.specs.Exponents.{numbers}
use Rattle.binom_poly.specs.Variable.{y_of}
use Rattle.poly_subst.specs.Walk.{by_number, in_y}
use Rattle.identity_check.specs.Sides.{step}
use Rattle.identity_check.specs.Signs.{number_of, step_id}
use Rattle.identity_check.specs.Events.{at_each}
use Rattle.identity_check.specs.Events.Event.{makes}
use Rattle.identity_check.proofs.Halting.{NoneOf}
use Rattle.identity_check.proofs.steps.make_steps.Given as goal

abbrev pub invariant-loop-k : goal.invariant-loop-k
invariant-loop-k l = record {
  polys : l.polys.items ≡ map (step l.table l.j (number_of l.up)) (numbers l.table.level (l.k - l.table.level));
  list : l.list.items ≡ in_y l.table.level (l.k - l.table.level) (step l.table l.j (number_of l.up));
  number : l.number ≡ by_number (y_of l.j) (number_of l.up);
  walked : (rels : Relations) → NoneOf rels l.table
      (at_each (numbers l.table.level (l.k - l.table.level)) (λ k. makes (step_id l.up l.j k)));
}
