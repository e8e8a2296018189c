use Rattle.std.proofs.Common.{◌≡◌, ◌-◌}
use Rattle.nil_word.specs.Congruence.{Relations}
use Rattle.nil_word.specs.Exponents.{numbers}
use Rattle.binom_poly.specs.Variable.{y_of}
use Rattle.poly_subst.specs.Walk.{by_number}
use Rattle.identity_check.specs.Signs.{last_id, number_of}
use Rattle.identity_check.specs.Events.{at_each}
use Rattle.identity_check.specs.Events.Event.{tries}
use Rattle.identity_check.proofs.Halting.{NoneOf}
use Rattle.identity_check.proofs.last_letters.last_letters.Given as goal

abbrev pub invariant-loop-k : goal.invariant-loop-k
invariant-loop-k l = record {
  put : l.put ≡ by_number (y_of l.j) (number_of l.up);
  walked : (rels : Relations) → NoneOf rels l.table
      (at_each (numbers l.table.level (l.k - l.table.level)) (λ k. tries (last_id l.up l.j k)));
}
