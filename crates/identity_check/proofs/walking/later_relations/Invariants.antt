use Rattle.std.proofs.Common.{suc, ◌-◌}
use Rattle.std.specs.List.{flat_map}
use Rattle.nil_word.specs.Exponents.{numbers}
use Rattle.nil_pres.specs.Relations.{relations_of}
use Rattle.identity_check.specs.declared.identity.Identity.TheVariants.{Relation}
use Rattle.identity_check.specs.Sides.{xs}
use Rattle.hall_table.specs.Width.{HasRows}
use Rattle.identity_check.specs.Events.{at_each}
use Rattle.identity_check.specs.Events.Event.{tries}
use Rattle.identity_check.specs.Pairs.{AreZero}
use Rattle.identity_check.proofs.Halting.{NoneOf}
use Rattle.identity_check.proofs.walking.later_relations.Given as goal

abbrev pub invariant-loop-l : goal.invariant-loop-l
invariant-loop-l l = record {
  rows : HasRows l.table l.rows;
  zeros : AreZero l.rows;
  walked : NoneOf (relations_of l.pres) l.table
      (flat_map (λ m. at_each (xs l.table) (λ k. tries (Relation l.j m k)))
      (numbers (suc l.j) (l.l - (suc l.j))));
}
