use Rattle.std.proofs.Common.{◌-◌}
use Rattle.nil_pres.specs.Relations.{relations_of}
use Rattle.nil_word.specs.Exponents.{numbers}
use Rattle.identity_check.specs.declared.identity.Identity.TheVariants.{Relation}
use Rattle.hall_table.specs.Width.{HasRows}
use Rattle.identity_check.specs.Events.{at_each}
use Rattle.identity_check.specs.Events.Event.{tries}
use Rattle.identity_check.specs.Pairs.{PutPair, AreZeroBut}
use Rattle.identity_check.proofs.Halting.{NoneOf}
use Rattle.identity_check.proofs.pairs.relations.Given as goal

abbrev pub invariant-loop-k : goal.invariant-loop-k
invariant-loop-k l = record {
  rows : HasRows l.table l.rows;
  put : PutPair l.table l.rows l.j l.l;
  others : AreZeroBut l.rows l.j l.l;
  walked : NoneOf (relations_of l.pres) l.table
      (at_each (numbers l.table.level (l.k - l.table.level)) (λ k. tries (Relation l.j l.l k)));
}
