use Rattle.std.proofs.Common.{◌-◌}
use Rattle.nil_word.specs.Congruence.{Relations}
use Rattle.nil_word.specs.Exponents.{numbers}
use Rattle.identity_check.specs.declared.identity.Identity.TheVariants.{UnitRight}
use Rattle.identity_check.specs.Events.{at_each}
use Rattle.identity_check.specs.Events.Event.{tries}
use Rattle.identity_check.proofs.Halting.{NoneOf}
use Rattle.identity_check.proofs.units.units_right.Given as goal

abbrev pub invariant-loop-k : goal.invariant-loop-k
invariant-loop-k l = (rels : Relations)
    → NoneOf rels l.table (at_each (numbers l.table.level (l.k - l.table.level)) (λ k. tries (UnitRight k)))
