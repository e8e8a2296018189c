use Rattle.std.proofs.Common.{◌-◌}
use Rattle.std.specs.List.{flat_map}
use Rattle.nil_word.specs.Congruence.{Relations}
use Rattle.nil_word.specs.Exponents.{numbers}
use Rattle.identity_check.specs.Sides.{xs}
use Rattle.identity_check.specs.Events.{last_events}
use Rattle.identity_check.proofs.Halting.{NoneOf}
use Rattle.identity_check.proofs.walking.all_last.Given as goal

abbrev pub invariant-loop-j : goal.invariant-loop-j
invariant-loop-j l = (rels : Relations)
    → NoneOf rels l.table (flat_map (last_events (xs l.table)) (numbers l.table.level (l.j - l.table.level)))
