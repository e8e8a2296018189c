use Rattle.std.proofs.Common.{◌≡◌, take}
use Rattle.hall_table.specs.Tail.{from_level}
use Rattle.hall_table.proofs.tailing.from_level.Given as goal

abbrev pub invariant-loop-term : goal.invariant-loop-term
invariant-loop-term l = l.kept.items ≡ from_level l.level (take l.term-index l.term-items)
