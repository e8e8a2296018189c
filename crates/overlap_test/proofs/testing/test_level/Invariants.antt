use Rattle.std.proofs.Common.{◌≡◌, suc, ◌-◌, length, map, flat_map}
use Rattle.nil_word.specs.Exponents.{numbers}
use Rattle.overlap_test.specs.Room.{IsRoomOf}
use Rattle.overlap_test.specs.Verdict.{first_event, row, tried, verdict}
use Rattle.overlap_test.proofs.testing.test_level.Given as goal

-- what the overlaps say is what the rows that are left say
abbrev pub invariant-loop-j : goal.invariant-loop-j
invariant-loop-j l = record {
  room : IsRoomOf l.ways l.above l.i;
  left : verdict l.above l.i
      ≡ first_event (map (tried l.above l.i) (flat_map (row (length l.above.pres.names))
      (numbers l.j (suc (length l.above.pres.names) - l.j))));
}
