use Rattle.std.proofs.Common.{◌≡◌, suc, ◌-◌, length, map}
use Rattle.nil_word.specs.Exponents.{numbers}
use Rattle.overlap_test.specs.Room.{IsRoomOf}
use Rattle.overlap_test.specs.Verdict.{first_event, row, tried}
use Rattle.overlap_test.proofs.testing.try_row.Given as goal

-- what the row says is what the overlaps that are left say
abbrev pub invariant-loop-k : goal.invariant-loop-k
invariant-loop-k l = record {
  room : IsRoomOf l.ways l.above l.i;
  left : first_event (map (tried l.above l.i) (row (length l.above.pres.names) l.j))
      ≡ first_event (map (tried l.above l.i)
      (map (λ k. (l.j, k)) (numbers l.k (suc (length l.above.pres.names) - l.k))));
}
