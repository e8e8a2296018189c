use Rattle.std.proofs.Common.{◌≡◌, drop}
use Rattle.nil_pres.specs.Relations.{factors_of}
use Rattle.overlap_test.specs.Room.{IsRoomOf}
use Rattle.overlap_test.specs.Ways.{image, collected_written, first_written}
use Rattle.overlap_test.proofs.ways.Ways.write_first.Given as goal

-- the syllables that are left make the first way of what there is
abbrev pub invariant-loop-syllable : goal.invariant-loop-syllable
invariant-loop-syllable l = record {
  room : IsRoomOf l.self l.above l.i;
  made : collected_written l.above.table (image l.above.pres l.i)
      (factors_of (drop l.syllable-index l.syllable-items)) l.self.first
      ≡ first_written l.above l.i l.j l.k;
}
