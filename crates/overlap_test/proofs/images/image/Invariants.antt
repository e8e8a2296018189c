use Rattle.std.proofs.Common.{◌≡◌, length, drop}
use Rattle.overlap_test.specs.Ways.{image}
use Rattle.overlap_test.proofs.Imaging.{with_syllables}
use Rattle.overlap_test.proofs.images.image.Given as goal

-- the syllables that are left make the image of what there is
abbrev pub invariant-loop-syllable : goal.invariant-loop-syllable
invariant-loop-syllable l = record {
  size : length l.image ≡ length l.pres.names;
  made : with_syllables (drop l.syllable-index l.syllable-items) l.image ≡ image l.pres l.i l.l;
}
