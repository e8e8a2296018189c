use Rattle.std.proofs.Common.{◌≡◌, suc, ◌-◌, ◌++◌, length, map}
use Rattle.nil_word.specs.Exponents.{numbers}
use Rattle.overlap_test.specs.Ways.{image, images}
use Rattle.overlap_test.proofs.images.images.Given as goal

-- the images so far, and those that are left
abbrev pub invariant-loop-l : goal.invariant-loop-l
invariant-loop-l l =
    l.images.items ++ map (image l.pres l.i) (numbers l.l (suc (length l.pres.names) - l.l))
    ≡ images l.pres l.i
