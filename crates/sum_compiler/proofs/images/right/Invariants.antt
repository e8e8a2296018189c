use Rattle.std.proofs.Common.{map}
use Rattle.nil_pres.specs.Relations.{factors_of}
use Rattle.sum_compiler.specs.declared.sum_step.SumStep.TheVariants as step
use Rattle.sum_compiler.specs.Powers.{powers}
use Rattle.sum_compiler.specs.Images.{families, right_power}
use Rattle.sum_compiler.proofs.JoinedSoFar.{JoinedSoFar}
use Rattle.sum_compiler.proofs.images.right.Given as goal

abbrev pub invariant-loop-syllable : goal.invariant-loop-syllable
invariant-loop-syllable l =
    JoinedSoFar step.Image l.table (powers l.table) l.initial.product.items
    (map (right_power (families l.images) l.table l.j) (factors_of l.rest)) l.syllable-index
    l.product.items
