use Rattle.std.proofs.Common.{map}
use Rattle.dt_letters.specs.Letters.{group_of}
use Rattle.dt_letters.specs.Listing.{again, upto}
use Rattle.dt_letters.specs.Arena.{IsExtended, letter_in}
use Rattle.dt_trees.specs.Ways.{stack_in, Gains}
use Rattle.dt_trees.proofs.placing.put_all_again.Given as goal

abbrev pub invariant-loop-below : goal.invariant-loop-below
invariant-loop-below l = record {
  kept : IsExtended l.fn.letters l.letters;
  gains : Gains l.fn.letters l.fn.ways.items l.letters l.ways.items
      (map (again (group_of (letter_in l.fn.letters l.member)) (stack_in l.fn.letters l.stack)) (upto l.below));
}
