use Rattle.std.proofs.Common.{map, take}
use Rattle.dt_letters.specs.Letters.{group_of, number_of}
use Rattle.dt_letters.specs.Growth.{raised}
use Rattle.dt_letters.specs.Arena.{IsExtended, letter_in}
use Rattle.dt_trees.specs.Ways.{stack_in, IsStackFor}
use Rattle.dt_trees.proofs.placing.raise_all.Given as goal

abbrev pub invariant-loop-tree : goal.invariant-loop-tree
invariant-loop-tree l = record {
  kept : IsExtended l.fn.letters l.letters;
  list : IsStackFor l.letters l.list.items
      (map (raised (group_of (letter_in l.fn.letters l.member)) (number_of (letter_in l.fn.letters l.member)))
      (stack_in l.fn.letters (take l.tree-index l.stack)));
}
