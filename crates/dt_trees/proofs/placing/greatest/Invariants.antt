use Rattle.std.proofs.Common.{◌≡◌, take}
use Rattle.dt_letters.specs.Letters.{group_of}
use Rattle.dt_letters.specs.Least.{greatest}
use Rattle.dt_letters.specs.Arena.{letter_in}
use Rattle.dt_trees.specs.Ways.{stack_in}
use Rattle.dt_trees.proofs.placing.greatest.Given as goal

abbrev pub invariant-loop-tree : goal.invariant-loop-tree
invariant-loop-tree l =
    l.most
    ≡ greatest (group_of (letter_in l.letters l.member)) (stack_in l.letters (take l.tree-index l.stack))
