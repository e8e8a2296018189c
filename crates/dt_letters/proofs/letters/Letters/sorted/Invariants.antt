use Rattle.std.proofs.Common.{◌≡◌, map, take}
use Rattle.std.specs.Prelude.{All}
use Rattle.dt_letters.specs.Arena.{letter_in}
use Rattle.dt_letters.proofs.Listings.{IsRow, tree_of}
use Rattle.dt_letters.proofs.letters.Letters.sorted.Given as goal

abbrev pub invariant-loop-tree : goal.invariant-loop-tree
invariant-loop-tree l = record {
  trees : map tree_of l.rows.items ≡ take l.tree-index l.trees;
  good : All (IsRow (letter_in l.self)) l.rows.items;
}
