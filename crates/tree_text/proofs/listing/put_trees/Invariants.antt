use Rattle.std.proofs.Common.{◌≡◌, ◌++◌, map, string_bytes, drop}
use Rattle.session_io.specs.Lines.{as_lines}
use Rattle.dt_letters.specs.Arena.{letter_in}
use Rattle.tree_text.specs.Lines.{tree_lines}
use Rattle.tree_text.proofs.listing.put_trees.Given as goal

abbrev pub invariant-trees : goal.invariant-trees
invariant-trees l =
    string_bytes l.text
    ++ as_lines (tree_lines (map (letter_in l.letters) (drop l.tree-index l.trees)))
    ≡ string_bytes l.initial.text ++ as_lines (tree_lines (map (letter_in l.letters) l.trees))
