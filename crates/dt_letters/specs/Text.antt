-- The text of a letter, and the order of trees in lists.
--   side_text s        the letter that stands for a side
--   text_of a          a leaf is written x2.1: side, type, dot, number; a node (LEFT,RIGHT;K.L)
--   listed_order a b   by the number of leaves, then by the bytes of the text
--   AreListed ts       no letter comes after the next one by that order
-- a b letters · l r left and right letters · s side · k type · i number · ts letters
use Rattle.std.specs.Prelude.{ℕ, List, ◌++◌, codes}
use Rattle.std.specs.declared.cmp.Ordering.{Ordering}
use Rattle.std.specs.Ordering.{is_lt, nat_cmp, ordering_then}
use Rattle.std.specs.Cmp.Lexicographic.{slice_cmp}
use Rattle.std.specs.List.Sorted.{IsSortedBy}
use Rattle.std.specs.Fmt.{decimal}
use Rattle.dt_letters.specs.declared.side.Side.{Side}
use Rattle.dt_letters.specs.declared.side.Side.TheVariants as side
use Rattle.dt_letters.specs.Letters.{Letter, leaf, node, leaf_count}

abbrev pub side_text : Side → List ℕ
side_text side.X = codes "x"
side_text side.Y = codes "y"

abbrev pub text_of : Letter → List ℕ
text_of (leaf s k i) = side_text s ++ decimal k ++ codes "." ++ decimal i
text_of (node l r k i) =
    codes "(" ++ text_of l ++ codes "," ++ text_of r ++ codes ";" ++ decimal k ++ codes "."
    ++ decimal i ++ codes ")"

abbrev pub listed_order : Letter → Letter → Ordering
listed_order a b =
    ordering_then (nat_cmp (leaf_count a) (leaf_count b)) (slice_cmp nat_cmp (text_of a) (text_of b))

abbrev pub AreListed : List Letter → Type 0
AreListed ts = IsSortedBy (λ a b. is_lt (listed_order a b)) ts
