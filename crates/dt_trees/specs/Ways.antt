-- Ways in which a stack of trees grows, over an arena.
--   stack_in a ts           the letters of a stack, its last tree first
--   grown_in a w            what the stack is after it grew, and the tree
--   IsStackFor a ts xs      the trees of a stack are of the arena, and xs are its letters
--   IsWay a w               the trees of w are of the arena
--   AreWays a ws gs         so are those of ws, and ws are the ways gs
--   Gains a ws b vs more    where ws were some ways over a, vs are over b these and more
--   FitsFor k w             numbers in w are small enough to grow by a tree of type k
--   IsSmall w               numbers in the list of w are small enough for one more
--   leaf_ways level ts k    the ways to grow by a leaf
--   rights_of e level q k c left   the ways to grow by a right letter of type q after a left one,
--                           and to join both to a letter of type k
--   pair_ways e level ts k p q   the ways to grow by a node on letters of types p and q
-- a b arenas · ts trees · xs letters · w way · ws vs ways · g way of letters · e exponents · k p q types
use Rattle.std.specs.Prelude.{◌≡◌, ℕ, ◌^◌, ◌-◌, nat_le, All, List, [], ◌∷◌, ◌++◌, map, reverse, ℤ, pos, if◌then◌else◌}
use Rattle.dt_letters.specs.declared.side.Side.TheVariants as side
use Rattle.dt_letters.specs.declared.tree.Tree.{Tree}
use Rattle.dt_letters.specs.Letters.{Letter, leaves}
use Rattle.dt_letters.specs.Allowed.{Exponents}
use Rattle.dt_letters.specs.Growth.{AreBelow, most_steps}
use Rattle.dt_letters.specs.Listing.{Grew, each, grown, is_zero, joined, places}
use Rattle.dt_letters.specs.Arena.{Arena, letter_in, IsTreeOf}
use Rattle.dt_trees.specs.declared.grown.Grown.{Grown}

abbrev pub stack_in : Arena → List Tree → List Letter
stack_in a ts = reverse (map (letter_in a) ts)

abbrev pub grown_in : Arena → Grown → Grew
grown_in a w = record { list = stack_in a w.list.items; tree = letter_in a w.tree }

pub record IsStackFor (a : Arena) (ts : List Tree) (xs : List Letter) : Type 0 where
  pub trees : All (IsTreeOf a) ts
  pub letters : stack_in a ts ≡ xs

pub record IsWay (a : Arena) (w : Grown) : Type 0 where
  pub list : All (IsTreeOf a) w.list.items
  pub tree : IsTreeOf a w.tree

pub record AreWays (a : Arena) (ws : List Grown) (gs : List Grew) : Type 0 where
  pub ways : All (IsWay a) ws
  pub are : map (grown_in a) ws ≡ gs

pub record Gains (a : Arena) (ws : List Grown) (b : Arena) (vs : List Grown)
    (more : List Grew) : Type 0 where
  pub ways : (gs : List Grew) → AreWays a ws gs → AreWays b vs (gs ++ more)

abbrev pub FitsFor : ℕ → Grew → Type 0
FitsFor k w = AreBelow (2 ^ 63 - most_steps k) (w.tree ∷ w.list)

abbrev pub IsSmall : Grew → Type 0
IsSmall w = AreBelow (2 ^ 63) w.list

abbrev pub leaf_ways : ℕ → List Letter → ℕ → List Grew
leaf_ways level ts k =
    if nat_le level k
    then places (leaves side.X k) (pos 0) ts ++ places (leaves side.Y k) (pos 0) ts
    else []

abbrev pub rights_of : Exponents → ℕ → ℕ → ℕ → ℤ → Grew → List Grew
rights_of e level q k c left =
    each (λ right. joined e k c right.tree right.list)
    (grown e level q (left.tree ∷ left.list) q)

abbrev pub pair_ways : Exponents → ℕ → List Letter → ℕ → ℕ → ℕ → List Grew
pair_ways e level ts k p q =
    if is_zero (e q p k) then []
    else each (rights_of e level q k (e q p k)) (grown e level p ts p)
