-- The order of letters, computed.
--   Meeting, meet a b        how the chains of a and b meet: they are the same, one is inside the
--                            other or around it, or at the first difference one comes first
--   turned                   the same, with a and b exchanged
--   ranked, by_pair, by_rights, by_lefts, below_it, above_it, meet_leaf, meet_node   its cases
--   is_same, is_before       what a meeting says
--   before, earlier          IsBefore and IsEarlier as tests
--   same_letter, same_group  equality as tests
--   TestsOrder               the tests decide the relations, and the order is total
--   order_of, by_orders, siblings_order   the order of before as an answer: less, equal, greater
--   leaf_rank a              the place of the side of a leaf, and 0 for a node
-- a b c d letters · l r left and right letters · k m types · i j numbers · o answer
use Rattle.std.specs.Prelude.{◌≡◌, ◌↔◌, ℕ, ◌⊎◌, Bool, true, false, ◌==◌, ◌&&◌, nat_lt, if◌then◌else◌}
use Rattle.std.specs.Ordering.{ordering_then, nat_cmp}
use Rattle.std.specs.declared.cmp.Ordering.{Ordering}
use Rattle.std.specs.declared.cmp.Ordering.TheVariants.{Less, Equal, Greater}
use Rattle.dt_letters.specs.declared.side.Side.{Side}
use Rattle.dt_letters.specs.Letters.{Letter, leaf, node, kind_of, number_of, right_of, Group, leaves, nodes}
use Rattle.dt_letters.specs.Order.{rank_of, IsBefore, IsEarlier}

pub data Meeting : Type 0 where
  same : Meeting
  inside : Meeting
  around : Meeting
  first : Meeting
  second : Meeting

abbrev pub turned : Meeting → Meeting
turned same = same
turned inside = around
turned around = inside
turned first = second
turned second = first

abbrev pub ranked : ℕ → ℕ → Meeting → Meeting
ranked m n next = if nat_lt m n then first else (if nat_lt n m then second else next)

abbrev pub by_pair : ℕ → ℕ → ℕ → ℕ → Meeting
by_pair k i m j = ranked k m (ranked i j same)

-- nodes on one left letter, by how their right letters meet: the one whose right letter is
-- collected later is first
abbrev pub by_rights : ℕ → ℕ → Meeting → Meeting → Meeting
by_rights c d same next = next
by_rights c d inside next = ranked d c second
by_rights c d first next = ranked d c second
by_rights c d around next = ranked d c first
by_rights c d second next = ranked d c first

abbrev pub below_it : Meeting → Meeting
below_it same = inside
below_it inside = inside
below_it around = around
below_it first = first
below_it second = second

abbrev pub above_it : Meeting → Meeting
above_it same = around
above_it inside = inside
above_it around = around
above_it first = first
above_it second = second

-- how two nodes meet: by their left letters, the first node and the second left letter,
-- the first left letter and the second node, and as nodes on one left letter
abbrev pub by_lefts : Meeting → Meeting → Meeting → Meeting → Meeting
by_lefts same down up siblings = siblings
by_lefts inside down up siblings = below_it down
by_lefts around down up siblings = above_it up
by_lefts first down up siblings = first
by_lefts second down up siblings = second

abbrev pub meet_leaf : Side → ℕ → ℕ → Letter → Meeting
meet_leaf s k i (leaf t m j) = ranked (rank_of s) (rank_of t) (by_pair k i m j)
meet_leaf s k i (node l r m j) = below_it (meet_leaf s k i l)

abbrev pub meet_node : (Letter → Meeting) → (Letter → Meeting) → ℕ → ℕ → ℕ → Letter → Meeting
meet_node left right c k i (leaf t m j) = above_it (left (leaf t m j))
meet_node left right c k i (node l r m j) =
    by_lefts (left l) (meet_node left right c k i l) (left (node l r m j))
    (by_rights c (kind_of r) (right r) (by_pair k i m j))

abbrev pub meet : Letter → Letter → Meeting
meet (leaf s k i) b = meet_leaf s k i b
meet (node l r k i) b = meet_node (meet l) (meet r) (kind_of r) k i b

abbrev pub is_same : Meeting → Bool
is_same same = true
is_same inside = false
is_same around = false
is_same first = false
is_same second = false

abbrev pub is_before : Meeting → Bool
is_before same = false
is_before inside = true
is_before around = false
is_before first = true
is_before second = false

abbrev pub before : Letter → Letter → Bool
before a b = is_before (meet a b)

abbrev pub earlier : Letter → Letter → Bool
earlier a b =
    if nat_lt (kind_of a) (kind_of b) then true
    else (if nat_lt (kind_of b) (kind_of a) then false else before a b)

abbrev pub same_letter : Letter → Letter → Bool
same_letter a b = is_same (meet a b)

abbrev pub same_group : Group → Group → Bool
same_group (leaves s k) (leaves t m) = (rank_of s == rank_of t) && (k == m)
same_group (leaves s k) (nodes c d m) = false
same_group (nodes l r k) (leaves t m) = false
same_group (nodes l r k) (nodes c d m) = same_letter l c && (same_letter r d && (k == m))

abbrev pub TestsOrder : Type 0
TestsOrder =
    (a b : Letter)
    → ((before a b ≡ true) ↔ IsBefore a b) × ((earlier a b ≡ true) ↔ IsEarlier a b)
    × ((same_letter a b ≡ true) ↔ (a ≡ b))
    × (IsBefore a b ⊎ ((a ≡ b) ⊎ IsBefore b a)) × (IsBefore a b → IsBefore b a → ⊥)

abbrev pub order_of : Meeting → Ordering
order_of same = Equal
order_of inside = Less
order_of first = Less
order_of around = Greater
order_of second = Greater

-- nodes on one left letter by how their right letters compare
abbrev pub by_orders : ℕ → ℕ → Ordering → Ordering → Ordering
by_orders c d Equal next = next
by_orders c d Less next = ordering_then (nat_cmp d c) Greater
by_orders c d Greater next = ordering_then (nat_cmp d c) Less

abbrev pub siblings_order : Letter → Letter → Ordering → Ordering
siblings_order a b o =
    by_orders (kind_of (right_of a)) (kind_of (right_of b)) o
    (ordering_then (nat_cmp (kind_of a) (kind_of b)) (nat_cmp (number_of a) (number_of b)))

abbrev pub leaf_rank : Letter → ℕ
leaf_rank (leaf s k i) = rank_of s
leaf_rank (node l r k i) = 0
