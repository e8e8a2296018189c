-- The rows are sorted, and their trees are taken.
use Rattle.std.proofs.Common.{map, rules, ◌∙◌, ap, arith}
use Rattle.std.specs.Ordering.{is_lt}
use Rattle.std.specs.List.Sorted.{IsPermutation}
use Rattle.std.proofs.lemmas.List.Sorted.{ranks_by, answers_always}
use Rattle.dt_letters.specs.declared.letters.listing.Row.{Row}
use Rattle.dt_letters.specs.Arena.{letter_in}
use Rattle.dt_letters.specs.Text.{AreListed}
use Rattle.dt_letters.proofs.Listings.{tree_of, row_order, row_order_total, listed}
use Rattle.dt_letters.proofs.letters.Letters.sorted.Goals as goal

abbrev row_by : Row → Row
row_by r = r

pub returns-clause-permutation : goal.returns-clause-permutation
returns-clause-permutation c =
    let both : IsPermutation c.args.trees.now c.in_ok-sorted.sorted.items
    × AreListed (map (letter_in c.args.self.now) c.in_ok-sorted.sorted.items) =
    listed (letter_in c.args.self.now) c.args.trees.now c.in_ok-sorted.sorted.items
    c.loop-tree.tree-index c.loop-tree.rows.items c.sort_unstable_by.new.self.items
    c.loop-tree.invariant.trees (omega arith) c.loop-tree.invariant.good
    c.sort_unstable_by.ensures.permutation
    (c.sort_unstable_by.ensures.sorted (λ x y. is_lt (row_order x y))
    (ranks_by row_order_total row_by) (answers_always _ _ _ (λ f a r g called. search rules)))
    (c.in_ok-sorted.ensures ∙ ap (map tree_of) c.deref.ensures.value) in
    both.0

pub returns-clause-sorted : goal.returns-clause-sorted
returns-clause-sorted c =
    let both : IsPermutation c.args.trees.now c.in_ok-sorted.sorted.items
    × AreListed (map (letter_in c.args.self.now) c.in_ok-sorted.sorted.items) =
    listed (letter_in c.args.self.now) c.args.trees.now c.in_ok-sorted.sorted.items
    c.loop-tree.tree-index c.loop-tree.rows.items c.sort_unstable_by.new.self.items
    c.loop-tree.invariant.trees (omega arith) c.loop-tree.invariant.good
    c.sort_unstable_by.ensures.permutation
    (c.sort_unstable_by.ensures.sorted (λ x y. is_lt (row_order x y))
    (ranks_by row_order_total row_by) (answers_always _ _ _ (λ f a r g called. search rules)))
    (c.in_ok-sorted.ensures ∙ ap (map tree_of) c.deref.ensures.value) in
    both.1
