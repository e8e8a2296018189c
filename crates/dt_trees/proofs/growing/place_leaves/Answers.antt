-- The two sides, one after the other.
use Rattle.std.proofs.Common.{◌^◌, pos, arith}
use Rattle.dt_letters.specs.declared.side.Side.TheVariants as side
use Rattle.dt_letters.specs.Letters.{leaves}
use Rattle.dt_letters.specs.Listing.{places}
use Rattle.dt_trees.specs.Ways.{stack_in, leaf_ways, Gains}
use Rattle.dt_trees.proofs.Stacks.{small-kept}
use Rattle.dt_trees.proofs.Gaining.{on_ok}
use Rattle.dt_trees.proofs.Joining.{gains-leaves}
use Rattle.dt_trees.proofs.growing.place_leaves.Goals as goal

pub place_leaf-requires-2-clause-small : goal.place_leaf-requires-2-clause-small
place_leaf-requires-2-clause-small c =
    small-kept (2 ^ 63) c.args.letters.now c.place_leaf.new.letters c.place_leaf.ensures.kept
    c.args.stack.now c.requires.trees c.requires.small

pub returns-clause-gains : goal.returns-clause-gains
returns-clause-gains c =
    let a = c.args.letters.now in
    let b = c.place_leaf.new.letters in
    let d = c.place_leaf-2.new.letters in
    on_ok c.place_leaf-2.result
    (Gains b c.place_leaf.new.ways.items d c.place_leaf-2.new.ways.items
    (places (leaves side.Y c.args.k) (pos 0) (stack_in b c.args.stack.now)))
    (Gains a c.args.ways.now.items d c.place_leaf-2.new.ways.items
    (leaf_ways c.args.level (stack_in a c.args.stack.now) c.args.k))
    (gains-leaves a b d c.args.ways.now.items c.place_leaf.new.ways.items c.place_leaf-2.new.ways.items
    c.place_leaf.ensures.kept c.args.level c.args.k c.args.stack.now c.requires.trees (omega (arith, c.requires.least))
    c.in_ok-place_leaf.ensures.gains)
    c.place_leaf-2.ensures.gains
