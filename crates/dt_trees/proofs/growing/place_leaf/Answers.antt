-- The leaf with the number 1 is a member of its group.
use Rattle.std.proofs.Common.{◌^◌, pos}
use Rattle.dt_letters.specs.Letters.{leaves, group_of}
use Rattle.dt_letters.specs.Listing.{places}
use Rattle.dt_letters.specs.Arena.{letter_in}
use Rattle.dt_letters.proofs.Different.{extended-trans}
use Rattle.dt_trees.specs.Ways.{stack_in, Gains}
use Rattle.dt_trees.proofs.Stacks.{small-kept}
use Rattle.dt_trees.proofs.Gaining.{on_ok}
use Rattle.dt_trees.proofs.Joining.{gains-leaf}
use Rattle.dt_trees.proofs.growing.place_leaf.Goals as goal

pub place-requires-clause-small : goal.place-requires-clause-small
place-requires-clause-small c =
    small-kept (2 ^ 63) c.args.letters.now c.leaf.new.self c.leaf.ensures.kept c.args.stack.now
    c.requires.trees c.requires.small

pub returns-clause-kept : goal.returns-clause-kept
returns-clause-kept c =
    extended-trans c.args.letters.now c.leaf.new.self c.place.new.letters c.leaf.ensures.kept
    c.place.ensures.kept

pub returns-clause-gains : goal.returns-clause-gains
returns-clause-gains c =
    let a = c.args.letters.now in
    let b = c.leaf.new.self in
    let d = c.place.new.letters in
    on_ok c.place.result
    (Gains b c.args.ways.now.items d c.place.new.ways.items
    (places (group_of (letter_in b c.in_ok-member.member)) (pos 0) (stack_in b c.args.stack.now)))
    (Gains a c.args.ways.now.items d c.place.new.ways.items
    (places (leaves c.args.side c.args.k) (pos 0) (stack_in a c.args.stack.now)))
    (gains-leaf a b d c.args.ways.now.items c.place.new.ways.items c.leaf.ensures.kept c.args.side
    c.args.k c.in_ok-member.member c.args.stack.now c.requires.trees c.in_ok-member.ensures.letter.1)
    c.place.ensures.gains
