-- One way is put behind: the stack with room for the number.
use Rattle.std.proofs.Common.{◌^◌, map}
use Rattle.dt_letters.specs.Letters.{group_of, member}
use Rattle.dt_letters.specs.Growth.{raised}
use Rattle.dt_letters.specs.Arena.{letter_in}
use Rattle.dt_letters.proofs.Different.{extended-trans}
use Rattle.dt_trees.specs.Ways.{stack_in}
use Rattle.dt_trees.proofs.Stacks.{stack-raised, small-kept, tree-more}
use Rattle.dt_trees.proofs.Gaining.{put-way}
use Rattle.dt_trees.proofs.placing.put_anew.Goals as goal

pub raise_all-requires-clause-small : goal.raise_all-requires-clause-small
raise_all-requires-clause-small c =
    small-kept (2 ^ 63) c.args.letters.now c.member.new.self c.member.ensures.kept
    c.args.stack.now c.requires.trees c.requires.small

pub returns-in_err-list-clause-kept : goal.returns-in_err-list-clause-kept
returns-in_err-list-clause-kept c =
    extended-trans c.args.letters.now c.member.new.self c.raise_all.new.letters c.member.ensures.kept
    c.raise_all.ensures.kept

pub returns-in_err-push-clause-kept : goal.returns-in_err-push-clause-kept
returns-in_err-push-clause-kept c =
    extended-trans c.args.letters.now c.member.new.self c.raise_all.new.letters c.member.ensures.kept
    c.raise_all.ensures.kept

pub returns-clause-kept : goal.returns-clause-kept
returns-clause-kept c =
    extended-trans c.args.letters.now c.member.new.self c.raise_all.new.letters c.member.ensures.kept
    c.raise_all.ensures.kept

pub returns-clause-gains : goal.returns-clause-gains
returns-clause-gains c =
    let a = c.args.letters.now in
    let g = group_of (letter_in a c.args.member) in
    put-way c.args.letters.now c.raise_all.new.letters c.args.ways.now.items c.push.new.self.items
    (record { list = c.in_ok-list.list; tree = c.in_ok-tree.tree })
    (map (raised g c.args.number) (stack_in a c.args.stack.now)) (member g c.args.number)
    (extended-trans a c.member.new.self c.raise_all.new.letters c.member.ensures.kept
    c.raise_all.ensures.kept) c.in_ok-push.ensures.items
    (stack-raised a c.member.new.self c.raise_all.new.letters c.member.ensures.kept g c.args.number
    c.in_ok-tree.tree c.args.stack.now c.in_ok-list.list.items c.requires.trees
    c.in_ok-tree.ensures.letter.1 c.in_ok-list.ensures.list)
    (tree-more c.member.new.self c.raise_all.new.letters c.raise_all.ensures.kept c.in_ok-tree.tree
    (member g c.args.number) c.in_ok-tree.ensures.letter)
