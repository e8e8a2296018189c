-- One way is put behind: the stack as it is.
use Rattle.dt_letters.specs.Letters.{group_of, member}
use Rattle.dt_letters.specs.Arena.{letter_in}
use Rattle.dt_trees.specs.Ways.{stack_in}
use Rattle.dt_trees.proofs.Stacks.{stack-copied}
use Rattle.dt_trees.proofs.Gaining.{put-way}
use Rattle.dt_trees.proofs.placing.put_again.Goals as goal

pub returns-clause-gains : goal.returns-clause-gains
returns-clause-gains c =
    put-way c.args.letters.now c.member.new.self c.args.ways.now.items c.push.new.self.items
    (record { list = c.in_ok-list.list; tree = c.in_ok-tree.tree })
    (stack_in c.args.letters.now c.args.stack.now)
    (member (group_of (letter_in c.args.letters.now c.args.member)) c.args.number)
    c.member.ensures.kept c.in_ok-push.ensures.items
    (stack-copied c.args.letters.now c.member.new.self c.member.ensures.kept c.args.stack.now
    c.in_ok-list.list.items c.in_ok-list.ensures.items c.requires.trees)
    c.in_ok-tree.ensures.letter
