-- Each tree is raised over the arena as it is by then.
use Rattle.std.proofs.Common.{◌^◌, ◌-◌, arith}
use Rattle.dt_letters.proofs.Different.{extended-trans}
use Rattle.dt_trees.proofs.Stacks.{raised-next, below-kept}
use Rattle.dt_trees.proofs.placing.raise_all.Goals as goal

pub raise-requires-clause-small : goal.raise-requires-clause-small
raise-requires-clause-small c =
    below-kept (2 ^ 63) (2 ^ 64 - 1) c.args.letters.now c.loop-tree.letters c.loop-tree.invariant.kept
    c.args.stack.now c.loop-tree.tree-index (record { place = 0 }) (omega arith) c.requires.trees
    (omega arith) c.requires.small

pub returns-in_err-raise-clause-kept : goal.returns-in_err-raise-clause-kept
returns-in_err-raise-clause-kept c =
    extended-trans c.args.letters.now c.loop-tree.letters c.raise.new.self c.loop-tree.invariant.kept
    c.raise.ensures.kept

pub returns-in_err-push-clause-kept : goal.returns-in_err-push-clause-kept
returns-in_err-push-clause-kept c =
    extended-trans c.args.letters.now c.loop-tree.letters c.raise.new.self c.loop-tree.invariant.kept
    c.raise.ensures.kept

pub loop-tree-preserved : goal.loop-tree-preserved
loop-tree-preserved c = record {
  kept = extended-trans c.args.letters.now c.loop-tree.letters c.raise.new.self c.loop-tree.invariant.kept
      c.raise.ensures.kept;
  list = raised-next c.args.letters.now c.loop-tree.letters c.raise.new.self c.loop-tree.invariant.kept
      c.raise.ensures.kept c.args.member (record { place = 0 }) c.in_ok-raise.field-0 c.args.stack.now c.loop-tree.list.items
      c.push.new.self.items c.loop-tree.tree-index c.requires.member c.requires.trees (omega arith)
      c.loop-tree.invariant.list c.in_ok-raise.ensures.letter c.in_ok-push.ensures.items;
}
