-- Each number is one way more.
use Rattle.std.proofs.Common.{◌+◌}
use Rattle.dt_letters.specs.Letters.{group_of}
use Rattle.dt_letters.specs.Listing.{again}
use Rattle.dt_letters.specs.Arena.{letter_in}
use Rattle.dt_letters.proofs.Different.{extended-trans}
use Rattle.dt_trees.specs.Ways.{stack_in}
use Rattle.dt_trees.proofs.Gaining.{gains-next, again-kept}
use Rattle.dt_trees.proofs.placing.put_all_again.Goals as goal

pub returns-in_err-put_again-clause-kept : goal.returns-in_err-put_again-clause-kept
returns-in_err-put_again-clause-kept c =
    extended-trans c.args.letters.now c.loop-below.letters c.put_again.new.letters
    c.loop-below.invariant.kept c.put_again.ensures.kept

pub loop-below-preserved : goal.loop-below-preserved
loop-below-preserved c = record {
  kept = extended-trans c.args.letters.now c.loop-below.letters c.put_again.new.letters
      c.loop-below.invariant.kept c.put_again.ensures.kept;
  gains = gains-next c.args.letters.now c.loop-below.letters c.put_again.new.letters
      c.args.ways.now.items c.loop-below.ways.items c.put_again.new.ways.items
      (again (group_of (letter_in c.args.letters.now c.args.member)) (stack_in c.args.letters.now c.args.stack.now))
      c.loop-below.below
      (again (group_of (letter_in c.loop-below.letters c.args.member))
      (stack_in c.loop-below.letters c.args.stack.now) (c.loop-below.below + 1))
      c.loop-below.invariant.gains c.in_ok-put_again.ensures.gains
      (again-kept c.args.letters.now c.loop-below.letters c.loop-below.invariant.kept c.args.member
      c.args.stack.now (c.loop-below.below + 1) c.requires.member c.requires.trees);
}
