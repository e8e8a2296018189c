-- Each number is one way more.
use Rattle.std.proofs.Common.{◌+◌, ◌^◌}
use Rattle.dt_letters.specs.Letters.{group_of}
use Rattle.dt_letters.specs.Listing.{anew}
use Rattle.dt_letters.specs.Arena.{letter_in}
use Rattle.dt_letters.proofs.Different.{extended-trans}
use Rattle.dt_trees.specs.Ways.{stack_in}
use Rattle.dt_trees.proofs.Stacks.{small-kept}
use Rattle.dt_trees.proofs.Gaining.{gains-next, anew-kept}
use Rattle.dt_trees.proofs.placing.put_all_anew.Goals as goal

pub put_anew-requires-clause-small : goal.put_anew-requires-clause-small
put_anew-requires-clause-small c =
    small-kept (2 ^ 63) c.args.letters.now c.loop-below.letters c.loop-below.invariant.kept
    c.args.stack.now c.requires.trees c.requires.small

pub returns-in_err-put_anew-clause-kept : goal.returns-in_err-put_anew-clause-kept
returns-in_err-put_anew-clause-kept c =
    extended-trans c.args.letters.now c.loop-below.letters c.put_anew.new.letters
    c.loop-below.invariant.kept c.put_anew.ensures.kept

pub loop-below-preserved : goal.loop-below-preserved
loop-below-preserved c = record {
  kept = extended-trans c.args.letters.now c.loop-below.letters c.put_anew.new.letters
      c.loop-below.invariant.kept c.put_anew.ensures.kept;
  gains = gains-next c.args.letters.now c.loop-below.letters c.put_anew.new.letters
      c.args.ways.now.items c.loop-below.ways.items c.put_anew.new.ways.items
      (anew (group_of (letter_in c.args.letters.now c.args.member)) (stack_in c.args.letters.now c.args.stack.now))
      c.loop-below.below
      (anew (group_of (letter_in c.loop-below.letters c.args.member))
      (stack_in c.loop-below.letters c.args.stack.now) (c.loop-below.below + 1))
      c.loop-below.invariant.gains c.in_ok-put_anew.ensures.gains
      (anew-kept c.args.letters.now c.loop-below.letters c.loop-below.invariant.kept c.args.member
      c.args.stack.now (c.loop-below.below + 1) c.requires.member c.requires.trees);
}
