-- The numbers that are there, and then those that come in.
use Rattle.std.proofs.Common.{◌^◌, ◌+◌, [], ◌∷◌, arith}
use Rattle.dt_letters.specs.Letters.{group_of}
use Rattle.dt_letters.specs.Listing.{again, places}
use Rattle.dt_letters.specs.Arena.{letter_in}
use Rattle.dt_letters.proofs.Different.{extended-trans}
use Rattle.dt_trees.specs.Ways.{stack_in, Gains}
use Rattle.dt_trees.proofs.Small.{greatest-below}
use Rattle.dt_trees.proofs.Stacks.{small-kept, trees-kept}
use Rattle.dt_trees.proofs.Gaining.{gains-places, on_ok}
use Rattle.dt_trees.proofs.placing.place.Goals as goal

pub overflow_add-most : goal.overflow_add-most
overflow_add-most c =
    let top = greatest-below (group_of (letter_in c.args.letters.now c.args.member)) (2 ^ 63)
    (stack_in c.args.letters.now c.args.stack.now) (omega arith) c.requires.small in
    omega (arith, top, c.greatest-most.ensures)

pub put_all_anew-requires-clause-small : goal.put_all_anew-requires-clause-small
put_all_anew-requires-clause-small c =
    small-kept (2 ^ 63) c.args.letters.now c.put_all_again.new.letters c.put_all_again.ensures.kept
    c.args.stack.now c.requires.trees c.requires.small

pub returns-in_err-put_all_anew-clause-kept : goal.returns-in_err-put_all_anew-clause-kept
returns-in_err-put_all_anew-clause-kept c =
    extended-trans c.args.letters.now c.put_all_again.new.letters c.put_all_anew.new.letters
    c.put_all_again.ensures.kept c.put_all_anew.ensures.kept

pub put_again-requires-clause-trees : goal.put_again-requires-clause-trees
put_again-requires-clause-trees c =
    trees-kept c.args.letters.now c.put_all_anew.new.letters
    (extended-trans c.args.letters.now c.put_all_again.new.letters c.put_all_anew.new.letters
    c.put_all_again.ensures.kept c.put_all_anew.ensures.kept) c.args.stack.now c.requires.trees

pub returns-clause-kept : goal.returns-clause-kept
returns-clause-kept c =
    extended-trans c.args.letters.now c.put_all_again.new.letters c.put_again.new.letters
    c.put_all_again.ensures.kept
    (extended-trans c.put_all_again.new.letters c.put_all_anew.new.letters c.put_again.new.letters
    c.put_all_anew.ensures.kept c.put_again.ensures.kept)

pub returns-clause-gains : goal.returns-clause-gains
returns-clause-gains c =
    let a = c.args.letters.now in
    let b = c.put_all_again.new.letters in
    let d = c.put_all_anew.new.letters in
    let o = c.put_again.new.letters in
    let m = c.greatest-most.result in
    on_ok c.put_again.result
    (Gains d c.put_all_anew.new.ways.items o c.put_again.new.ways.items
    (again (group_of (letter_in d c.args.member)) (stack_in d c.args.stack.now) (m + 1) ∷ []))
    (Gains a c.args.ways.now.items o c.put_again.new.ways.items
    (places (group_of (letter_in a c.args.member)) c.args.limit (stack_in a c.args.stack.now)))
    (gains-places a b d o c.args.ways.now.items c.put_all_again.new.ways.items c.put_all_anew.new.ways.items
    c.put_again.new.ways.items c.put_all_again.ensures.kept c.put_all_anew.ensures.kept c.args.member
    c.args.stack.now c.requires.member c.requires.trees c.args.limit m c.greatest-most.ensures (grind arith)
    c.in_ok-put_all_again.ensures.gains c.in_ok-put_all_anew.ensures.gains)
    c.put_again.ensures.gains
