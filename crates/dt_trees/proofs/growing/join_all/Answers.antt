-- Each way in which the stack grew is one step more.
use Rattle.std.proofs.Common.{◌^◌, length, arith, w64, to_z, of_z}
use Rattle.std.proofs.lemmas.Iterator.Consumers.{YieldsList-turn}
use Rattle.std.proofs.lemmas.Iterator.Adapters.{YieldsList-from_vec}
use Rattle.dt_letters.specs.Allowed.{exponents_of}
use Rattle.dt_letters.specs.Listing.{joined}
use Rattle.dt_letters.proofs.Different.{extended-trans}
use Rattle.dt_trees.specs.Ways.{grown_in, IsSmall}
use Rattle.dt_trees.proofs.Stacks.{small-kept}
use Rattle.dt_trees.proofs.Gaining.{way-kept}
use Rattle.dt_trees.proofs.Joining.{way-at, grew-at, gains-each, joined-kept}
use Rattle.dt_trees.proofs.growing.join_all.Goals as goal

pub join-requires-clause-way : goal.join-requires-clause-way
join-requires-clause-way c =
    let g = c.into_iter-right-iterator.ensures.into_iter_gives in
    let t = YieldsList-turn (YieldsList-from_vec {s = c.into_iter-right-iterator.result} c.args.rights.items g.0 (omega arith)) c.loop-right.yielded
    c.loop-right.right-iterator c.loop-right.yielded_by c.next.result c.next.new.self c.in-Some.right c.in-Some.is c.next.ensures.steps in
    let w = way-at c.args.letters.now c.args.rights.items (length c.loop-right.yielded) c.in-Some.right
    c.requires.ways t.0 t.1 in
    (way-kept c.args.letters.now c.loop-right.letters c.loop-right.invariant.kept c.in-Some.right w).0

pub join-requires-clause-small : goal.join-requires-clause-small
join-requires-clause-small c =
    let g = c.into_iter-right-iterator.ensures.into_iter_gives in
    let t = YieldsList-turn (YieldsList-from_vec {s = c.into_iter-right-iterator.result} c.args.rights.items g.0 (omega arith)) c.loop-right.yielded
    c.loop-right.right-iterator c.loop-right.yielded_by c.next.result c.next.new.self c.in-Some.right c.in-Some.is c.next.ensures.steps in
    let w = way-at c.args.letters.now c.args.rights.items (length c.loop-right.yielded) c.in-Some.right
    c.requires.ways t.0 t.1 in
    let s = grew-at IsSmall c.args.letters.now c.args.rights.items (length c.loop-right.yielded)
    c.in-Some.right c.requires.small t.0 t.1 in
    small-kept (2 ^ 63) c.args.letters.now c.loop-right.letters c.loop-right.invariant.kept
    c.in-Some.right.list.items w.list s

pub returns-in_err-join-clause-kept : goal.returns-in_err-join-clause-kept
returns-in_err-join-clause-kept c =
    extended-trans c.args.letters.now c.loop-right.letters c.join.new.letters c.loop-right.invariant.kept
    c.join.ensures.kept

pub loop-right-preserved : goal.loop-right-preserved
loop-right-preserved c =
    let a = c.args.letters.now in
    let b = c.loop-right.letters in
    let z = to_z w64 (of_z w64 c.args.limit) in
    let e = c.into_iter-right-iterator.ensures.into_iter_gives in
    let t = YieldsList-turn (YieldsList-from_vec {s = c.into_iter-right-iterator.result} c.args.rights.items e.0 (omega arith)) c.loop-right.yielded
    c.loop-right.right-iterator c.loop-right.yielded_by c.next.result c.next.new.self c.in-Some.right c.in-Some.is c.next.ensures.steps in
    let w = way-at a c.args.rights.items (length c.loop-right.yielded) c.in-Some.right c.requires.ways t.0 t.1 in
    record {
      kept = extended-trans a b c.join.new.letters c.loop-right.invariant.kept c.join.ensures.kept;
      gains = gains-each a b c.join.new.letters c.args.ways.now.items c.loop-right.ways.items
          c.join.new.ways.items c.loop-right.yielded c.in-Some.right
          (λ g. joined (exponents_of a.pres) c.args.k z g.tree g.list)
          (joined (exponents_of b.pres) c.args.k z (grown_in b c.in-Some.right).tree
          (grown_in b c.in-Some.right).list)
          (joined-kept a b c.loop-right.invariant.kept c.in-Some.right c.args.k z w)
          c.loop-right.invariant.gains c.in_ok-join.ensures.gains;
    }
