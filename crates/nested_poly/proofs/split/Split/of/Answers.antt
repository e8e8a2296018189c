use Rattle.std.proofs.Common.{◌-◌, length, refl, arith}
use Rattle.nested_poly.proofs.Ending.{own_last, tail_at}
use Rattle.nested_poly.proofs.Splitting.{first_added, next_added, so_far_ends}
use Rattle.nested_poly.proofs.split.Split.of.Goals as goal

pub loop-tail-init : goal.loop-tail-init
loop-tail-init c =
    first_added _ c.add.new.self c.args.first.now refl c.new.ensures.items c.new-2.ensures.items c.requires.first (own_last c.args.first.now.parts.now (length c.args.first.now.parts.now - 1) record { var = 0; exp = 0 } (omega (arith, c.requires.first))) c.in_ok-add.ensures

pub loop-tail-preserved : goal.loop-tail-preserved
loop-tail-preserved c =
    next_added c.loop-tail.split c.add-in-loop-tail.new.self c.args.first.now _ _ _ (tail_at c.args.rest.now c.loop-tail.tail-index _ c.loop-tail-test.true) c.requires.first c.loop-tail.invariant c.in_ok-add-2.ensures

pub returns : goal.returns
returns c = so_far_ends c.loop-tail.split c.args.first.now c.args.rest.now c.loop-tail.tail-index c.loop-tail-test.false c.loop-tail.invariant
