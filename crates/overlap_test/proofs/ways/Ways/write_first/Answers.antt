use Rattle.std.proofs.Common.{◌∙◌, pos, length, ap, sym, arith}
use Rattle.std.proofs.lemmas.Result.{err_from_is_err_and}
use Rattle.nil_pres.specs.declared.syllable.Syllable.{Syllable}
use Rattle.nil_pres.specs.Presented.{Presented, right_of}
use Rattle.overlap_test.proofs.Collecting.{first_begins, first_err, collected_next, collected_err, collected_done}
use Rattle.overlap_test.proofs.Rooms.{place, length-at_place, product_is, refilled, length-multiplied}
use Rattle.overlap_test.proofs.ways.Ways.write_first.Goals as goal

pub index-left-requires : goal.index-left-requires
index-left-requires c =
    let h = place c.requires.room c.args.j c.requires.below (omega arith) in omega (arith, h)

pub index-right-requires : goal.index-right-requires
index-right-requires c =
    let h = place c.requires.room c.args.k (omega arith) c.requires.most in omega (arith, h)

pub multiply-requires-clause-vectors : goal.multiply-requires-clause-vectors
multiply-requires-clause-vectors c = (
  length-at_place c.requires.room c.args.j c.index-left.result.now c.requires.below (omega arith)
      c.index-left.ensures,
  (
    length-at_place c.requires.room c.args.k c.index-right.result.now (omega arith) c.requires.most
        c.index-right.ensures,
    (c.requires.room.vectors.0, tt),
  ),
)

pub returns-in_err-multiply : goal.returns-in_err-multiply
returns-in_err-multiply c =
    let room = c.requires.room in
    let p = err_from_is_err_and c.from_residual.result c.from_residual.ensures.1 in
    record {
      order = rw (p.1, p.2)
          (first_err c.args.above.now c.args.i c.args.j c.args.k c.in_err-multiply.field-0.0
          (product_is room c.args.j c.args.k c.index-left.result.now c.index-right.result.now _
          c.requires.below (omega arith) (omega arith) c.requires.most c.index-left.ensures
          c.index-right.ensures c.in_err-multiply.ensures.order));
      room = refilled room _ _ _ _ _ c.in_err-multiply.ensures.ws
          (ap length c.in_err-multiply.ensures.err ∙ room.vectors.0, room.vectors.1);
    }

pub loop-syllable-init : goal.loop-syllable-init
loop-syllable-init c =
    let d = c.args.above.now in
    let room = c.requires.room in
    let product =
    product_is room c.args.j c.args.k c.index-left.result.now c.index-right.result.now _
    c.requires.below (omega arith) (omega arith) c.requires.most c.index-left.ensures
    c.index-right.ensures c.in_ok-multiply.ensures.order in
    record {
      room = refilled room _ _ _ _ _ c.in_ok-multiply.ensures.ws (
        length-multiplied d c.index-left.result.now c.index-right.result.now c.multiply.new.out
            room.checked c.in_ok-multiply.ensures.order,
        room.vectors.1,
      );
      made = first_begins d c.args.i c.args.j c.args.k c.right_side-syllable-items.result.now
          c.multiply.new.out (omega arith) c.requires.above c.requires.most
          (c.right_side-syllable-items.ensures.right
          ∙ ap (λ (p : Presented). right_of p c.args.j c.args.k) c.pres.ensures.pres) product;
    }

pub loop-syllable-preserved : goal.loop-syllable-preserved
loop-syllable-preserved c =
    let none : Syllable = record { number = 0; exp = pos 0 } in
    record {
      room = c.in_ok-join_power.ensures.room;
      made = collected_next c.args.above.now c.args.i c.right_side-syllable-items.result.now
          c.loop-syllable.syllable-index none c.loop-syllable.self.first
          c.join_power.new.self.first c.loop-syllable-test.true c.in_ok-join_power.ensures.order
          ∙ c.loop-syllable.invariant.made;
    }

pub returns-in_err-join_power-clause-order : goal.returns-in_err-join_power-clause-order
returns-in_err-join_power-clause-order c =
    let none : Syllable = record { number = 0; exp = pos 0 } in
    let p = err_from_is_err_and c.from_residual-in_err-join_power.result
    c.from_residual-in_err-join_power.ensures.1 in
    rw (p.1, p.2)
    (sym c.loop-syllable.invariant.made
    ∙ collected_err c.args.above.now c.args.i c.right_side-syllable-items.result.now
    c.loop-syllable.syllable-index none c.loop-syllable.self.first
    c.in_err-join_power.field-0.0 c.loop-syllable-test.true c.in_err-join_power.ensures.order)

pub returns : goal.returns
returns c = record {
  order = sym c.loop-syllable.invariant.made
      ∙ collected_done c.args.above.now c.args.i c.right_side-syllable-items.result.now
      c.loop-syllable.syllable-index c.loop-syllable.self.first c.loop-syllable-test.false;
  room = c.loop-syllable.invariant.room;
}
