use Rattle.std.proofs.Common.{◌≡◌, ◌∙◌, ℤ, List, ap, refl, subst, arith}
use Rattle.nil_num.specs.Outcome.{Writes}
use Rattle.hall_table.specs.Order.{multiplied}
use Rattle.group_eval.specs.Order.{Outcome}
use Rattle.overlap_test.specs.Ways.{image, second_written}
use Rattle.overlap_test.proofs.Rooms.{place, at_place, length-at_place, refilled, length-written}
use Rattle.overlap_test.proofs.ways.Ways.write_second.Goals as goal

pub index-left-requires : goal.index-left-requires
index-left-requires c =
    let h = place c.requires.room c.args.k (omega arith) c.requires.most in omega (arith, h)

pub index-right-requires : goal.index-right-requires
index-right-requires c =
    let h = place c.requires.room c.args.j c.requires.below (omega arith) in omega (arith, h)

pub multiply-requires-clause-vectors : goal.multiply-requires-clause-vectors
multiply-requires-clause-vectors c = (
  length-at_place c.requires.room c.args.k c.index-left.result.now (omega arith) c.requires.most
      c.index-left.ensures,
  (
    length-at_place c.requires.room c.args.j c.index-right.result.now c.requires.below (omega arith)
        c.index-right.ensures,
    (c.requires.room.vectors.1.0, tt),
  ),
)

pub returns : goal.returns
returns c =
    let d = c.args.above.now in
    let room = c.requires.room in
    let left = c.index-left.result.now in
    let right = c.index-right.result.now in
    let is : multiplied d.table left right ≡ second_written d c.args.i c.args.j c.args.k =
    ap (λ (v : List ℤ). multiplied d.table v right)
    (at_place room c.args.k left (omega arith) c.requires.most c.index-left.ensures)
    ∙ ap (multiplied d.table (image d.pres c.args.i c.args.k))
    (at_place room c.args.j right c.requires.below (omega arith) c.index-right.ensures) in
    record {
      order = subst (λ (o : Outcome). Writes c.multiply.result c.multiply.new.out o) is
          c.multiply.ensures.order;
      first = refl;
      room = refilled room _ _ _ _ _ c.multiply.ensures.ws (
        room.vectors.0,
        (
          length-written d c.multiply.result left right c.args.self.now.second c.multiply.new.out
              room.checked c.multiply.ensures.order c.multiply.ensures.err room.vectors.1.0,
          room.vectors.1.1,
        ),
      );
    }
