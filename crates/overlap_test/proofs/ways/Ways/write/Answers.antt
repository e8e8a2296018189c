use Rattle.std.proofs.Common.{◌∙◌, List, ℤ, Ok, ap, sym}
use Rattle.overlap_test.proofs.Rooms.{written_ways}
use Rattle.overlap_test.proofs.ways.Ways.write.Goals as goal

pub returns : goal.returns
returns c = record {
  ways = written_ways c.args.above.now c.args.i c.args.j c.args.k c.write_second.result
      c.write_second.new.self
      (c.in_ok-write_first.ensures.order
      ∙ ap (λ (v : List ℤ). Ok v) (sym c.write_second.ensures.first))
      c.write_second.ensures.order;
  room = c.write_second.ensures.room;
}
