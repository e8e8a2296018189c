use Rattle.std.proofs.Common.{◌∙◌, ℤ, List, length, Ok, ap, sym, refl, arith, rules}
use Rattle.std.proofs.lemmas.Result.{err_from_is_err_and}
use Rattle.overlap_test.proofs.Rooms.{place, length-at_place, power_is, exponent_is, joined_err, joined_is, refilled, length-multiplied, length-powered}
use Rattle.overlap_test.proofs.ways.Ways.join_power.Goals as goal

pub index-image-requires : goal.index-image-requires
index-image-requires c =
    let h = place c.requires.room c.args.syllable.number c.requires.below c.requires.most in
    omega (arith, h)

pub power-requires-clause-vectors : goal.power-requires-clause-vectors
power-requires-clause-vectors c = (
  length-at_place c.requires.room c.args.syllable.number c.index-image.result.now c.requires.below
      c.requires.most c.index-image.ensures,
  (c.requires.room.vectors.1.1.0, tt),
)

pub returns-in_err-power-clause-order : goal.returns-in_err-power-clause-order
returns-in_err-power-clause-order c =
    let s = c.args.syllable in
    let p = err_from_is_err_and c.from_residual.result c.from_residual.ensures.1 in
    rw (p.1, p.2)
    (joined_err c.args.above.now c.args.i c.args.self.now.first s c.in_err-power.field-0.0
    (power_is c.requires.room s c.index-image.result.now _ _ c.requires.below c.requires.most
    c.index-image.ensures
    (exponent_is s.exp c.from-e.result (search rules) (search rules) c.from-e.ensures)
    c.in_err-power.ensures.order))

pub multiply-requires-clause-vectors : goal.multiply-requires-clause-vectors
multiply-requires-clause-vectors c =
    let room = c.requires.room in
    let s = c.args.syllable in
    let raised =
    power_is room s c.index-image.result.now _ _ c.requires.below c.requires.most
    c.index-image.ensures
    (exponent_is s.exp c.from-e.result (search rules) (search rules) c.from-e.ensures)
    c.in_ok-power.ensures.order in
    let size =
    length-powered room s.number s.exp c.power.new.out c.requires.least c.requires.below
    c.requires.most raised in
    (room.vectors.0, (size, (room.vectors.1.1.1.0, tt)))

pub returns-in_err-multiply : goal.returns-in_err-multiply
returns-in_err-multiply c =
    let room = c.requires.room in
    let s = c.args.syllable in
    let raised =
    power_is room s c.index-image.result.now _ _ c.requires.below c.requires.most
    c.index-image.ensures
    (exponent_is s.exp c.from-e.result (search rules) (search rules) c.from-e.ensures)
    c.in_ok-power.ensures.order in
    let size =
    length-powered room s.number s.exp c.power.new.out c.requires.least c.requires.below
    c.requires.most raised in
    let kept = ap length c.in_err-multiply.ensures.err ∙ room.vectors.1.1.1.0 in
    let p = err_from_is_err_and c.from_residual-in_err-multiply.result
    c.from_residual-in_err-multiply.ensures.1 in
    record {
      order = rw (p.1, p.2)
          (joined_is c.args.above.now c.args.i c.args.self.now.first c.power.new.out s _ raised
          c.in_err-multiply.ensures.order);
      second = refl;
      room = refilled room _ _ _ _ _ c.in_err-multiply.ensures.ws
          (room.vectors.0, (room.vectors.1.0, (size, (kept, tt))));
    }

pub returns : goal.returns
returns c =
    let room = c.requires.room in
    let s = c.args.syllable in
    let raised =
    power_is room s c.index-image.result.now _ _ c.requires.below c.requires.most
    c.index-image.ensures
    (exponent_is s.exp c.from-e.result (search rules) (search rules) c.from-e.ensures)
    c.in_ok-power.ensures.order in
    let size =
    length-powered room s.number s.exp c.power.new.out c.requires.least c.requires.below
    c.requires.most raised in
    let made = ap length c.swap.ensures.x_after
    ∙ length-multiplied c.args.above.now c.args.self.now.first c.power.new.out c.multiply.new.out
    room.checked c.in_ok-multiply.ensures.order in
    let other = ap length c.swap.ensures.y_after ∙ room.vectors.0 in
    record {
      order = joined_is c.args.above.now c.args.i c.args.self.now.first c.power.new.out s _ raised
          c.in_ok-multiply.ensures.order
          ∙ ap (λ (v : List ℤ). Ok v) (sym c.swap.ensures.x_after);
      second = refl;
      room = refilled room _ _ _ _ _ c.in_ok-multiply.ensures.ws
          (made, (room.vectors.1.0, (size, (other, tt))));
    }
