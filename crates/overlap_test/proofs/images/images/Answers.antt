use Rattle.std.proofs.Common.{suc, ◌<◌, ◌∙◌, length, arith}
use Rattle.overlap_test.proofs.Imaging.{images_next}
use Rattle.overlap_test.proofs.images.images.Goals as goal

pub loop-l-preserved : goal.loop-l-preserved
loop-l-preserved c =
    let below : c.loop-l.l < suc (length c.args.pres.now.names) =
    omega (arith, c.loop-l-test.true, c.count-last.ensures.count) in
    images_next c.args.pres.now c.args.i c.loop-l.l (suc (length c.args.pres.now.names))
    c.loop-l.images.items c.push.new.self.items c.in_ok-image.field-0 below
    c.in_ok-push.ensures.items c.in_ok-image.ensures
    ∙ c.loop-l.invariant
