use Rattle.std.proofs.Common.{subst}
use Rattle.identity_check.specs.Drawing.{IsLeft}
use Rattle.identity_check.proofs.Marks.{pair_draws}
use Rattle.identity_check.proofs.drawing.draw_pair.Goals as goal

pub returns : goal.returns
returns c = λ ms.
    pair_draws c.args.pres.now c.args.level ms c.args.marks.now c.args.j c.args.l c.in-Some.m
    c.count.ensures.lawful c.requires.least c.requires.first c.requires.below c.requires.last
    c.if-not-marks-j.false c.if-not-marks-l.false
    (subst (λ right. IsLeft right c.args.marks.now c.in-Some.m) c.right_side.ensures.right
    c.in-Some.ensures.left)
