use Rattle.identity_check.proofs.drawing.draw.Goals as goal

pub loop-l-init : goal.loop-l-init
loop-l-init c = λ ms h. h

pub loop-l-preserved : goal.loop-l-preserved
loop-l-preserved c = λ ms h. c.draw_below-any.ensures ms (c.loop-l.invariant ms h)

pub returns : goal.returns
returns c = c.loop-l.invariant
