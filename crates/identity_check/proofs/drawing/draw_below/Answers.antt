use Rattle.identity_check.proofs.drawing.draw_below.Goals as goal

pub loop-j-init : goal.loop-j-init
loop-j-init c = λ ms h. h

pub loop-j-preserved : goal.loop-j-preserved
loop-j-preserved c = λ ms h. c.draw_pair-any.ensures ms (c.loop-j.invariant ms h)

pub returns : goal.returns
returns c = c.loop-j.invariant
