use Rattle.nil_pres.specs.Relations.{relations_of}
use Rattle.identity_check.specs.Drawing.{KeepDrawn}
use Rattle.identity_check.proofs.drawing.draw.Given as goal

abbrev pub invariant-loop-l : goal.invariant-loop-l
invariant-loop-l l = KeepDrawn (relations_of l.pres) l.level l.fn.marks l.marks
