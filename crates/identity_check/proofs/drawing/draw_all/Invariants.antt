use Rattle.nil_pres.specs.Relations.{relations_of}
use Rattle.identity_check.specs.Drawing.{KeepDrawn}
use Rattle.identity_check.proofs.drawing.draw_all.Given as goal

abbrev pub invariant-loop : goal.invariant-loop
invariant-loop l = KeepDrawn (relations_of l.pres) l.level l.fn.marks l.marks
