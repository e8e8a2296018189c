use Rattle.nil_pres.specs.Relations.{relations_of}
use Rattle.identity_check.proofs.Marks.{IsStarted, IsWalked}
use Rattle.identity_check.proofs.drawing.walked.Given as goal

abbrev pub invariant-loop-m : goal.invariant-loop-m
invariant-loop-m l = IsStarted (relations_of l.pres) l.level l.walked.items l.marks

abbrev pub invariant-loop-k : goal.invariant-loop-k
invariant-loop-k l = IsWalked (relations_of l.pres) l.level l.walked.items l.marks l.k
