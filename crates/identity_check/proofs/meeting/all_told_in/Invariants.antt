use Rattle.std.proofs.Common.{◌<◌, ℕ, length, slice_index_or}
use Rattle.nil_pres.specs.Relations.{relations_of}
use Rattle.binom_poly.specs.declared.term.Term.{Term}
use Rattle.identity_check.specs.Meeting.{IsTold}
use Rattle.identity_check.proofs.meeting.all_told_in.Given as goal

abbrev pub invariant-loop-term : goal.invariant-loop-term
invariant-loop-term l =
    (i : ℕ) (d : Term) → i < l.term-index
    → IsTold (relations_of l.pres) (length l.pres.names) l.k ((slice_index_or l.terms i d).monomial)
