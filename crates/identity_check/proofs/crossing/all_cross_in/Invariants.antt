use Rattle.std.proofs.Common.{◌<◌, ℕ, slice_index_or}
use Rattle.binom_poly.specs.declared.term.Term.{Term}
use Rattle.identity_check.specs.Crossing.{Crosses}
use Rattle.identity_check.proofs.crossing.all_cross_in.Given as goal

abbrev pub invariant-loop-term : goal.invariant-loop-term
invariant-loop-term l =
    (i : ℕ) (d : Term) → i < l.term-index → Crosses l.k ((slice_index_or l.terms i d).monomial)
