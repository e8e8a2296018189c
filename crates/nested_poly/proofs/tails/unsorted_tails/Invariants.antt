use Rattle.std.proofs.Common.{◌≡◌, take}
use Rattle.std.specs.Prelude.{All}
use Rattle.nested_poly.specs.Tails.{tail_terms, HasPart}
use Rattle.nested_poly.proofs.tails.unsorted_tails.Given as goal

abbrev pub invariant-loop-term : goal.invariant-loop-term
invariant-loop-term l = (tail_terms l.tails.items ≡ take l.term-index l.terms) × (All HasPart l.tails.items)
