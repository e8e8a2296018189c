use Rattle.std.proofs.Common.{◌≢◌, ◌<◌, ℕ, slice_index_or}
use Rattle.nil_pres.specs.declared.syllable.Syllable.{Syllable}
use Rattle.identity_check.specs.Drawing.{IsMarked}
use Rattle.identity_check.proofs.drawing.are_others_marked.Given as goal

abbrev pub invariant-loop-syllable : goal.invariant-loop-syllable
invariant-loop-syllable l =
    (k : ℕ) (d : Syllable) → k < l.syllable-index → (slice_index_or l.right k d).number ≢ l.m
    → IsMarked l.marks (slice_index_or l.right k d).number
