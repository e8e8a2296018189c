use Rattle.std.proofs.Common.{◌≡◌, ◌+◌, ◌≤◌, length, drop, min}
use Rattle.nil_word.specs.Expressions.{joined_words}
use Rattle.nil_word.proofs.unrolling.+letters_up_to.Given as goal

abbrev pub decreases-letters_up_to : goal.decreases-letters_up_to
decreases-letters_up_to l = goal.size-letters_up_to l

abbrev pub invariant-loop-item : goal.invariant-loop-item
invariant-loop-item l = record {
  within : l.letters ≤ l.cap;
  counted : min l.cap (l.letters + length (joined_words (drop l.item-index l.item-items))) ≡ min l.cap (length (joined_words l.item-items));
}
