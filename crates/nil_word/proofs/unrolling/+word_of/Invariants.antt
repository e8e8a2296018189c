use Rattle.std.proofs.Common.{◌≡◌, ◌++◌, drop}
use Rattle.nil_word.specs.Expressions.{joined_words}
use Rattle.nil_word.proofs.unrolling.+word_of.Given as goal

abbrev pub decreases-word_of : goal.decreases-word_of
decreases-word_of l = goal.size-word_of l

abbrev pub invariant-loop-item : goal.invariant-loop-item
invariant-loop-item l = l.word ++ joined_words (drop l.item-index l.item-items) ≡ joined_words l.item-items
