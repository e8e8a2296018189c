use Rattle.nil_word.specs.Words.{IsWordIn}
use Rattle.left_collect.proofs.tests.word_in.Given as goal

abbrev pub invariant-loop-letter : goal.invariant-loop-letter
invariant-loop-letter l = IsWordIn 1 l.n l.word
