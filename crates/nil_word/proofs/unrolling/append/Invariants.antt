use Rattle.std.proofs.Common.{◌≡◌, ◌++◌, take}
use Rattle.nil_word.proofs.unrolling.append.Given as goal

abbrev pub invariant-loop-letter : goal.invariant-loop-letter
invariant-loop-letter l = l.word ≡ l.initial.word ++ take l.letter-index l.letter-items
