use Rattle.std.proofs.Common.{◌≡◌, ◌++◌, drop}
use Rattle.nil_word.specs.Words.{inverse}
use Rattle.nil_word.proofs.unrolling.append_inverse.Given as goal

abbrev pub invariant-loop-i : goal.invariant-loop-i
invariant-loop-i l = l.word ≡ l.initial.word ++ inverse (drop l.i l.letters)
