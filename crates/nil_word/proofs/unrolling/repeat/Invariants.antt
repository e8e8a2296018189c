use Rattle.std.proofs.Common.{◌≡◌}
use Rattle.nil_word.specs.Expressions.{repeated}
use Rattle.nil_word.proofs.unrolling.repeat.Given as goal

abbrev pub invariant-repeating : goal.invariant-repeating
invariant-repeating l = l.word ≡ repeated l._i l.base
