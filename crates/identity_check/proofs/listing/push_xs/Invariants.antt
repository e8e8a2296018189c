use Rattle.std.proofs.Common.{◌≡◌, ◌-◌, ◌++◌}
use Rattle.nil_word.specs.Exponents.{numbers}
use Rattle.identity_check.proofs.listing.push_xs.Given as goal

abbrev pub invariant-loop-k : goal.invariant-loop-k
invariant-loop-k l = l.vars.items ≡ l.initial.vars.items ++ numbers l.low (l.k - l.low)
