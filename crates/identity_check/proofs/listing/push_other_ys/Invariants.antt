use Rattle.std.proofs.Common.{◌≡◌, ◌-◌, ◌++◌}
use Rattle.nil_word.specs.Exponents.{numbers}
use Rattle.identity_check.proofs.Holding.{others}
use Rattle.identity_check.proofs.listing.push_other_ys.Given as goal

abbrev pub invariant-loop-k : goal.invariant-loop-k
invariant-loop-k l = l.vars.items ≡ l.initial.vars.items ++ others l.j (numbers l.low (l.k - l.low))
