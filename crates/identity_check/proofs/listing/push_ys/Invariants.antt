use Rattle.std.proofs.Common.{◌≡◌, ◌-◌, ◌++◌, map}
use Rattle.nil_word.specs.Exponents.{numbers}
use Rattle.binom_poly.specs.Variable.{y_of}
use Rattle.identity_check.proofs.listing.push_ys.Given as goal

abbrev pub invariant-loop-k : goal.invariant-loop-k
invariant-loop-k l = l.vars.items ≡ l.initial.vars.items ++ map y_of (numbers l.low (l.k - l.low))
