use Rattle.std.proofs.Common.{◌≡◌, ◌+◌}
use Rattle.integer.specs.Binomial.{choose}
use Rattle.nil_num.specs.Row.{RowOverflows}
use Rattle.nil_num.proofs.binomials.binomial.Given as goal

abbrev pub invariant-loop-k : goal.invariant-loop-k
invariant-loop-k l = (l.entry ≡ choose l.fn.x l.k) × ¬ RowOverflows l.fn.x (l.k + 1)
