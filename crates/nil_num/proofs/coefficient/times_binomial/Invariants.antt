use Rattle.std.proofs.Common.{◌≡◌, ◌+◌, ◌*◌, ◌^◌, ◌<◌}
use Rattle.integer.specs.Binomial.{ways}
use Rattle.nil_num.proofs.coefficient.times_binomial.Given as goal

abbrev pub invariant-loop-j : goal.invariant-loop-j
invariant-loop-j l = (l.product ≡ l.fn.start * ways (l.fn.n + l.j) l.j) × (l.product < 2 ^ 127)
