use Rattle.std.proofs.Common.{◌≡◌, length}
use Rattle.left_collect.proofs.Walking.{cleared}
use Rattle.left_collect.proofs.entries.clear_behind.Given as goal

abbrev pub invariant-loop-k : goal.invariant-loop-k
invariant-loop-k l = record {
  size : length l.v ≡ length l.fn.v;
  cleared : l.v ≡ cleared l.fn.v l.generator l.k;
}
