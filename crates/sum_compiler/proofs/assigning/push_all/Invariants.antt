use Rattle.std.proofs.Common.{◌≡◌, ◌+◌, ◌++◌, length}
use Rattle.sum_compiler.specs.Putting.{in_place}
use Rattle.sum_compiler.proofs.assigning.push_all.Given as goal

abbrev pub invariant-loop-to : goal.invariant-loop-to
invariant-loop-to l = record {
  counts : l.var ≡ l.first + length l.yielded;
  listed : l.list.items ≡ l.initial.list.items ++ in_place l.first l.yielded;
}
