use Rattle.std.proofs.Common.{◌≡◌}
use Rattle.nested_poly.proofs.indexing.add_root.Given as goal

abbrev pub invariant-loop-place : goal.invariant-loop-place
invariant-loop-place l = l.groups.items ≡ l.initial.groups.items
