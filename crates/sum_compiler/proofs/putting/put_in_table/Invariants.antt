use Rattle.std.proofs.Common.{◌≡◌}
use Rattle.sum_compiler.proofs.PutSoFar.{PutSoFar}
use Rattle.sum_compiler.proofs.putting.put_in_table.Given as goal

abbrev pub invariant-loop-k : goal.invariant-loop-k
invariant-loop-k l = record {
  kept : l.substitution ≡ l.fn.substitution;
  so_far : PutSoFar l.step l.j l.table.level l.k l.fn.substitution l.table.polys l.made.items;
}
