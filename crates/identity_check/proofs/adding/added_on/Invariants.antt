use Rattle.std.specs.Prelude.{All}
use Rattle.hall_table.specs.Tabled.{last_of}
use Rattle.identity_check.specs.Adding.{IsAddedOn}
use Rattle.identity_check.specs.Drawing.{AreGenerators}
use Rattle.identity_check.proofs.adding.added_on.Given as goal

abbrev pub invariant-loop-m : goal.invariant-loop-m
invariant-loop-m l = record {
  generators : AreGenerators l.table.level (last_of l.table) l.added.items;
  added : All (IsAddedOn l.table) l.added.items;
}
