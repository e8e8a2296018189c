use Rattle.std.proofs.Common.{length}
use Rattle.table_json.specs.Reading.{data_of}
use Rattle.table_json.proofs.Pairs.{Joins, Leaves}
use Rattle.table_json.proofs.parts.parts.Given as goal

abbrev pub invariant-parts : goal.invariant-parts
invariant-parts l = record {
  joins : Joins l.n (data_of l.values) l.found.items (data_of l.rest);
  leaves : Leaves l.n (data_of l.values) (data_of l.rest);
}

abbrev pub decreases-parts : goal.decreases-parts
decreases-parts l = length l.rest
