use Rattle.std.proofs.Common.{◌≡◌, ◌-◌, ◌≤◌, map, take}
use Rattle.table_json.specs.Format.{poly_data}
use Rattle.table_json.specs.Reading.{data_of}
use Rattle.table_json.proofs.writing.poly_values.Given as goal

abbrev pub invariant-loop-k : goal.invariant-loop-k
invariant-loop-k l = record {
  least : 1 ≤ l.k;
  made : data_of l.values.items ≡ map poly_data (take (l.k - 1) l.table.polys);
}
