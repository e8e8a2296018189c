use Rattle.std.proofs.Common.{◌≡◌, map, take}
use Rattle.table_json.specs.Format.{term_data}
use Rattle.table_json.specs.Reading.{data_of}
use Rattle.table_json.proofs.writing.poly_value.Given as goal

abbrev pub invariant-loop-term : goal.invariant-loop-term
invariant-loop-term l = data_of l.values.items ≡ map term_data (take l.term-index l.term-items)
