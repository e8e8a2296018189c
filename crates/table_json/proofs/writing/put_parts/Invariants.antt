use Rattle.std.proofs.Common.{◌≡◌, ◌++◌, take}
use Rattle.table_json.specs.Format.{parts_data}
use Rattle.table_json.specs.Reading.{data_of}
use Rattle.table_json.proofs.writing.put_parts.Given as goal

abbrev pub invariant-loop-part : goal.invariant-loop-part
invariant-loop-part l =
    data_of l.values.items
    ≡ data_of l.fn.values.items ++ parts_data (take l.part-index l.parts)
