-- The texts of faults.
--   key_text key        a key as the file writes it
--   fault_text fault    the text of a fault, want of memory too
use Rattle.std.specs.Prelude.{ℕ, List, ◌++◌, codes}
use Rattle.std.specs.Fmt.{decimal}
use Rattle.table_json.specs.declared.key.Key.{Key}
use Rattle.table_json.specs.declared.key.Key.TheVariants.{Format, Generators, Level, Polynomials}
use Rattle.table_json.specs.declared.table_fault.TableFault.{TableFault}
use Rattle.table_json.specs.declared.table_fault.TableFault.TheVariants as fault

abbrev pub key_text : Key → List ℕ
key_text Format = codes "format"
key_text Generators = codes "generators"
key_text Level = codes "level"
key_text Polynomials = codes "polynomials"

abbrev pub fault_text : TableFault → List ℕ
fault_text fault.Json = codes "table json"
fault_text (fault.Field key) = codes "table field " ++ key_text key
fault_text fault.Number = codes "table number"
fault_text fault.Order = codes "table order"
fault_text (fault.Shape k) = codes "table shape " ++ decimal k
fault_text fault.Memory = codes "want of memory"
