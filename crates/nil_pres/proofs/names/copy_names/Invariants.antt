use Rattle.std.proofs.Common.{◌≡◌, map, take, string_bytes}
use Rattle.nil_pres.proofs.names.copy_names.Given as goal

abbrev pub invariant-loop-name : goal.invariant-loop-name
invariant-loop-name l = map string_bytes l.copy.keys ≡ take l.name-index (map string_bytes l.names.keys)
