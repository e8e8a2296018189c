use Rattle.std.proofs.Common.{◌≡◌, ◌++◌, string_bytes}
use Rattle.pres_text.specs.Text.{names_text}
use Rattle.pres_text.proofs.writing.put_names.Given as goal

abbrev pub invariant-names : goal.invariant-names
invariant-names l = string_bytes l.text ≡ string_bytes l.initial.text ++ names_text l.pres.names l.k
