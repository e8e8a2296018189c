use Rattle.std.proofs.Common.{◌≡◌, ◌++◌, string_bytes}
use Rattle.pres_text.specs.Text.{relations_text}
use Rattle.pres_text.proofs.writing.put_relations.Given as goal

abbrev pub invariant-generators : goal.invariant-generators
invariant-generators l = string_bytes l.text ≡ string_bytes l.initial.text ++ relations_text l.pres l.j
