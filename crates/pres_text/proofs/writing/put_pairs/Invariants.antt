use Rattle.std.proofs.Common.{◌≡◌, ◌++◌, string_bytes}
use Rattle.pres_text.specs.Text.{pairs_text}
use Rattle.pres_text.proofs.writing.put_pairs.Given as goal

abbrev pub invariant-pairs : goal.invariant-pairs
invariant-pairs l = string_bytes l.text ≡ string_bytes l.initial.text ++ pairs_text l.pres l.j l.i
