use Rattle.std.proofs.Common.{◌≡◌, take, string_bytes}
use Rattle.word_text.specs.Vectors.{text_of_entries}
use Rattle.word_text.proofs.vectors.vector_text.Given as goal

abbrev pub invariant-loop-i : goal.invariant-loop-i
invariant-loop-i l = string_bytes l.text ≡ text_of_entries (take l.i l.entries)
