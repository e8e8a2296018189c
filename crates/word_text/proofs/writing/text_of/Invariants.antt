use Rattle.std.proofs.Common.{◌≡◌, take, string_bytes}
use Rattle.word_text.specs.Texts.{text_of}
use Rattle.word_text.proofs.writing.text_of.Given as goal

abbrev pub invariant-loop-kind : goal.invariant-loop-kind
invariant-loop-kind l = string_bytes l.text ≡ text_of l.pres.names (take l.kind-index l.tokens)
