-- What is refused before the output, with its text.
--   plain status      a status whose text names no generator
--   text_or own text  the text, or its own where there is none
--   said r            the bytes that a refusal writes
--   Says names r      they are the lines of its status over a presentation with these names
-- r refusal
use Rattle.std.specs.Prelude.{◌≡◌, ℕ, List, Option, Some, None, String, string_bytes}
use Rattle.std.specs.declared.alloc.Global.{Global}
use Rattle.session_io.specs.Lines.{as_lines}
use Rattle.query_session.specs.declared.refusal.Refusal.{Refusal}
use Rattle.query_session.specs.declared.status.Status.{Status}
use Rattle.query_session.specs.Statuses.{plain_text, text_of}

abbrev pub plain : Status → Refusal
plain status = record { status = status; text = None }

abbrev pub text_or : List ℕ → Option (String Global) → List ℕ
text_or own None = own
text_or own (Some text) = string_bytes text

abbrev pub said : Refusal → List ℕ
said r = text_or (as_lines (plain_text r.status)) r.text

abbrev pub Says : List (List ℕ) → Refusal → Type 0
Says names r = said r ≡ as_lines (text_of names r.status)
