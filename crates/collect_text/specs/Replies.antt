-- Replies to query lines by the collector over a presentation, as they are computed.
--   vector_reply found   the vector of a collection as a line, or `steps` where there is none
--   word_reply p w       what is written for a word
--   query_reply p q      what is written for a query
--   reply_to p found     what is written for a line that is read so
--   reply p line         what is written for a query line, with its line feed; nothing for a blank
--                        one
-- p a presentation · w word · q query
use Rattle.std.specs.Prelude.{ℕ, ℤ, nat_lt, List, [], length, Option, Some, None, Result, Ok, Err, codes, if◌then◌else◌}
use Rattle.std.specs.Str.Lines.{strip_carriage_return}
use Rattle.nil_word.specs.declared.letter.Letter.{Letter}
use Rattle.nil_word.specs.declared.query.Query.{Query}
use Rattle.nil_word.specs.declared.query.Query.TheVariants as query
use Rattle.nil_word.specs.Expressions.{unrolled}
use Rattle.nil_pres.specs.Presented.{Presented}
use Rattle.nil_pres.specs.Relations.{relations_of}
use Rattle.left_collect.specs.Collected.{collection}
use Rattle.word_text.specs.declared.query_fault.QueryFault.{QueryFault}
use Rattle.word_text.specs.FaultTexts.{fault_text}
use Rattle.word_text.specs.Reading.{reading}
use Rattle.word_text.specs.Vectors.{text_of_entries}
use Rattle.session_io.specs.Limits.{line_limit}
use Rattle.session_io.specs.Lines.{as_line}
use Rattle.collect_text.specs.Limits.{letter_limit}

abbrev pub vector_reply : Option (List ℤ) → List ℕ
vector_reply (Some v) = as_line (text_of_entries v)
vector_reply None = as_line (codes "steps")

abbrev pub word_reply : Presented → List Letter → List ℕ
word_reply p w =
    if nat_lt letter_limit (length w) then as_line (codes "longword")
    else vector_reply (collection (relations_of p) w)

abbrev pub query_reply : Presented → Query → List ℕ
query_reply p (query.Value e) = word_reply p (unrolled e)
query_reply p query.Blank = []
query_reply p q = as_line (codes "kind")

abbrev pub reply_to : Presented → Result Query QueryFault → List ℕ
reply_to p (Ok q) = query_reply p q
reply_to p (Err f) = as_line (fault_text f)

-- unfolded only where a proof asks for it: a check that compares bodies goes down the budget of
-- the collection
unfoldable pub reply : Presented → List ℕ → List ℕ
reply p line =
    if nat_lt line_limit (length line) then as_line (codes "long")
    else reply_to p (reading p.names (strip_carriage_return line))
