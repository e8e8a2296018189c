-- Replies to query lines by a table of a presentation, as they are computed.
--   reply_text r         the text of a reply
--   line_of r            the reply as a line; nothing where it is Nothing
--   reply_to c found     what is written for a line that is read so
--   reply c line         what is written for a query line, with its line feed; nothing for a blank
--                        one
--   found_reply c found  the reply to a line that is read so; None where that isn't a query
--   reply_of c line      the reply to a line; None where it isn't a query
-- c a presentation with its table · r reply
use Rattle.std.specs.Prelude.{ℕ, nat_lt, List, [], length, Option, Some, None, Result, Ok, Err, codes, if◌then◌else◌}
use Rattle.std.specs.Str.Lines.{strip_carriage_return}
use Rattle.nil_word.specs.declared.query.Query.{Query}
use Rattle.word_text.specs.declared.query_fault.QueryFault.{QueryFault}
use Rattle.word_text.specs.FaultTexts.{fault_text}
use Rattle.word_text.specs.Reading.{reading}
use Rattle.word_text.specs.Vectors.{text_of_entries}
use Rattle.hall_table.specs.Multiplies.{Paired}
use Rattle.group_eval.specs.declared.reply.Reply.{Reply}
use Rattle.group_eval.specs.declared.reply.Reply.TheVariants as reply_kind
use Rattle.group_eval.specs.Queries.{answered}
use Rattle.session_io.specs.Limits.{line_limit}
use Rattle.session_io.specs.Lines.{as_line}

abbrev pub reply_text : Reply → List ℕ
reply_text (reply_kind.Vector v) = text_of_entries v
reply_text reply_kind.Yes = codes "yes"
reply_text reply_kind.No = codes "no"
reply_text reply_kind.Wide = codes "wide"
reply_text reply_kind.Nothing = []

abbrev pub line_of : Reply → List ℕ
line_of reply_kind.Nothing = []
line_of r = as_line (reply_text r)

abbrev pub reply_to : Paired → Result Query QueryFault → List ℕ
reply_to c (Ok q) = line_of (answered c.table q)
reply_to c (Err f) = as_line (fault_text f)

abbrev pub reply : Paired → List ℕ → List ℕ
reply c line =
    if nat_lt line_limit (length line) then as_line (codes "long")
    else reply_to c (reading c.pres.names (strip_carriage_return line))

abbrev pub found_reply : Paired → Result Query QueryFault → Option Reply
found_reply c (Ok q) = Some (answered c.table q)
found_reply c (Err f) = None

abbrev pub reply_of : Paired → List ℕ → Option Reply
reply_of c line =
    if nat_lt line_limit (length line) then None
    else found_reply c (reading c.pres.names (strip_carriage_return line))
