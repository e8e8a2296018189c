-- Which replies are right, in words of the group, whatever computes them.
--   IsQuery p line q      the line is within the limit, and without a carriage return at its end
--                         it is in the grammar, with this query
--   IsFaulty p line f     it is within the limit, and its first fault is this one
--   IsReply c line text   the text is the reply to the line, by the table of c
-- p a presentation · c one with its table · q query · f fault · r reply
use Rattle.std.specs.Prelude.{ℕ, ◌<◌, ◌≤◌, List, length, codes}
use Rattle.std.specs.Str.Lines.{strip_carriage_return}
use Rattle.nil_word.specs.declared.query.Query.{Query}
use Rattle.nil_pres.specs.Presented.{Presented}
use Rattle.nil_pres.specs.Relations.{relations_of}
use Rattle.word_text.specs.declared.query_fault.QueryFault.{QueryFault}
use Rattle.word_text.specs.FaultTexts.{fault_text}
use Rattle.word_text.specs.Lines.{ReadsAs, FailsWith}
use Rattle.hall_table.specs.Multiplies.{Paired}
use Rattle.group_eval.specs.declared.reply.Reply.{Reply}
use Rattle.group_eval.specs.Queries.{IsWide}
use Rattle.group_eval.specs.Right.{IsRightReply}
use Rattle.session_io.specs.Limits.{line_limit}
use Rattle.session_io.specs.Lines.{as_line}
use Rattle.query_replies.specs.Replies.{line_of}

pub record IsQuery (p : Presented) (line : List ℕ) (q : Query) : Type 0 where
  pub within : length line ≤ line_limit
  pub reads : ReadsAs p.names (strip_carriage_return line) q

pub record IsFaulty (p : Presented) (line : List ℕ) (f : QueryFault) : Type 0 where
  pub within : length line ≤ line_limit
  pub fails : FailsWith p.names (strip_carriage_return line) f

pub data IsReply (c : Paired) (line : List ℕ) : List ℕ → Type 0 where
  long : line_limit < length line → IsReply c line (as_line (codes "long"))
  faulty : (f : QueryFault) → IsFaulty c.pres line f → IsReply c line (as_line (fault_text f))
  -- a value on the way overflows 128 bits by the table
  wide : (q : Query) → IsQuery c.pres line q → IsWide c.table q
      → IsReply c line (as_line (codes "wide"))
  -- nothing where the line is blank
  right : (q : Query) (r : Reply) → IsQuery c.pres line q → (IsWide c.table q → ⊥)
      → IsRightReply (relations_of c.pres) q r → IsReply c line (line_of r)
