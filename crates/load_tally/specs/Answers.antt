-- What lines get, in words of the group.
--   IsAnswerTo c line a            the reply to the line; None where it isn't a query
--   AreAnswersTo c lines answers   those to the lines, in their order
--   answers_to c lines             those that are computed
-- c a presentation with its table · q query · r reply · a answer
use Rattle.std.specs.Prelude.{ℕ, List, [], ◌∷◌, map, Option, Some, None}
use Rattle.nil_word.specs.declared.query.Query.{Query}
use Rattle.nil_pres.specs.Relations.{relations_of}
use Rattle.hall_table.specs.Multiplies.{Paired}
use Rattle.group_eval.specs.declared.reply.Reply.{Reply}
use Rattle.group_eval.specs.declared.reply.Reply.TheVariants as reply
use Rattle.group_eval.specs.Queries.{IsWide}
use Rattle.group_eval.specs.Right.{IsRightReply}
use Rattle.query_replies.specs.Right.{IsQuery}
use Rattle.query_replies.specs.Replies.{reply_of}

pub data IsAnswerTo (c : Paired) (line : List ℕ) : Option Reply → Type 0 where
  -- it is long, or it has a fault
  none : ((q : Query) → IsQuery c.pres line q → ⊥) → IsAnswerTo c line None
  -- a value on the way overflows 128 bits by the table
  wide : (q : Query) → IsQuery c.pres line q → IsWide c.table q
      → IsAnswerTo c line (Some reply.Wide)
  right : (q : Query) (r : Reply) → IsQuery c.pres line q → (IsWide c.table q → ⊥)
      → IsRightReply (relations_of c.pres) q r → IsAnswerTo c line (Some r)

abbrev pub AreAnswersTo : Paired → List (List ℕ) → List (Option Reply) → Type 0
AreAnswersTo c [] [] = Unit {0}
AreAnswersTo c [] (a ∷ answers) = ⊥
AreAnswersTo c (line ∷ lines) [] = ⊥
AreAnswersTo c (line ∷ lines) (a ∷ answers) = IsAnswerTo c line a × AreAnswersTo c lines answers

abbrev pub answers_to : Paired → List (List ℕ) → List (Option Reply)
answers_to c lines = map (reply_of c) lines
