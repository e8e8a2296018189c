-- Replies end at a line's end.
use Rattle.std.proofs.Common.{ℕ, ℤ, nat_lt, Bool, cond, true, false, inl, inr, List, length, Option, Some, None, Result, Ok, Err, refl, codes}
use Rattle.std.specs.Str.Lines.{strip_carriage_return}
use Rattle.nil_word.specs.declared.letter.Letter.{Letter}
use Rattle.nil_word.specs.declared.query.Query.{Query}
use Rattle.nil_word.specs.declared.query.Query.TheVariants as query
use Rattle.nil_word.specs.Expressions.{unrolled}
use Rattle.nil_pres.specs.Presented.{Presented}
use Rattle.nil_pres.specs.Relations.{relations_of}
use Rattle.left_collect.specs.Collected.{collection}
use Rattle.word_text.specs.declared.query_fault.QueryFault.{QueryFault}
use Rattle.word_text.specs.FaultTexts.{fault_text}
use Rattle.word_text.specs.Reading.{reading}
use Rattle.word_text.specs.Vectors.{text_of_entries}
use Rattle.session_io.specs.Limits.{line_limit}
use Rattle.session_io.specs.Lines.{as_line, EndsAtLine}
use Rattle.collect_text.specs.Limits.{letter_limit}
use Rattle.collect_text.specs.Replies.{vector_reply, word_reply, query_reply, reply_to, reply}

EndsAtLine-cond : (b : Bool) (t r : List ℕ) → EndsAtLine r → EndsAtLine (cond b (as_line t) r)
EndsAtLine-cond true t r h = inr (t, refl)
EndsAtLine-cond false t r h = h

EndsAtLine-vector_reply : (found : Option (List ℤ)) → EndsAtLine (vector_reply found)
EndsAtLine-vector_reply (Some v) = inr (text_of_entries v, refl)
EndsAtLine-vector_reply None = inr (codes "steps", refl)

EndsAtLine-word_reply : (p : Presented) (w : List Letter) → EndsAtLine (word_reply p w)
EndsAtLine-word_reply p w =
    EndsAtLine-cond (nat_lt letter_limit (length w)) (codes "longword")
    (vector_reply (collection (relations_of p) w))
    (EndsAtLine-vector_reply (collection (relations_of p) w))

EndsAtLine-query_reply : (p : Presented) (q : Query) → EndsAtLine (query_reply p q)
EndsAtLine-query_reply p (query.Value e) = EndsAtLine-word_reply p (unrolled e)
EndsAtLine-query_reply p (query.Same u v) = inr (codes "kind", refl)
EndsAtLine-query_reply p (query.Solve u v) = inr (codes "kind", refl)
EndsAtLine-query_reply p (query.Quotient u v) = inr (codes "kind", refl)
EndsAtLine-query_reply p query.Blank = inl refl

EndsAtLine-reply_to : (p : Presented) (found : Result Query QueryFault)
    → EndsAtLine (reply_to p found)
EndsAtLine-reply_to p (Ok q) = EndsAtLine-query_reply p q
EndsAtLine-reply_to p (Err f) = inr (fault_text f, refl)

pub EndsAtLine-reply : (p : Presented) (line : List ℕ) → EndsAtLine (reply p line)
unfolding reply
EndsAtLine-reply p line =
    EndsAtLine-cond (nat_lt line_limit (length line)) (codes "long")
    (reply_to p (reading p.names (strip_carriage_return line)))
    (EndsAtLine-reply_to p (reading p.names (strip_carriage_return line)))
