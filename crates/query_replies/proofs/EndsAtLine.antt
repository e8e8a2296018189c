-- Replies end at a line's end.
use Rattle.std.proofs.Common.{◌≡◌, ℕ, nat_lt, Bool, cond, true, false, inl, inr, List, length, Result, Ok, Err, IfOk, String, string_bytes, refl, sym, subst, codes}
use Rattle.std.specs.declared.alloc.Global.{Global}
use Rattle.std.proofs.lemmas.Result.{IfOk-weaker}
use Rattle.std.specs.Str.Lines.{strip_carriage_return}
use Rattle.nil_word.specs.declared.query.Query.{Query}
use Rattle.word_text.specs.declared.query_fault.QueryFault.{QueryFault}
use Rattle.word_text.specs.FaultTexts.{fault_text}
use Rattle.word_text.specs.Reading.{reading}
use Rattle.hall_table.specs.Multiplies.{Paired}
use Rattle.group_eval.specs.declared.reply.Reply.{Reply}
use Rattle.group_eval.specs.declared.reply.Reply.TheVariants as reply_kind
use Rattle.group_eval.specs.Queries.{answered}
use Rattle.session_io.specs.Limits.{line_limit}
use Rattle.session_io.specs.Lines.{as_line, EndsAtLine}
use Rattle.query_replies.specs.Replies.{reply_text, line_of, reply_to, reply}

EndsAtLine-line_of : (r : Reply) → EndsAtLine (line_of r)
EndsAtLine-line_of reply_kind.Nothing = inl refl
EndsAtLine-line_of (reply_kind.Vector v) = inr (reply_text (reply_kind.Vector v), refl)
EndsAtLine-line_of reply_kind.Yes = inr (codes "yes", refl)
EndsAtLine-line_of reply_kind.No = inr (codes "no", refl)
EndsAtLine-line_of reply_kind.Wide = inr (codes "wide", refl)

EndsAtLine-reply_to : (c : Paired) (found : Result Query QueryFault) → EndsAtLine (reply_to c found)
EndsAtLine-reply_to c (Ok q) = EndsAtLine-line_of (answered c.table q)
EndsAtLine-reply_to c (Err f) = inr (fault_text f, refl)

EndsAtLine-cond : (b : Bool) (t r : List ℕ) → EndsAtLine r → EndsAtLine (cond b (as_line t) r)
EndsAtLine-cond true t r h = inr (t, refl)
EndsAtLine-cond false t r h = h

pub EndsAtLine-reply : (c : Paired) (line : List ℕ) → EndsAtLine (reply c line)
EndsAtLine-reply c line =
    EndsAtLine-cond (nat_lt line_limit (length line)) (codes "long")
    (reply_to c (reading c.pres.names (strip_carriage_return line)))
    (EndsAtLine-reply_to c (reading c.pres.names (strip_carriage_return line)))

pub EndsAtLine-text : {E : Type 0} (text : Result (String Global) E) (c : Paired) (line : List ℕ)
    → IfOk text (λ t. string_bytes t ≡ reply c line) → IfOk text (λ t. EndsAtLine (string_bytes t))
EndsAtLine-text text c line =
    IfOk-weaker text (λ t. string_bytes t ≡ reply c line) (λ t. EndsAtLine (string_bytes t))
    (λ t h. subst EndsAtLine (sym h) (EndsAtLine-reply c line))
