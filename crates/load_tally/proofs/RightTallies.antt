-- The answers that are computed are the right ones.
use Rattle.std.proofs.Common.{◌≡◌, ◌↔◌, ℕ, ◌≤◌, nat_lt, Bool, cond, true, false, List, [], ◌∷◌, length, Some, None, Result, Ok, Err, refl, subst, arith}
use Rattle.std.specs.Str.Lines.{strip_carriage_return}
use Rattle.std.proofs.lemmas.Bool.{ltb-true, ltb-false}
use Rattle.nil_word.specs.declared.query.Query.{Query}
use Rattle.nil_word.specs.Queries.{IsShapedQuery}
use Rattle.nil_pres.specs.Presented.{IsPresented}
use Rattle.nil_pres.specs.Relations.{relations_of}
use Rattle.hall_table.specs.Tabled.{IsTabled}
use Rattle.hall_table.specs.Multiplies.{Paired, IsChecked}
use Rattle.word_text.specs.declared.query_fault.QueryFault.{QueryFault}
use Rattle.word_text.specs.Lines.{ReadsAs}
use Rattle.word_text.specs.Reading.{reading}
use Rattle.group_eval.specs.declared.reply.Reply.{Reply}
use Rattle.group_eval.specs.declared.reply.Reply.TheVariants as reply
use Rattle.group_eval.specs.Queries.{answered, IsWide}
use Rattle.group_eval.specs.Right.{IsRightReply}
use Rattle.group_eval.specs.Laws.{OfChecked, AnsweredIs}
use Rattle.session_io.specs.Limits.{line_limit}
use Rattle.query_replies.specs.Replies.{found_reply, reply_of}
use Rattle.query_replies.specs.Right.{IsQuery}
use Rattle.load_tally.specs.Answers.{IsAnswerTo, none, wide, right, AreAnswersTo, answers_to}
use Rattle.load_tally.specs.Tallies.{IsTally, tally_of}

module _ (c : Paired)
    (reads : (line : List ℕ) (q : Query) → ReadsAs c.pres.names line q ↔ (reading c.pres.names line ≡ Ok q))
    (shaped : (line : List ℕ) (q : Query) → ReadsAs c.pres.names line q → IsShapedQuery (length c.pres.names) q)
    (rightly : (q : Query) → IsShapedQuery (length c.pres.names) q → (IsWide c.table q → ⊥)
    → IsRightReply (relations_of c.pres) q (answered c.table q)) where
  module _ (line : List ℕ) (q : Query) (h : IsQuery c.pres line q) where
    not_wide : (r : Reply) → answered c.table q ≡ r → (r ≡ reply.Wide → ⊥)
        → IsAnswerTo c line (Some r)
    not_wide r e other =
        let narrow : IsWide c.table q → ⊥ = λ w. let same : r ≡ reply.Wide = cc in other same in
        right q r h narrow
        (subst (IsRightReply (relations_of c.pres) q) e
        (rightly q (shaped (strip_carriage_return line) q h.reads) narrow))

    IsAnswerTo-answered : IsAnswerTo c line (Some (answered c.table q))
    IsAnswerTo-answered = at (answered c.table q) refl
      where
        at : (r : Reply) → answered c.table q ≡ r → IsAnswerTo c line (Some r)
        at reply.Wide e = wide q h e
        at (reply.Vector v) e = not_wide (reply.Vector v) e (λ same. cc)
        at reply.Yes e = not_wide reply.Yes e (λ same. cc)
        at reply.No e = not_wide reply.No e (λ same. cc)
        at reply.Nothing e = not_wide reply.Nothing e (λ same. cc)

  no_query : (line : List ℕ) (f : QueryFault) (q : Query)
      → reading c.pres.names (strip_carriage_return line) ≡ Err f → IsQuery c.pres line q → ⊥
  no_query line f q e h =
      let read : reading c.pres.names (strip_carriage_return line) ≡ Ok q =
      (reads (strip_carriage_return line) q).0 h.reads in
      cc

  IsAnswerTo-found_reply : (line : List ℕ) → length line ≤ line_limit
      → IsAnswerTo c line (found_reply c (reading c.pres.names (strip_carriage_return line)))
  IsAnswerTo-found_reply line within = at (reading c.pres.names (strip_carriage_return line)) refl
    where
      at : (found : Result Query QueryFault) → reading c.pres.names (strip_carriage_return line) ≡ found
          → IsAnswerTo c line (found_reply c found)
      at (Ok q) e =
          IsAnswerTo-answered line q
          (record { within = within; reads = (reads (strip_carriage_return line) q).1 e })
      at (Err f) e = none (λ q h. no_query line f q e h)

  IsAnswerTo-reply_of : (line : List ℕ) → IsAnswerTo c line (reply_of c line)
  IsAnswerTo-reply_of line = at (nat_lt line_limit (length line)) refl
    where
      at : (b : Bool) → nat_lt line_limit (length line) ≡ b
          → IsAnswerTo c line
          (cond b None (found_reply c (reading c.pres.names (strip_carriage_return line))))
      at true e =
          let long = ltb-true line_limit (length line) e in
          none (λ q h. omega (arith, long, h.within))
      at false e = IsAnswerTo-found_reply line (ltb-false line_limit (length line) e)

  AreAnswersTo-answers_to : (lines : List (List ℕ)) → AreAnswersTo c lines (answers_to c lines)
  AreAnswersTo-answers_to [] = tt
  AreAnswersTo-answers_to (line ∷ lines) =
      (IsAnswerTo-reply_of line, AreAnswersTo-answers_to lines)

-- by the law of replies
pub IsTally-checked : OfChecked AnsweredIs → (c : Paired)
    → ((line : List ℕ) (q : Query) → ReadsAs c.pres.names line q ↔ (reading c.pres.names line ≡ Ok q))
    → ((line : List ℕ) (q : Query) → ReadsAs c.pres.names line q
    → IsShapedQuery (length c.pres.names) q)
    → (lines : List (List ℕ)) → IsPresented c.pres → IsTabled c.table → IsChecked c
    → c.table.level ≡ 1 → IsTally c lines (tally_of c lines)
IsTally-checked answers c reads shaped lines presented tabled checked level = record {
  answers = answers_to c lines;
  are = AreAnswersTo-answers_to c reads shaped
      (λ q shape narrow. answers c presented tabled checked q level shape narrow) lines;
  counted = refl;
}
