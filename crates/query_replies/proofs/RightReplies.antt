-- The reply that is computed is the right one.
use Rattle.std.proofs.Common.{◌≡◌, ◌↔◌, ℕ, ◌≤◌, nat_lt, Bool, cond, true, false, List, length, Result, Ok, Err, refl, subst, codes}
use Rattle.std.specs.Str.Lines.{strip_carriage_return}
use Rattle.std.proofs.lemmas.Bool.{ltb-true, ltb-false}
use Rattle.nil_word.specs.declared.query.Query.{Query}
use Rattle.nil_word.specs.Queries.{IsShapedQuery}
use Rattle.hall_table.specs.Multiplies.{Paired, IsChecked}
use Rattle.hall_table.specs.Tabled.{IsTabled}
use Rattle.nil_pres.specs.Presented.{IsPresented}
use Rattle.nil_pres.specs.Relations.{relations_of}
use Rattle.word_text.specs.declared.query_fault.QueryFault.{QueryFault}
use Rattle.word_text.specs.Lines.{ReadsAs, FailsWith}
use Rattle.word_text.specs.Reading.{reading}
use Rattle.group_eval.specs.declared.reply.Reply.{Reply}
use Rattle.group_eval.specs.declared.reply.Reply.TheVariants as reply_kind
use Rattle.group_eval.specs.Queries.{answered, IsWide}
use Rattle.group_eval.specs.Right.{IsRightReply}
use Rattle.group_eval.specs.Laws.{OfChecked, AnsweredIs}
use Rattle.session_io.specs.Limits.{line_limit}
use Rattle.session_io.specs.Lines.{as_line}
use Rattle.query_replies.specs.Replies.{line_of, reply_to, reply}
use Rattle.query_replies.specs.Right.{IsQuery, IsReply, long, faulty, wide, right}

module _ (c : Paired)
    (reads : (line : List ℕ) (q : Query) → ReadsAs c.pres.names line q ↔ (reading c.pres.names line ≡ Ok q))
    (fails : (line : List ℕ) (f : QueryFault)
    → FailsWith c.pres.names line f ↔ (reading c.pres.names line ≡ Err f))
    (shaped : (line : List ℕ) (q : Query) → ReadsAs c.pres.names line q → IsShapedQuery (length c.pres.names) q)
    (rightly : (q : Query) → IsShapedQuery (length c.pres.names) q → (IsWide c.table q → ⊥)
    → IsRightReply (relations_of c.pres) q (answered c.table q)) where
  module _ (line : List ℕ) (q : Query) (h : IsQuery c.pres line q) where
    not_wide : (r : Reply) → answered c.table q ≡ r → (r ≡ reply_kind.Wide → ⊥)
        → IsReply c line (line_of r)
    not_wide r e other =
        let narrow : IsWide c.table q → ⊥ =
        λ w. let same : r ≡ reply_kind.Wide = cc in other same in
        right q r h narrow
        (subst (IsRightReply (relations_of c.pres) q) e
        (rightly q (shaped (strip_carriage_return line) q h.reads) narrow))

    IsReply-answered : IsReply c line (line_of (answered c.table q))
    IsReply-answered = at (answered c.table q) refl
      where
        at : (r : Reply) → answered c.table q ≡ r → IsReply c line (line_of r)
        at reply_kind.Wide e = wide q h e
        at (reply_kind.Vector v) e = not_wide (reply_kind.Vector v) e (λ same. cc)
        at reply_kind.Yes e = not_wide reply_kind.Yes e (λ same. cc)
        at reply_kind.No e = not_wide reply_kind.No e (λ same. cc)
        at reply_kind.Nothing e = not_wide reply_kind.Nothing e (λ same. cc)

  IsReply-reply_to : (line : List ℕ) → length line ≤ line_limit
      → IsReply c line (reply_to c (reading c.pres.names (strip_carriage_return line)))
  IsReply-reply_to line within = at (reading c.pres.names (strip_carriage_return line)) refl
    where
      at : (found : Result Query QueryFault) → reading c.pres.names (strip_carriage_return line) ≡ found
          → IsReply c line (reply_to c found)
      at (Ok q) e =
          IsReply-answered line q
          (record { within = within; reads = (reads (strip_carriage_return line) q).1 e })
      at (Err f) e =
          faulty f (record { within = within; fails = (fails (strip_carriage_return line) f).1 e })

  IsReply-reply : (line : List ℕ) → IsReply c line (reply c line)
  IsReply-reply line = at (nat_lt line_limit (length line)) refl
    where
      at : (b : Bool) → nat_lt line_limit (length line) ≡ b
          → IsReply c line
          (cond b (as_line (codes "long"))
          (reply_to c (reading c.pres.names (strip_carriage_return line))))
      at true e = long (ltb-true line_limit (length line) e)
      at false e = IsReply-reply_to line (ltb-false line_limit (length line) e)

-- by the law of replies
pub IsReply-checked : OfChecked AnsweredIs → (c : Paired)
    → ((line : List ℕ) (q : Query) → ReadsAs c.pres.names line q ↔ (reading c.pres.names line ≡ Ok q))
    → ((line : List ℕ) (f : QueryFault)
    → FailsWith c.pres.names line f ↔ (reading c.pres.names line ≡ Err f))
    → ((line : List ℕ) (q : Query) → ReadsAs c.pres.names line q
    → IsShapedQuery (length c.pres.names) q)
    → (line : List ℕ) → IsPresented c.pres → IsTabled c.table → IsChecked c → c.table.level ≡ 1
    → IsReply c line (reply c line)
IsReply-checked answers c reads fails shaped line presented tabled checked level =
    IsReply-reply c reads fails shaped
    (λ q shape narrow. answers c presented tabled checked q level shape narrow) line
