-- The reply that is computed is the right one.
--   p presentation · q query · f fault · e expression
use Rattle.std.proofs.Common.{◌≡◌, ◌↔◌, ℕ, ◌≤◌, nat_lt, Bool, cond, true, false, ℤ, List, length, Option, Some, None, Result, Ok, Err, refl, codes}
use Rattle.std.specs.Str.Lines.{strip_carriage_return}
use Rattle.std.proofs.lemmas.Bool.{ltb-true, ltb-false}
use Rattle.nil_word.specs.declared.expr.Expr.{Expr}
use Rattle.nil_word.specs.declared.query.Query.{Query}
use Rattle.nil_word.specs.declared.query.Query.TheVariants as query
use Rattle.nil_word.specs.Expressions.{unrolled}
use Rattle.nil_word.specs.Queries.{IsShapedQuery}
use Rattle.nil_pres.specs.Presented.{Presented, IsPresented}
use Rattle.nil_pres.specs.Relations.{relations_of}
use Rattle.left_collect.specs.Collected.{collection}
use Rattle.word_text.specs.declared.query_fault.QueryFault.{QueryFault}
use Rattle.word_text.specs.Lines.{ReadsAs, FailsWith}
use Rattle.word_text.specs.Reading.{reading}
use Rattle.session_io.specs.Limits.{line_limit}
use Rattle.session_io.specs.Lines.{as_line}
use Rattle.collect_text.specs.Limits.{letter_limit}
use Rattle.collect_text.specs.Replies.{vector_reply, query_reply, reply_to, reply}
use Rattle.collect_text.specs.Right.{IsQuery, IsElement, IsCollected, long, faulty, blank, kind, long_word, steps, vector}
use Rattle.collect_text.proofs.Inside.{unrolled_in}
use Rattle.collect_text.proofs.Collections.{IsVectorOf-collection}

module _ (p : Presented) (lawful : IsPresented p)
    (reads : (line : List ℕ) (q : Query) → ReadsAs p.names line q ↔ (reading p.names line ≡ Ok q))
    (fails : (line : List ℕ) (f : QueryFault)
    → FailsWith p.names line f ↔ (reading p.names line ≡ Err f))
    (shaped : (line : List ℕ) (q : Query) → ReadsAs p.names line q → IsShapedQuery (length p.names) q) where
  module _ (line : List ℕ) where
    IsCollected-vector_reply : (e : Expr) → IsElement p line e
        → IsCollected p line (vector_reply (collection (relations_of p) (unrolled e)))
    IsCollected-vector_reply e h = at (collection (relations_of p) (unrolled e)) refl
      where
        at : (found : Option (List ℤ)) → collection (relations_of p) (unrolled e) ≡ found
            → IsCollected p line (vector_reply found)
        at None c = steps e h c
        at (Some v) c =
            vector e v h
            (IsVectorOf-collection p lawful (unrolled e)
            (unrolled_in (length p.names) e
            (shaped (strip_carriage_return line) (query.Value e) h.asks.reads)) v c)

    IsCollected-query_reply : (q : Query) → IsQuery p line q → IsCollected p line (query_reply p q)
    IsCollected-query_reply (query.Value e) h = at (nat_lt letter_limit (length (unrolled e))) refl
      where
        at : (b : Bool) → nat_lt letter_limit (length (unrolled e)) ≡ b
            → IsCollected p line
            (cond b (as_line (codes "longword"))
            (vector_reply (collection (relations_of p) (unrolled e))))
        at true c = long_word e h (ltb-true letter_limit (length (unrolled e)) c)
        at false c =
            IsCollected-vector_reply e
            (record { asks = h; few = ltb-false letter_limit (length (unrolled e)) c })
    IsCollected-query_reply (query.Same u v) h = kind (query.Same u v) h tt
    IsCollected-query_reply (query.Solve u v) h = kind (query.Solve u v) h tt
    IsCollected-query_reply (query.Quotient u v) h = kind (query.Quotient u v) h tt
    IsCollected-query_reply query.Blank h = blank h

    IsCollected-reply_to : length line ≤ line_limit
        → IsCollected p line (reply_to p (reading p.names (strip_carriage_return line)))
    IsCollected-reply_to within = at (reading p.names (strip_carriage_return line)) refl
      where
        at : (found : Result Query QueryFault)
            → reading p.names (strip_carriage_return line) ≡ found
            → IsCollected p line (reply_to p found)
        at (Ok q) e =
            IsCollected-query_reply q
            (record { within = within; reads = (reads (strip_carriage_return line) q).1 e })
        at (Err f) e =
            faulty f
            (record { within = within; fails = (fails (strip_carriage_return line) f).1 e })

    pub IsCollected-reply : IsCollected p line (reply p line)
    unfolding reply
    IsCollected-reply = at (nat_lt line_limit (length line)) refl
      where
        at : (b : Bool) → nat_lt line_limit (length line) ≡ b
            → IsCollected p line
            (cond b (as_line (codes "long"))
            (reply_to p (reading p.names (strip_carriage_return line))))
        at true e = long (ltb-true line_limit (length line) e)
        at false e = IsCollected-reply_to (ltb-false line_limit (length line) e)
