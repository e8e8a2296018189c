-- When the replies to two lines are equal.
--   EqualRepliesMeanEqualWords   two lines that ask for elements, neither of them wide, get equal
--                                replies exactly if the relations make their words equal
use Rattle.std.specs.Prelude.{◌≡◌, ◌↔◌, ℕ, List}
use Rattle.nil_word.specs.declared.expr.Expr.{Expr}
use Rattle.nil_word.specs.declared.query.Query.TheVariants as query
use Rattle.nil_word.specs.Congruence.{Congruent}
use Rattle.nil_word.specs.Expressions.{unrolled}
use Rattle.nil_pres.specs.Relations.{relations_of}
use Rattle.hall_table.specs.Multiplies.{Paired}
use Rattle.group_eval.specs.Queries.{IsWide}
use Rattle.query_replies.specs.Right.{IsQuery, IsReply}

abbrev pub EqualRepliesMeanEqualWords : Type 0
EqualRepliesMeanEqualWords =
    (c : Paired) (line line' text text' : List ℕ) (e e' : Expr)
    → IsQuery c.pres line (query.Value e) → (IsWide c.table (query.Value e) → ⊥)
    → IsReply c line text
    → IsQuery c.pres line' (query.Value e') → (IsWide c.table (query.Value e') → ⊥)
    → IsReply c line' text'
    → (text ≡ text') ↔ Congruent (relations_of c.pres) 1 (unrolled e) (unrolled e')
