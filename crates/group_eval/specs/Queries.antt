-- The written order in which a query is answered.
--   vector_or_wide r       the vector of an outcome, or Wide
--   same_or_not a b        Yes where the vectors are equal, else No
--   compared r s           the same of two outcomes, and Wide where one is none
--   answered t q           the reply to a query
--   reply_of r             what a call answers that gives the reply, or names a place
--   IsWide t q             a value on the way to the reply overflows 128 bits
-- t table · q query · a b vectors · r s outcomes
use Rattle.std.specs.Prelude.{◌≡◌, ℤ, List, Result, Ok, Err, if◌then◌else◌}
use Rattle.std.specs.Ordering.{int_eq}
use Rattle.std.specs.Cmp.Lexicographic.{pointwise}
use Rattle.nil_word.specs.declared.query.Query.{Query}
use Rattle.nil_word.specs.declared.query.Query.TheVariants as query
use Rattle.hall_table.specs.declared.wide_at.WideAt.{WideAt}
use Rattle.hall_table.specs.Tabled.{Tabled}
use Rattle.group_eval.specs.declared.pairing.Pairing.TheVariants.{Solution, Quotient}
use Rattle.group_eval.specs.declared.reply.Reply.{Reply}
use Rattle.group_eval.specs.declared.reply.Reply.TheVariants as reply
use Rattle.group_eval.specs.Order.{Outcome, both}
use Rattle.group_eval.specs.Expressions.{evaluated}

abbrev pub vector_or_wide : Outcome → Reply
vector_or_wide (Ok a) = reply.Vector a
vector_or_wide (Err at) = reply.Wide

abbrev pub same_or_not : List ℤ → List ℤ → Reply
same_or_not a b = if pointwise int_eq a b then reply.Yes else reply.No

abbrev pub compared : Outcome → Outcome → Reply
compared (Ok a) (Ok b) = same_or_not a b
compared (Ok a) (Err at) = reply.Wide
compared (Err at) r = reply.Wide

abbrev pub answered : Tabled → Query → Reply
answered t (query.Value e) = vector_or_wide (evaluated t e)
answered t (query.Same u v) = compared (evaluated t u) (evaluated t v)
answered t (query.Solve u v) =
    vector_or_wide (both t Solution (evaluated t u) (evaluated t v))
answered t (query.Quotient u v) =
    vector_or_wide (both t Quotient (evaluated t u) (evaluated t v))
answered t query.Blank = reply.Nothing

abbrev pub reply_of : Result Reply WideAt → Reply
reply_of (Ok x) = x
reply_of (Err at) = reply.Wide

abbrev pub IsWide : Tabled → Query → Type 0
IsWide t q = answered t q ≡ reply.Wide
