-- Which reply to a query is right, in words of the group, whatever computes it.
--   AreSmall v             each entry is a number of the calculator
--   IsTheOne n P v         v is the one vector with P, and its entries are small
--   IsRightReply rels q r  r answers q
-- rels a presentation · q query · r reply · u v expressions in IsRightReply, else vectors
use Rattle.std.specs.Prelude.{◌≡◌, ℕ, ℤ, List, ◌++◌, All}
use Rattle.nil_num.specs.Bound.{IsNumber}
use Rattle.nil_word.specs.declared.expr.Expr.{Expr}
use Rattle.nil_word.specs.declared.query.Query.{Query}
use Rattle.nil_word.specs.declared.query.Query.TheVariants as query
use Rattle.nil_word.specs.Words.{inverse, ordered, IsVector}
use Rattle.nil_word.specs.Congruence.{Relations, Congruent, StandsFor}
use Rattle.nil_word.specs.Expressions.{unrolled}
use Rattle.group_eval.specs.declared.reply.Reply.{Reply}
use Rattle.group_eval.specs.declared.reply.Reply.TheVariants as reply

abbrev pub AreSmall : List ℤ → Type 0
AreSmall v = All IsNumber v

pub record IsTheOne (n : ℕ) (P : List ℤ → Type 0) (v : List ℤ) : Type 0 where
  pub vector : IsVector n 1 v
  pub small : AreSmall v
  pub holds : P v
  pub only : (u : List ℤ) → IsVector n 1 u → P u → u ≡ v

pub data IsRightReply (rels : Relations) : Query → Reply → Type 0 where
  value : (e : Expr) (v : List ℤ) → IsTheOne rels.count (λ x. StandsFor rels x (unrolled e)) v
      → IsRightReply rels (query.Value e) (reply.Vector v)
  yes : (u v : Expr) → Congruent rels 1 (unrolled u) (unrolled v)
      → IsRightReply rels (query.Same u v) reply.Yes
  no : (u v : Expr) → (Congruent rels 1 (unrolled u) (unrolled v) → ⊥)
      → IsRightReply rels (query.Same u v) reply.No
  solution : (u v : Expr) (x : List ℤ)
      → IsTheOne rels.count (λ y. Congruent rels 1 (unrolled u ++ ordered y) (unrolled v)) x
      → IsRightReply rels (query.Solve u v) (reply.Vector x)
  quotient : (u v : Expr) (x : List ℤ)
      → IsTheOne rels.count (λ y. StandsFor rels y (unrolled u ++ inverse (unrolled v))) x
      → IsRightReply rels (query.Quotient u v) (reply.Vector x)
  nothing : IsRightReply rels query.Blank reply.Nothing
