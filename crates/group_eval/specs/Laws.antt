-- What the written order gives, for each table that multiplies in its presentation.
--   OfChecked P       P holds of each presentation with a checked table
--   MultipliedIs c    what `multiplied` gives is the vector of the two words joined
--   SolvedIs c        what `solved` gives is the solution
--   InvertedIs c      what `inverted` gives is the vector of the inverse
--   DividedIs c       what `divided` gives is that of the first word and the inverse of the second
--   PoweredIs c       what `powered` gives is that of the power
--   CommutedIs c      what `commuted` gives is that of the commutator
--   ConjugatedIs c    what `conjugated` gives is that of the conjugate
--   ElementsAre c     all of these
--   EvaluatedIs c     what an expression gives is the vector of its word
--   AnsweredIs c      a reply is right, unless it is wide
-- c a presentation with its table · a b x vectors · u v w words · e exponent or expression
use Rattle.std.specs.Prelude.{◌≡◌, ℤ, List, ◌++◌, length, Ok}
use Rattle.nil_word.specs.declared.letter.Letter.{Letter}
use Rattle.nil_word.specs.declared.expr.Expr.{Expr}
use Rattle.nil_word.specs.declared.query.Query.{Query}
use Rattle.nil_word.specs.Words.{inverse}
use Rattle.nil_word.specs.Expressions.{raised, commutator, conjugate, unrolled, IsShaped}
use Rattle.nil_word.specs.Queries.{IsShapedQuery}
use Rattle.nil_pres.specs.Presented.{IsPresented}
use Rattle.nil_pres.specs.Relations.{relations_of}
use Rattle.hall_table.specs.Tabled.{IsTabled}
use Rattle.hall_table.specs.Multiplies.{Paired, IsChecked}
use Rattle.hall_table.specs.Order.{multiplied}
use Rattle.group_eval.specs.Elements.{IsOf, IsSolution}
use Rattle.group_eval.specs.Order.{solved, inverted, divided, powered, commuted, conjugated}
use Rattle.group_eval.specs.Expressions.{evaluated, IsFrom}
use Rattle.group_eval.specs.Queries.{answered, IsWide}
use Rattle.group_eval.specs.Right.{IsRightReply}

abbrev pub OfChecked : (Paired → Type 0) → Type 0
OfChecked P = (c : Paired) → IsPresented c.pres → IsTabled c.table → IsChecked c → P c

abbrev pub MultipliedIs : Paired → Type 0
MultipliedIs c = (a b x : List ℤ) (u v : List Letter) → multiplied c.table a b ≡ Ok x
    → IsOf c a u → IsOf c b v → IsOf c x (u ++ v)

abbrev pub SolvedIs : Paired → Type 0
SolvedIs c = (a b x : List ℤ) (u v : List Letter) → solved c.table a b ≡ Ok x
    → IsOf c a u → IsOf c b v → IsSolution c x u v

abbrev pub InvertedIs : Paired → Type 0
InvertedIs c = (a x : List ℤ) (u : List Letter) → inverted c.table a ≡ Ok x
    → IsOf c a u → IsOf c x (inverse u)

abbrev pub DividedIs : Paired → Type 0
DividedIs c = (a b x : List ℤ) (u v : List Letter) → divided c.table a b ≡ Ok x
    → IsOf c a u → IsOf c b v → IsOf c x (u ++ inverse v)

abbrev pub PoweredIs : Paired → Type 0
PoweredIs c = (a x : List ℤ) (e : ℤ) (u : List Letter) → powered c.table a e ≡ Ok x
    → IsOf c a u → IsOf c x (raised u e)

abbrev pub CommutedIs : Paired → Type 0
CommutedIs c = (a b x : List ℤ) (u v : List Letter) → commuted c.table a b ≡ Ok x
    → IsOf c a u → IsOf c b v → IsOf c x (commutator u v)

abbrev pub ConjugatedIs : Paired → Type 0
ConjugatedIs c = (a b x : List ℤ) (u v : List Letter) → conjugated c.table a b ≡ Ok x
    → IsOf c a u → IsOf c b v → IsOf c x (conjugate u v)

pub record ElementsAre (c : Paired) : Type 0 where
  pub products : MultipliedIs c
  pub solutions : SolvedIs c
  pub inverses : InvertedIs c
  pub quotients : DividedIs c
  pub powers : PoweredIs c
  pub commutators : CommutedIs c
  pub conjugates : ConjugatedIs c

abbrev pub EvaluatedIs : Paired → Type 0
EvaluatedIs c = (e : Expr) (x : List ℤ) → IsShaped (length c.pres.names) e
    → IsFrom c.table.level e → evaluated c.table e ≡ Ok x → IsOf c x (unrolled e)

abbrev pub AnsweredIs : Paired → Type 0
AnsweredIs c = (q : Query) → c.table.level ≡ 1 → IsShapedQuery (length c.pres.names) q
    → (IsWide c.table q → ⊥) → IsRightReply (relations_of c.pres) q (answered c.table q)
