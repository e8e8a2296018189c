-- The reply that the written order of a query gives is right, unless it is wide.
--   c a presentation with its table · e u v expressions · a b x y z vectors · w words
--   r s o outcomes · q query · p pairing
use Rattle.std.proofs.Common.{◌≡◌, Bool, cond, ℤ, Ok, Err, List, ◌++◌, length, refl, sym, ◌∙◌, subst, inl, inr}
use Rattle.std.proofs.lemmas.Bool.{cases_Bool, false≢true}
use Rattle.std.specs.Ordering.{int_eq}
use Rattle.std.specs.Cmp.Lexicographic.{pointwise}
use Rattle.std.specs.Cmp.Rules.{signed_items}
use Rattle.nil_word.specs.declared.letter.Letter.{Letter}
use Rattle.nil_word.specs.declared.expr.Expr.{Expr}
use Rattle.nil_word.specs.declared.query.Query.{Query}
use Rattle.nil_word.specs.declared.query.Query.TheVariants as query
use Rattle.nil_word.specs.Words.{inverse, ordered, IsVector}
use Rattle.nil_word.specs.Congruence.{Relations, Congruent, StandsFor, IsConsistent}
use Rattle.nil_word.specs.Expressions.{unrolled, IsShaped}
use Rattle.nil_word.specs.Queries.{IsShapedQuery}
use Rattle.nil_word.proofs.Congruences.{trans, back}
use Rattle.hall_law.specs.Elements.{SolutionsAre}
use Rattle.hall_law.specs.Uniqueness.{SolvesOnce}
use Rattle.nil_pres.specs.Relations.{relations_of}
use Rattle.hall_table.specs.Values.{values}
use Rattle.hall_table.specs.Multiplies.{Paired}
use Rattle.group_eval.specs.declared.reply.Reply.TheVariants as reply
use Rattle.group_eval.specs.declared.pairing.Pairing.{Pairing}
use Rattle.group_eval.specs.declared.pairing.Pairing.TheVariants.{Solution, Quotient}
use Rattle.group_eval.specs.Elements.{IsOf, IsSolution}
use Rattle.group_eval.specs.Order.{Outcome, and_then, paired, both}
use Rattle.group_eval.specs.Expressions.{evaluated, IsFrom}
use Rattle.group_eval.specs.Queries.{vector_or_wide, same_or_not, compared, answered, IsWide}
use Rattle.group_eval.specs.Laws.{SolvedIs, DividedIs, EvaluatedIs}
use Rattle.group_eval.specs.Right.{AreSmall, IsTheOne, IsRightReply, value, yes, no, solution, quotient, nothing}
use Rattle.group_eval.proofs.Narrow.{narrow_paired}
use Rattle.group_eval.proofs.NarrowEvaluations.{narrow_evaluated}
use Rattle.group_eval.proofs.Levels.{from_one}
use Rattle.group_eval.proofs.Outcomes.{and_then_ok}

-- what one table of level 1 gives
pub record Answers (c : Paired) : Type 0 where
  pub level : c.table.level ≡ 1
  pub expressions : EvaluatedIs c
  pub solutions : SolvedIs c
  pub quotients : DividedIs c
  pub consistent : IsConsistent (relations_of c.pres) c.table.level
  pub equations : SolutionsAre (relations_of c.pres) c.table.level (values c.table)
  pub once : SolvesOnce (relations_of c.pres) c.table.level (values c.table)

module _ (c : Paired) (known : Answers c) where
  abbrev rels : Relations
  rels = relations_of c.pres

  abbrev Shaped : Expr → Type 0
  Shaped e = IsShaped (length c.pres.names) e

  first : (x : List ℤ) → IsVector rels.count c.table.level x → IsVector rels.count 1 x
  first x h = subst (λ i. IsVector rels.count i x) known.level h

  at_level : (x : List ℤ) → IsVector rels.count 1 x → IsVector rels.count c.table.level x
  at_level x h = subst (λ i. IsVector rels.count i x) (sym known.level) h

  lowest : (w z : List Letter) → Congruent rels c.table.level w z → Congruent rels 1 w z
  lowest w z h = subst (λ i. Congruent rels i w z) known.level h

  raised : (w z : List Letter) → Congruent rels 1 w z → Congruent rels c.table.level w z
  raised w z h = subst (λ i. Congruent rels i w z) (sym known.level) h

  element : (e : Expr) (a : List ℤ) → Shaped e → evaluated c.table e ≡ Ok a
      → IsOf c a (unrolled e)
  element e a h r =
      known.expressions e a h
      (subst (λ i. IsFrom i e) (sym known.level) (from_one (length c.pres.names) e h)) r

  -- vectors of one word are equal
  same_vector : (x y : List ℤ) (w z : List Letter) → IsOf c x w → IsOf c y z
      → Congruent rels c.table.level w z → x ≡ y
  same_vector x y w z h k s =
      known.consistent x y h.vector k.vector
      (trans rels c.table.level (trans rels c.table.level h.stands s)
      (back rels c.table.level k.stands))

  the_one : (x : List ℤ) (w : List Letter) → IsOf c x w → AreSmall x
      → IsTheOne rels.count (λ y. StandsFor rels y w) x
  the_one x w h s = record {
    vector = first x h.vector;
    small = s;
    holds = lowest (ordered x) w h.stands;
    only = λ y hy k.
        known.consistent y x (at_level y hy) h.vector
        (trans rels c.table.level (raised (ordered y) w k) (back rels c.table.level h.stands));
  }

  the_solution : (a b x : List ℤ) (w z : List Letter) → IsOf c a w → IsOf c b z
      → IsSolution c x w z → AreSmall x
      → IsTheOne rels.count (λ y. Congruent rels 1 (w ++ ordered y) z) x
  the_solution a b x w z h k s m =
      let once = known.once a b h.vector k.vector in
      let found : (y : List ℤ) → IsVector rels.count c.table.level y
      → Congruent rels c.table.level (w ++ ordered y) z → y ≡ once.vector =
      λ y hy p. once.only y hy ((known.equations a b y w z h k hy).1 p) in
      record {
        vector = first x s.vector;
        small = m;
        holds = lowest (w ++ ordered x) z s.solves;
        only = λ y hy p.
            found y (at_level y hy) (raised (w ++ ordered y) z p) ∙ sym (found x s.vector s.solves);
      }

  -- a vector is right where each one that the outcome can be is
  made_right : (q : Query) (o : Outcome)
      → ((x : List ℤ) → o ≡ Ok x → IsRightReply rels q (reply.Vector x))
      → (vector_or_wide o ≡ reply.Wide → ⊥) → IsRightReply rels q (vector_or_wide o)
  made_right q (Ok x) h narrow = h x refl
  made_right q (Err at) h narrow = absurd (narrow refl)

  value_right : (e : Expr) → Shaped e → (vector_or_wide (evaluated c.table e) ≡ reply.Wide → ⊥)
      → IsRightReply rels (query.Value e) (vector_or_wide (evaluated c.table e))
  value_right e h =
      made_right (query.Value e) (evaluated c.table e)
      (λ a f.
      value e a
      (the_one a (unrolled e) (element e a h f)
      (narrow_evaluated (length c.pres.names) c.table e h a f).small))

  same_right : (u v : Expr) (a b : List ℤ) → IsOf c a (unrolled u) → IsOf c b (unrolled v)
      → IsRightReply rels (query.Same u v) (same_or_not a b)
  same_right u v a b h k =
      elim (cases_Bool (pointwise int_eq a b)) [
        | inl t ↦
            let e : a ≡ b = (signed_items a b).0 t in
            subst (λ (i : Bool). IsRightReply rels (query.Same u v) (cond i reply.Yes reply.No))
            (sym t)
            (yes u v
            (lowest (unrolled u) (unrolled v)
            (trans rels c.table.level (back rels c.table.level h.stands)
            (subst (λ x. Congruent rels c.table.level (ordered x) (unrolled v)) (sym e) k.stands))))
        | inr f ↦
            subst (λ (i : Bool). IsRightReply rels (query.Same u v) (cond i reply.Yes reply.No))
            (sym f)
            (no u v
            (λ s. false≢true (sym f ∙ (signed_items a b).1
            (same_vector a b (unrolled u) (unrolled v) h k (raised (unrolled u) (unrolled v) s)))))
      ]

  compared_right : (u v : Expr) (r s : Outcome) → Shaped u → Shaped v → evaluated c.table u ≡ r
      → evaluated c.table v ≡ s → (compared r s ≡ reply.Wide → ⊥)
      → IsRightReply rels (query.Same u v) (compared r s)
  compared_right u v (Ok a) (Ok b) h k f g narrow =
      same_right u v a b (element u a h f) (element v b k g)
  compared_right u v (Ok a) (Err at) h k f g narrow = absurd (narrow refl)
  compared_right u v (Err at) s h k f g narrow = absurd (narrow refl)

  -- what a pairing makes of the vectors of two expressions
  pair_right : (q : Query) (p : Pairing) (u v : Expr) → Shaped u → Shaped v
      → ((a b x : List ℤ) → IsOf c a (unrolled u) → IsOf c b (unrolled v)
      → paired c.table p a b ≡ Ok x → IsRightReply rels q (reply.Vector x))
      → let made = both c.table p (evaluated c.table u) (evaluated c.table v) in
      (vector_or_wide made ≡ reply.Wide → ⊥) → IsRightReply rels q (vector_or_wide made)
  pair_right q p u v h k right =
      let second = λ (a : List ℤ). and_then (evaluated c.table v) (λ b. paired c.table p a b) in
      made_right q (both c.table p (evaluated c.table u) (evaluated c.table v))
      (λ x is.
      let (a, f, then) = and_then_ok (evaluated c.table u) second x is in
      let (b, g, made) = and_then_ok (evaluated c.table v) (λ b. paired c.table p a b) x then in
      right a b x (element u a h f) (element v b k g) made)

  pub right_reply : (q : Query) → IsShapedQuery (length c.pres.names) q → (IsWide c.table q → ⊥)
      → IsRightReply rels q (answered c.table q)
  right_reply (query.Value e) h narrow = value_right e h narrow
  right_reply (query.Same u v) h narrow =
      compared_right u v (evaluated c.table u) (evaluated c.table v) h.0 h.1 refl refl narrow
  right_reply (query.Solve u v) h narrow =
      pair_right (query.Solve u v) Solution u v h.0 h.1
      (λ a b x f g made.
      solution u v x
      (the_solution a b x (unrolled u) (unrolled v) f g
      (known.solutions a b x (unrolled u) (unrolled v) made f g)
      (narrow_paired c.table Solution a b x made).small))
      narrow
  right_reply (query.Quotient u v) h narrow =
      pair_right (query.Quotient u v) Quotient u v h.0 h.1
      (λ a b x f g made.
      quotient u v x
      (the_one x (unrolled u ++ inverse (unrolled v))
      (known.quotients a b x (unrolled u) (unrolled v) made f g)
      (narrow_paired c.table Quotient a b x made).small))
      narrow
  right_reply query.Blank h narrow = nothing
