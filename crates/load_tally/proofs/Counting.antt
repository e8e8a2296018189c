-- Counts of the lines done and of those to come.
--   Completes t answers whole   t and the counts of the answers make the whole
-- t tally · a answer · p test of answers
use Rattle.std.proofs.Common.{◌≡◌, ℕ, ◌+◌, Bool, cond, ℤ, pos, ◌+ℤ◌, List, [], ◌∷◌, length, count_by, Option, ◌∙◌, ap, arith}
use Rattle.std.proofs.lemmas.Int.{ints}
use Rattle.std.proofs.lemmas.List.Sums.{sum_by-cons}
use Rattle.group_eval.specs.declared.reply.Reply.{Reply}
use Rattle.load_tally.specs.declared.counts.Tally.{Tally}
use Rattle.load_tally.specs.Weights.{remainder}
use Rattle.load_tally.specs.Counts.{is_vector, is_yes, is_no, is_wide, weight, sum_of}
use Rattle.load_tally.specs.Steps.{IsOneMore}
use Rattle.load_tally.proofs.Remainders.{remainder-add}

pub record Completes (t : Tally) (answers : List (Option Reply)) (whole : Tally) : Type 0 where
  pub queries : t.queries + length answers ≡ whole.queries
  pub vectors : t.vectors + count_by is_vector answers ≡ whole.vectors
  pub yes : t.yes + count_by is_yes answers ≡ whole.yes
  pub no : t.no + count_by is_no answers ≡ whole.no
  pub wide : t.wide + count_by is_wide answers ≡ whole.wide
  pub sum : remainder (pos t.sum +ℤ sum_of answers) ≡ whole.sum

-- one more is done
count_by-next : (p : Option Reply → Bool) (a : Option Reply) (answers : List (Option Reply)) (m n w : ℕ)
    → n ≡ m + count_by p (a ∷ []) → m + count_by p (a ∷ answers) ≡ w → n + count_by p answers ≡ w
count_by-next p a answers m n w more before =
    let test : Option Reply → ℕ = λ b. cond (p b) 1 0 in
    let one : count_by p (a ∷ []) ≡ test a + 0 = sum_by-cons test a [] in
    let all : count_by p (a ∷ answers) ≡ test a + count_by p answers = sum_by-cons test a answers in
    omega arith

pub Completes-next : (t t' whole : Tally) (a : Option Reply) (answers : List (Option Reply))
    → IsOneMore t t' a → Completes t (a ∷ answers) whole → Completes t' answers whole
Completes-next t t' whole a answers more h = record {
  queries = omega (arith, more.queries, h.queries);
  vectors = count_by-next is_vector a answers t.vectors t'.vectors whole.vectors more.vectors h.vectors;
  yes = count_by-next is_yes a answers t.yes t'.yes whole.yes more.yes h.yes;
  no = count_by-next is_no a answers t.no t'.no whole.no more.no h.no;
  wide = count_by-next is_wide a answers t.wide t'.wide whole.wide more.wide h.wide;
  sum = ap (λ (n : ℕ). remainder (pos n +ℤ sum_of answers)) more.sum
      ∙ remainder-add (pos t.sum +ℤ weight a) (sum_of answers)
      ∙ ap remainder (assoc (pos t.sum) (weight a) (sum_of answers)) ∙ h.sum;
}
  where
    assoc : (x y z : ℤ) → x +ℤ y +ℤ z ≡ x +ℤ (y +ℤ z)
    assoc x y z = omega (arith, ints)
