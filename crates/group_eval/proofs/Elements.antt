-- What the written order gives is the vector of its element, by the laws of the table.
--   c presentation with its table · a b p q x vectors · u v words
use Rattle.std.proofs.Common.{◌≡◌, ℕ, ℤ, List, [], ◌++◌, length, sym, ◌∙◌, ap, subst}
use Rattle.std.specs.Prelude.{Ok}
use Rattle.std.proofs.lemmas.List.Elements.{All-nil}
use Rattle.nil_word.specs.Words.{inverse, IsIn, IsVector}
use Rattle.nil_word.specs.Congruence.{Relations}
use Rattle.nil_pres.specs.Relations.{relations_of}
use Rattle.hall_law.specs.Table.{Operation, zeros, IsPresentation}
use Rattle.hall_law.specs.Elements.{ProductsAre, SolutionsAre, InversesAre, CommutatorsAre, ConjugatesAre}
use Rattle.hall_law.specs.Shape.{IsShaped}
use Rattle.hall_law.specs.Uniqueness.{OfTables, LettersStand}
use Rattle.hall_table.specs.Tabled.{IsTabled, last_of}
use Rattle.hall_table.specs.Values.{values}
use Rattle.hall_table.specs.Multiplies.{Paired, IsChecked}
use Rattle.hall_table.specs.Order.{multiplied}
use Rattle.group_eval.specs.Elements.{IsOf}
use Rattle.group_eval.specs.Order.{and_then, solved, inverted}
use Rattle.group_eval.specs.Laws.{MultipliedIs, SolvedIs, InvertedIs, DividedIs, CommutedIs, ConjugatedIs}
use Rattle.group_eval.proofs.Outcomes.{and_then_ok, multiplied_ok}
use Rattle.group_eval.proofs.Solutions.{IsVector-zeros, solved_ok}

abbrev pub Law : Paired → (Relations → ℕ → Operation → Type 0) → Type 0
Law c P = P (relations_of c.pres) c.table.level (values c.table)

-- a law of all tables, at the values of a checked table
pub law_at : (P : Relations → ℕ → Operation → Type 0) → OfTables P → (c : Paired)
    → IsPresentation (relations_of c.pres) → IsChecked c → Law c P
law_at P law c presents checked =
    law (relations_of c.pres) c.table.level (values c.table) presents checked.multiplies

abbrev pub Shape : Paired → Type 0
Shape c = IsShaped (last_of c.table) c.table.level (values c.table)

module _ (c : Paired) (tabled : IsTabled c.table) (checked : IsChecked c) where
  abbrev In : ℕ → List ℤ → Type 0
  In n a = IsVector n c.table.level a

  -- the solution, in vectors of the presentation's length
  pub solution : Shape c → (a b x : List ℤ) → In (length c.pres.names) a → In (length c.pres.names) b
      → solved c.table a b ≡ Ok x → In (length c.pres.names) x × (values c.table a x ≡ b)
  solution shape a b x ha hb is =
      let found = solved_ok c.table tabled shape a b
      (subst (λ (m : ℕ). In m a) (sym checked.last) ha)
      (subst (λ (m : ℕ). In m b) (sym checked.last) hb) x is in
      (subst (λ (m : ℕ). In m x) checked.last found.0, found.1)

  pub multiplied_is : Law c ProductsAre → MultipliedIs c
  multiplied_is products a b x u v is ha hb =
      subst (λ (y : List ℤ). IsOf c y (u ++ v)) (multiplied_ok c.table a b x is)
      (products a b u v ha hb)

  pub solved_is : Law c SolutionsAre → Shape c → SolvedIs c
  solved_is solutions shape a b x u v is ha hb =
      let found = solution shape a b x ha.vector hb.vector is in
      record { vector = found.0; solves = (solutions a b x u v ha hb found.0).0 found.1 }

  pub inverted_is : Law c InversesAre → Shape c → InvertedIs c
  inverted_is inverses shape a x u is ha =
      let found = solution shape a (zeros (last_of c.table)) x ha.vector
      (subst (λ (m : ℕ). In m (zeros (last_of c.table))) checked.last
      (IsVector-zeros c.table tabled)) is in
      inverses a x u ha found.0
      (subst (λ (m : ℕ). values c.table a x ≡ zeros m) checked.last found.1)

  pub divided_is : MultipliedIs c → InvertedIs c → DividedIs c
  divided_is multiplies inverts a b x u v is ha hb =
      let (p, first, second) = and_then_ok (inverted c.table b) (λ p. multiplied c.table a p) x is in
      multiplies a p x u (inverse v) second ha (inverts b p v first hb)

  pub product : (a b p : List ℤ) → In (length c.pres.names) a → In (length c.pres.names) b
      → multiplied c.table a b ≡ Ok p → In (length c.pres.names) p × (values c.table a b ≡ p)
  product a b p ha hb is =
      let made = multiplied_ok c.table a b p is in (
        subst (λ (y : List ℤ). In (length c.pres.names) y) made
            (checked.multiplies.closed a b ha hb),
        made,
      )

  pub commuted_is : Law c CommutatorsAre → Shape c → CommutedIs c
  commuted_is commutators shape a b x u v is ha hb =
      let f = values c.table in
      let (p, first, then) =
      and_then_ok (multiplied c.table b a)
      (λ p. and_then (multiplied c.table a b) (solved c.table p)) x is in
      let (q, second, last) = and_then_ok (multiplied c.table a b) (solved c.table p) x then in
      let left = product b a p hb.vector ha.vector first in
      let right = product a b q ha.vector hb.vector second in
      let found = solution shape p q x left.0 right.0 last in
      commutators a b x u v ha hb found.0
      (ap (λ (y : List ℤ). f y x) left.1 ∙ found.1 ∙ sym right.1)

  pub conjugated_is : Law c ConjugatesAre → Shape c → ConjugatedIs c
  conjugated_is conjugates shape a b x u v is ha hb =
      let (p, first, last) = and_then_ok (multiplied c.table a b) (solved c.table b) x is in
      let right = product a b p ha.vector hb.vector first in
      let found = solution shape b p x hb.vector right.0 last in
      conjugates a b x u v ha hb found.0 (found.1 ∙ sym right.1)

  -- the zero vector is that of the empty word
  pub empty_is : Law c LettersStand → IsOf c (zeros (last_of c.table)) []
  empty_is letters =
      subst (λ (n : ℕ). IsOf c (zeros n) []) (sym checked.last)
      (letters [] (All-nil (IsIn c.table.level (length c.pres.names))))
