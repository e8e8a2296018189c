-- What the written order gives by the table's values, from the laws of the table.
--   c presentation with its table · a b p q x y z vectors · e exponent · Q powers
use Rattle.std.proofs.Common.{◌≡◌, ℕ, ℤ, List, length, refl, sym, ◌∙◌, ap, subst}
use Rattle.std.specs.Prelude.{Ok}
use Rattle.nil_word.specs.Words.{ordered, IsVector}
use Rattle.nil_word.specs.Congruence.{IsConsistent}
use Rattle.nil_word.proofs.Congruences.{trans, back, same}
use Rattle.nil_pres.specs.Relations.{relations_of}
use Rattle.hall_law.specs.Table.{Operation, zeros, IsPresentation}
use Rattle.hall_law.specs.Elements.{PowersAre}
use Rattle.hall_law.specs.Uniqueness.{Associates, SolvesOnce}
use Rattle.hall_law.proofs.Acting.{IsWordIn-ordered}
use Rattle.hall_law.proofs.Premises.{given}
use Rattle.hall_law.proofs.Vectors.{at_of}
use Rattle.hall_table.specs.Tabled.{IsTabled}
use Rattle.hall_table.specs.Values.{values}
use Rattle.hall_table.specs.Multiplies.{Paired, IsChecked}
use Rattle.hall_table.specs.Order.{multiplied}
use Rattle.group_eval.specs.Elements.{IsOf}
use Rattle.group_eval.specs.Order.{and_then, solved, inverted}
use Rattle.group_eval.specs.Laws.{PoweredIs}
use Rattle.group_eval.specs.ByValues.{IsIn, IsOnly, MultipliedByValues, SolvedByValues, InvertedByValues, DividedByValues, PoweredByValues, CommutedByValues, ConjugatedByValues}
use Rattle.group_eval.proofs.Elements.{Law, Shape, product, solution}
use Rattle.group_eval.proofs.Narrow.{narrow_multiplied, narrow_solved, narrow_powered}
use Rattle.group_eval.proofs.Outcomes.{and_then_ok}
use Rattle.group_eval.proofs.Solutions.{IsVector-zeros}

-- what the laws of tables say of one
pub record Theory (c : Paired) : Type 0 where
  pub tabled : IsTabled c.table
  pub checked : IsChecked c
  pub presents : IsPresentation (relations_of c.pres)
  pub shape : Shape c
  pub consistent : IsConsistent (relations_of c.pres) c.table.level
  pub associates : Law c Associates
  pub once : Law c SolvesOnce
  pub powers : Law c PowersAre

module _ (c : Paired) (theory : Theory c) where
  abbrev f : Operation
  f = values c.table

  abbrev none : List ℤ
  none = zeros (length c.pres.names)

  none_in : IsIn c none
  none_in =
      subst (λ (m : ℕ). IsVector m c.table.level (zeros m)) theory.checked.last
      (IsVector-zeros c.table theory.tabled)

  -- a vector is that of its ordered word
  own_word : (a : List ℤ) → IsIn c a → IsOf c a (ordered a)
  own_word a h = record {
    vector = h;
    word = IsWordIn-ordered (given theory.presents theory.checked.multiplies)
        (a, at_of (length c.pres.names) c.table.level a h);
    stands = same (relations_of c.pres) c.table.level refl;
  }

  pub multiplied_by : MultipliedByValues c
  multiplied_by a b x ha hb is =
      let made = product c theory.tabled theory.checked a b x ha hb is in
      (record { vector = made.0; small = (narrow_multiplied c.table a b x is).small }, sym made.1)

  pub solved_by : SolvedByValues c
  solved_by a b x ha hb is =
      let found = solution c theory.tabled theory.checked theory.shape a b x ha hb is in
      let once = theory.once a b ha hb in
      record {
        written = record { vector = found.0; small = (narrow_solved c.table a b x is).small };
        holds = found.1;
        only = λ y hy e. once.only y hy e ∙ sym (once.only x found.0 found.1);
      }

  pub inverted_by : InvertedByValues c
  inverted_by a x ha is =
      solved_by a none x ha none_in
      (subst (λ (m : ℕ). solved c.table a (zeros m) ≡ Ok x) theory.checked.last is)

  -- an inverse on the right is one on the left
  inverse_left : (b z : List ℤ) → IsIn c b → IsIn c z → f b z ≡ none → f z b ≡ none
  inverse_left b z hb hz e =
      let unit = theory.checked.multiplies.multiplies.unit in
      let once = theory.once b b hb hb in
      once.only (f z b) (theory.checked.multiplies.closed z b hz hb)
      (sym (theory.associates b z b hb hz hb) ∙ ap (λ y. f y b) e ∙ (unit b hb).1)
      ∙ sym (once.only none none_in (unit b hb).0)

  pub divided_by : DividedByValues c
  divided_by a b x ha hb is =
      let unit = theory.checked.multiplies.multiplies.unit in
      let (z, first, last) = and_then_ok (inverted c.table b) (λ z. multiplied c.table a z) x is in
      let inverse = inverted_by b z hb first in
      let hz = inverse.written.vector in
      let made = multiplied_by a z x ha hz last in
      record {
        written = made.0;
        holds = ap (λ y. f y b) made.1 ∙ theory.associates a z b ha hz hb
            ∙ ap (f a) (inverse_left b z hb hz inverse.holds)
            ∙ (unit a ha).0;
        only = λ y hy e.
            sym (unit y hy).0 ∙ ap (f y) (sym inverse.holds)
            ∙ sym (theory.associates y b z hy hb hz)
            ∙ ap (λ v. f v z) e
            ∙ sym made.1;
      }

  pub powered_by : PoweredIs c → PoweredByValues c
  powered_by powers Q ps a x e ha is =
      let stands = powers a x e (ordered a) is (own_word a ha) in
      let power = theory.powers Q ps a (ordered a) e (own_word a ha) in (
        stands.vector,
        theory.consistent x (Q a e) stands.vector power.vector
            (trans (relations_of c.pres) c.table.level stands.stands
            (back (relations_of c.pres) c.table.level power.stands)),
        λ h. (narrow_powered c.table a e
            record { entries = ha.entries ∙ sym theory.checked.last; small = h } x is).small,
      )

  pub commuted_by : CommutedByValues c
  commuted_by a b x ha hb is =
      let (p, first, then) =
      and_then_ok (multiplied c.table b a)
      (λ p. and_then (multiplied c.table a b) (solved c.table p)) x is in
      let (q, second, last) = and_then_ok (multiplied c.table a b) (solved c.table p) x then in
      let left = multiplied_by b a p hb ha first in
      let right = multiplied_by a b q ha hb second in
      subst (λ u. IsOnly c (λ y. f u y ≡ f a b) x) left.1
      (subst (λ v. IsOnly c (λ y. f p y ≡ v) x) right.1
      (solved_by p q x left.0.vector right.0.vector last))

  pub conjugated_by : ConjugatedByValues c
  conjugated_by a b x ha hb is =
      let (p, first, last) = and_then_ok (multiplied c.table a b) (solved c.table b) x is in
      let right = multiplied_by a b p ha hb first in
      subst (λ v. IsOnly c (λ y. f b y ≡ v) x) right.1
      (solved_by b p x hb right.0.vector last)
