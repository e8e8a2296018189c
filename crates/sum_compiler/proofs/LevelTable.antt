-- The polynomials of the level make a table, with the values of the summed table.
--   rels presentation · t table of the level above i · P its powers · new the table of the level
--   a b points · A images · x y vectors · k m generators
use Rattle.std.proofs.Common.{◌≡◌, ℕ, suc, ◌+◌, ◌-◌, ◌≤◌, List, [], map, get_or, refl, sym, ◌∙◌, subst, arith}
use Rattle.std.specs.Prelude.{All}
use lib.IntN.{ℤ, pos}
use Rattle.nil_word.specs.Congruence.{Relations}
use Rattle.nil_word.specs.Exponents.{numbers}
use Rattle.nil_word.specs.Factors.{Factoring}
use Rattle.nil_word.specs.Words.{IsVector}
use Rattle.hall_law.specs.Plan.{Powers, Images, DoAgree, AreImages, summed, IsPlanned}
use Rattle.hall_law.specs.Shape.{IsShaped}
use Rattle.hall_law.specs.Table.{IsTable}
use Rattle.hall_law.proofs.Entries.{length-map_numbers, entry-map_numbers}
use Rattle.hall_law.proofs.Shaping.{summed_shaped}
use Rattle.hall_law.proofs.Theorems.{summed_table}
use Rattle.hall_law.proofs.Vectors.{IsAt, at_of}
use Rattle.binom_poly.specs.Dependence.{Agree, DependsOnly}
use Rattle.binom_poly.specs.Polynomial.{value_of, IsPolynomial}
use Rattle.binom_poly.specs.Variable.{y_of}
use Rattle.binom_poly.proofs.Depending.{variables_tested}
use Rattle.hall_table.specs.Shape.{is_lower, HasShape}
use Rattle.hall_table.specs.Tabled.{Tabled, IsTabled, AreShaped, last_of, poly_in}
use Rattle.hall_table.specs.Values.{point_of, values}
use Rattle.hall_table.proofs.Covering.{is_lower-x, is_lower-y}
use Rattle.hall_table.proofs.Entries.{entry-values, IsShaped-values}
use Rattle.hall_table.proofs.OfShape.{HasShape-vectors}
use Rattle.sum_compiler.specs.Calls.{IsMade}
use Rattle.sum_compiler.specs.Images.{all_images}
use Rattle.sum_compiler.specs.Plan.{level_polys, plan}
use Rattle.sum_compiler.proofs.ReadAt.{bounds_of, IsAt-values, same_from, point-x, point-y}
use Rattle.sum_compiler.proofs.LevelValues.{ReadsAt, images_from, are_from, stepped_from, value-level, form-level, length-level}
use Rattle.sum_compiler.proofs.SameTable.{table_same}

-- ---- the vectors of a point
abbrev x_at : ℕ → (ℕ → ℤ) → List ℤ
x_at n a = map a (numbers 1 n)

abbrev y_at : ℕ → (ℕ → ℤ) → List ℤ
y_at n a = map (λ m. a (y_of m)) (numbers 1 n)

reads_own : (low n : ℕ) (a b : ℕ → ℤ) → 1 ≤ low → Agree (is_lower low (n + 1)) a b
    → ReadsAt low n b (x_at n a) (y_at n a)
reads_own low n a b least e = record {
  long = length-map_numbers n a;
  has_x = λ m from to.
      sym (e m (is_lower-x low (n + 1) m from (omega arith)))
      ∙ sym (entry-map_numbers n a m (omega arith) to);
  has_y = λ m from to.
      sym (e (y_of m) (is_lower-y low (n + 1) m from (omega arith)))
      ∙ sym (entry-map_numbers n (λ l. a (y_of l)) m (omega arith) to);
}

reads_vectors : (low n : ℕ) (x y : List ℤ) → n ≤ 48 → IsVector n low x
    → ReadsAt low n (point_of x y) x y
reads_vectors low n x y most hx = record {
  long = hx.entries;
  has_x = λ m from to. point-x x y m (omega arith);
  has_y = λ m from to. point-y x y m;
}

module _ (rels : Relations) (factors : Factoring) (i : ℕ) (t : Tabled) (P : Powers)
    (planned : IsPlanned rels factors i (values t) P) (h : IsTabled t) (level : t.level ≡ suc i)
    (same : last_of t ≡ rels.count) (agree : DoAgree rels factors i (values t) P)
    (all_made : All IsMade (plan t (factors i) i)) where
  abbrev pub new : Tabled
  new = record { level = i; polys = level_polys (all_images t (factors i)) t i }

  abbrev own : Images
  own = images_from rels factors i t P planned h level same agree all_made (λ v. pos 0)

  own_are : AreImages rels factors i (values t) P own
  own_are = are_from rels factors i t P planned h level same agree all_made (λ v. pos 0)

  least : 1 ≤ i
  least = planned.least

  few : rels.count ≤ 48
  few = let last : last_of t ≤ 48 = (bounds_of t h).last in omega arith

  some : i ≤ rels.count
  some = let most : t.level ≤ last_of t = (bounds_of t h).most in omega arith

  -- ---- the shape
  depends : (k : ℕ) → i ≤ k → k ≤ rels.count
      → DependsOnly (is_lower i (rels.count + 1)) (λ a. value_of a (poly_in i new.polys k))
  depends k low high a b e =
      let x = x_at rels.count a in
      let y = y_at rels.count a in
      value-level rels factors i t P planned h level same agree all_made own own_are a x y
      (reads_own i rels.count a a least (λ v h. refl)) k low high
      ∙ sym (value-level rels factors i t P planned h level same agree all_made own own_are b x y
      (reads_own i rels.count a b least e) k low high)

  summed_is_shaped : IsShaped rels.count i (summed rels.count i (values t) P own)
  summed_is_shaped =
      summed_shaped rels factors i (values t) P planned own
      (stepped_from rels factors i t P planned h level same agree all_made (λ v. pos 0))
      (subst (λ (n : ℕ). IsShaped n (suc i) (values t)) same
      (subst (λ (m : ℕ). IsShaped (last_of t) m (values t)) level (IsShaped-values t h)))

  pub shape-level : (k : ℕ) → i ≤ k → k ≤ rels.count → HasShape i k (poly_in i new.polys k)
  shape-level k low high =
      let form = form-level rels factors i t P planned h level same agree all_made k low high in
      HasShape-vectors rels.count i k (summed rels.count i (values t) P own) (poly_in i new.polys k)
      least low high few form
      (variables_tested (is_lower i (rels.count + 1)) (poly_in i new.polys k) form
      (depends k low high))
      summed_is_shaped
      (λ x y hx hy. value-level rels factors i t P planned h level same agree all_made own own_are
      (point_of x y) x y (reads_vectors i rels.count x y few hx) k low high)

  last-new : last_of new ≡ rels.count
  last-new =
      let long = length-level rels factors i t P planned h level same agree all_made in
      omega arith

  pub are_shaped : AreShaped i new.polys
  are_shaped k low high =
      let long = length-level rels factors i t P planned h level same agree all_made in
      shape-level k low (omega arith)

  pub is_tabled : IsTabled new
  is_tabled =
      let long = length-level rels factors i t P planned h level same agree all_made in
      record {
        least = least;
        nonempty = omega arith;
        most = omega (arith, few);
        forms = λ m l.
            subst (λ (d : ℕ). IsPolynomial (get_or new.polys d []))
            (let z : i + m - i ≡ m = omega arith in z)
            (form-level rels factors i t P planned h level same agree all_made (i + m) (omega arith)
            (omega arith));
        shapes = are_shaped;
      }

  -- ---- the values
  pub values-level : (A : Images) → AreImages rels factors i (values t) P A → (x y : List ℤ)
      → IsVector rels.count i x → IsVector rels.count i y
      → values new x y ≡ summed rels.count i (values t) P A x y
  values-level A are x y hx hy =
      let z = summed rels.count i (values t) P A x y in
      let table : IsTable rels i (summed rels.count i (values t) P A) =
      summed_table rels factors i (values t) P planned agree A are in
      let last = last-new in
      let range = some in
      same_from new (values new x y) z (IsAt-values new x y (omega arith))
      (subst (λ (n : ℕ). IsAt n i z) (sym last) (at_of rels.count i z (table.closed x y hx hy)))
      (λ k low high.
      entry-values new x y k is_tabled low high
      ∙ value-level rels factors i t P planned h level same agree all_made A are (point_of x y) x y
      (reads_vectors i rels.count x y few hx) k low (omega arith))

  pub table-level : IsTable rels i (values new)
  table-level =
      table_same rels i (summed rels.count i (values t) P own) (values new)
      (summed_table rels factors i (values t) P planned agree own own_are)
      (λ x y hx hy. values-level own own_are x y hx hy)
