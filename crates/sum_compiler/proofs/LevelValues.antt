-- The polynomials of the level at a point are the entries of the summed table.
--   rels presentation · t table of the level above i · P its powers · a b points · A B images
--   x y vectors · j k m generators · s an integer · n last generator
use Rattle.std.proofs.Common.{◌≡◌, ℕ, suc, ◌+◌, ◌-◌, ◌<◌, ◌≤◌, List, [], ◌++◌, length, get_or, refl, sym, ap, ◌∙◌, subst, arith, inl, inr}
use Rattle.std.specs.Prelude.{All}
use Rattle.std.proofs.lemmas.List.{get_or-map, length-map}
use Rattle.std.proofs.Math.Nat.{eq-or-lt_of_le}
use lib.IntN.{ℤ, pos, ◌+ℤ◌}
use Rattle.nil_word.specs.Congruence.{Relations}
use Rattle.nil_word.specs.Exponents.{entry}
use Rattle.nil_word.specs.Factors.{Factoring}
use Rattle.hall_law.specs.Plan.{Powers, Images, DoAgree, assembled, put, AreImages, summed, IsPlanned}
use Rattle.hall_law.specs.Shape.{AreStepped}
use Rattle.hall_law.proofs.Pairs.{entry-put_same, entry-put_other}
use Rattle.hall_law.proofs.Theorems.{phi_takes_once, images_move}
use Rattle.binom_poly.specs.declared.term.Term.{Term}
use Rattle.binom_poly.specs.Polynomial.{value_of, IsPolynomial}
use Rattle.binom_poly.specs.Variable.{x_of, y_of}
use Rattle.poly_subst.specs.declared.assign.Assign.{Assign}
use Rattle.poly_subst.specs.Substitute.{replaced, substituted}
use Rattle.hall_table.specs.Order.{generators}
use Rattle.hall_table.specs.Tabled.{Tabled, IsTabled, last_of, poly_in}
use Rattle.hall_table.specs.Values.{point_of, values}
use Rattle.hall_table.proofs.Entries.{entry-values, length-values}
use Rattle.sum_compiler.specs.declared.sum_step.SumStep.TheVariants as step
use Rattle.sum_compiler.specs.Calls.{IsMade}
use Rattle.sum_compiler.specs.Putting.{into, put_in}
use Rattle.sum_compiler.specs.Powers.{powers, power_plan}
use Rattle.sum_compiler.specs.Joining.{power_of}
use Rattle.sum_compiler.specs.Images.{image_at, all_images, image_plan}
use Rattle.sum_compiler.specs.Products.{product_power, later_powers, product, product_plan}
use Rattle.sum_compiler.specs.Plan.{first_poly, level_polys, last_plan, image_plan_from, plan}
use Rattle.sum_compiler.specs.Readings.{read, at_time}
use Rattle.sum_compiler.proofs.Walking.{made_left, made_right}
use Rattle.sum_compiler.proofs.Listing.{x_variable, y_is}
use Rattle.sum_compiler.proofs.Replacing.{replaced-x, replaced-y_none}
use Rattle.sum_compiler.proofs.ReadAt.{bounds_of, entry-read, value-same, point-x, point-y}
use Rattle.sum_compiler.proofs.JoinedSoFar.{length-power_of, length-joined}
use Rattle.sum_compiler.proofs.ReadPut.{call_at, value-put_in}
use Rattle.sum_compiler.proofs.ImageEntries.{length-image}
use Rattle.sum_compiler.proofs.ImagesAre.{images_are, images_stepped}
use Rattle.sum_compiler.proofs.ImagesAgree.{images_agree}
use Rattle.sum_compiler.proofs.ProductAt.{read-product}
use Rattle.sum_compiler.proofs.FirstPoly.{value-first, polynomial-first}

pub length-product : (made : List (List (List Term))) (t : Tabled) (i : ℕ)
    → length (product made t i) ≡ generators t
length-product made t i =
    let g = product_power made t i t.level in
    length-joined t (powers t) (power_of t (powers t) g) (later_powers made t i)
    (length-power_of t g)

-- the point a has the entries of x and y from a level on
pub record ReadsAt (low n : ℕ) (a : ℕ → ℤ) (x y : List ℤ) : Type 0 where
  pub long : length x ≡ n
  pub has_x : (m : ℕ) → low ≤ m → m ≤ n → a m ≡ entry x m
  pub has_y : (m : ℕ) → low ≤ m → m ≤ n → a (y_of m) ≡ entry y m

module _ (rels : Relations) (factors : Factoring) (i : ℕ) (t : Tabled) (P : Powers)
    (planned : IsPlanned rels factors i (values t) P) (h : IsTabled t) (level : t.level ≡ suc i)
    (same : last_of t ≡ rels.count) (agree : DoAgree rels factors i (values t) P)
    (all_made : All IsMade (plan t (factors i) i)) where
  abbrev n : ℕ
  n = last_of t

  abbrev As : List (List (List Term))
  As = all_images t (factors i)

  abbrev polys : List (List Term)
  polys = level_polys As t i

  least : 1 ≤ i
  least = planned.least

  -- ---- the calls
  before_last : All IsMade (image_plan_from t (factors i) ++ product_plan As t i)
  before_last =
      made_left (image_plan_from t (factors i) ++ product_plan As t i) (last_plan As t i) all_made

  last_made : All IsMade (last_plan As t i)
  last_made =
      made_right (image_plan_from t (factors i) ++ product_plan As t i) (last_plan As t i) all_made

  product_made : All IsMade (product_plan As t i)
  product_made = made_right (image_plan_from t (factors i)) (product_plan As t i) before_last

  from_made : All IsMade (image_plan_from t (factors i))
  from_made = made_left (image_plan_from t (factors i)) (product_plan As t i) before_last

  powers_made : All IsMade (power_plan t)
  powers_made = made_left (power_plan t) (image_plan t (factors i)) from_made

  images_made : All IsMade (image_plan t (factors i))
  images_made = made_right (power_plan t) (image_plan t (factors i)) from_made

  -- ---- the images
  abbrev pub images_from : (ℕ → ℤ) → Images
  images_from a j s = read t (at_time a s) (image_at As t j)

  pub are_from : (a : ℕ → ℤ) → AreImages rels factors i (values t) P (images_from a)
  are_from a =
      images_are rels factors i t P planned h level same powers_made images_made a (images_from a)
      (λ j s low high. refl)

  pub stepped_from : (a : ℕ → ℤ) → AreStepped rels factors i (values t) P (images_from a)
  stepped_from a =
      images_stepped rels factors i t P planned h level same powers_made images_made a
      (images_from a) (λ j s low high. refl)

  unique : (A B : Images) → AreImages rels factors i (values t) P A
      → AreImages rels factors i (values t) P B → (j : ℕ) (s : ℤ) → i < j → j ≤ rels.count
      → A j s ≡ B j s
  unique A B ha hb j s low high =
      images_agree rels factors i (values t) P
      (λ y hy. phi_takes_once rels factors i (values t) P planned agree y hy) A B ha hb
      (λ l e a b. images_move rels factors i (values t) P planned agree A ha l e a b)
      (λ l e a b. images_move rels factors i (values t) P planned agree B hb l e a b) j s low high

  image_size : (j : ℕ) → i < j → j ≤ last_of t → length (image_at As t j) ≡ generators t
  image_size j low high =
      let end : t.level + length t.polys ≡ suc n = (bounds_of t h).end in
      length-image t (factors i) (generators t) (n - j) h (omega arith) (omega arith)

  abbrev list : List Assign
  list = into t.level (product As t i) []

  index : (k : ℕ) → i < k → k - i ≡ suc (k - t.level)
  index k low = omega arith

  -- ---- the values
  module _ (A : Images) (are : AreImages rels factors i (values t) P A) (a : ℕ → ℤ) (x y : List ℤ)
      (reads : ReadsAt i rels.count a x y) where
    abbrev w : List ℤ
    w = assembled rels.count (suc i) (values t) P (λ j. A j (entry y i)) x

    abbrev rest : List ℤ
    rest = put y i (pos 0)

    read-w : read t a (product As t i) ≡ w
    read-w =
        let most : t.level ≤ last_of t = (bounds_of t h).most in
        read-product rels factors i t P planned h level same powers_made As a A
        (λ j s low high. unique A (images_from a) are (are_from a) j s low (omega arith))
        image_size product_made x reads.long
        (λ m low high. reads.has_x m (omega arith) (omega arith))
        ∙ ap (λ (s : ℤ). assembled rels.count (suc i) (values t) P (λ j. A j s) x)
        (reads.has_y i (omega arith) (omega arith))

    at_x : (l : ℕ) → t.level ≤ l → l ≤ n → replaced list a l ≡ point_of w rest l
    at_x l low high =
        let b = bounds_of t h in
        let last : last_of t ≤ 48 = b.last in
        let end : t.level + length t.polys ≡ suc n = b.end in
        let long = length-product As t i in
        replaced-x t.level (product As t i) [] a l low (omega arith) (omega arith)
        ∙ sym (point-x w rest l (omega arith) ∙ ap (λ (u : List ℤ). entry u l) (sym read-w)
        ∙ entry-read t a (product As t i) l b.least low high)

    at_y : (l : ℕ) → t.level ≤ l → l ≤ n → replaced list a (y_of l) ≡ point_of w rest (y_of l)
    at_y l low high =
        let b = bounds_of t h in
        let last : last_of t ≤ 48 = b.last in
        let end : t.level + length t.polys ≡ suc n = b.end in
        let long = length-product As t i in
        replaced-y_none t.level (product As t i) a l (omega arith)
        ∙ reads.has_y l (omega arith) (omega arith)
        ∙ sym (point-y w rest l ∙ entry-put_other y i l (pos 0) least (omega arith) (omega arith))

    value-above : (k : ℕ) → t.level ≤ k → k ≤ n
        → value_of a (get_or (put_in list t.polys) (k - t.level) [])
        ≡ entry (summed rels.count i (values t) P A x y) k
    value-above k low high =
        let end : t.level + length t.polys ≡ suc n = (bounds_of t h).end in
        value-put_in step.Last 0 t.level list t.polys (k - t.level) a (omega arith) last_made
        ∙ value-same t k (replaced list a) (point_of w rest) h low high
        record { x = λ l s r. at_x l s (omega arith); y = λ l s r. at_y l s (omega arith) }
        (at_x k low high) (at_y k low high)
        ∙ sym (entry-values t w rest k h low high)
        ∙ sym (entry-put_other (values t w rest) i k (entry x i +ℤ entry y i) least (omega arith)
        (omega arith))

    value-own : value_of a (first_poly i) ≡ entry (summed rels.count i (values t) P A x y) i
    value-own =
        let most : t.level ≤ last_of t = (bounds_of t h).most in
        let long = length-values t w rest in
        value-first a (x_of i) (y_of i)
        ∙ ap (λ (z : ℤ). z +ℤ a (y_of i)) (reads.has_x i (omega arith) (omega arith))
        ∙ ap (λ (z : ℤ). entry x i +ℤ z) (reads.has_y i (omega arith) (omega arith))
        ∙ sym (entry-put_same (values t w rest) i (entry x i +ℤ entry y i) least (omega arith))

    pub value-level : (k : ℕ) → i ≤ k → k ≤ rels.count
        → value_of a (poly_in i polys k) ≡ entry (summed rels.count i (values t) P A x y) k
    value-level k low high =
        elim (eq-or-lt_of_le low) [
          | inl e ↦
              subst (λ (m : ℕ). value_of a (poly_in i polys m)
              ≡ entry (summed rels.count i (values t) P A x y) m) e
              (ap (λ (d : ℕ). value_of a (get_or polys d []))
              (let z : i - i ≡ 0 = omega arith in z) ∙ value-own)
          | inr l ↦
              ap (λ (d : ℕ). value_of a (get_or polys d [])) (index k l)
              ∙ value-above k (omega arith) (omega arith)
        ]

  -- ---- the form
  pub form-level : (k : ℕ) → i ≤ k → k ≤ rels.count → IsPolynomial (poly_in i polys k)
  form-level k low high =
      let b = bounds_of t h in
      let last : last_of t ≤ 48 = b.last in
      let some : t.level ≤ last_of t = b.most in
      let end : t.level + length t.polys ≡ suc n = b.end in
      elim (eq-or-lt_of_le low) [
        | inl e ↦
            subst (λ (m : ℕ). IsPolynomial (poly_in i polys m)) e
            (subst (λ (d : ℕ). IsPolynomial (get_or polys d []))
            (let z : 0 ≡ i - i = omega arith in z)
            (polynomial-first (x_of i) (y_of i) (x_variable i least (omega arith))
            (y_is i least (omega arith)) least (omega arith)))
        | inr l ↦
            subst (λ (d : ℕ). IsPolynomial (get_or polys d [])) (sym (index k l))
            (subst IsPolynomial
            (sym (get_or-map (λ (p : List Term). substituted p list) t.polys (k - t.level) [] []
            (omega arith)))
            (call_at step.Last 0 t.level list t.polys (k - t.level) (omega arith) last_made).form)
      ]

  pub length-level : i + length polys ≡ suc rels.count
  length-level =
      let end : t.level + length t.polys ≡ suc n = (bounds_of t h).end in
      let long = length-map t.polys (λ (p : List Term). substituted p list) in
      omega arith
