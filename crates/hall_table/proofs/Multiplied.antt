-- The product as the written order gives it.
--   t table · a b vectors · rows rows with their entries · k generator · v variable · p q tests
use Rattle.std.proofs.Common.{◌≡◌, ℕ, zero, suc, ◌+◌, ◌-◌, ◌<◌, ◌≤◌, Bool, true, false, cond, List, ◌∷◌, length, map, refl, sym, ap, ◌∙◌, arith, ◌⊎◌, inl, inr}
use Rattle.std.specs.Prelude.{Option, Some, None, Result, Ok, Err, option_map, All, IsTrue}
use Rattle.std.proofs.lemmas.Bool.{cases_Bool}
use Rattle.std.proofs.lemmas.Bool.Decides.{nat_tests}
use Rattle.std.proofs.lemmas.List.Elements.{All-weaker}
use lib.IntN.{ℤ, pos}
use lib.Dec.{ltb}
use Rattle.nil_word.specs.Exponents.{entry, numbers}
use Rattle.binom_poly.specs.declared.part.Part.{Part}
use Rattle.binom_poly.specs.declared.term.Term.{Term}
use Rattle.binom_poly.specs.Polynomial.{value_of}
use Rattle.binom_poly.specs.Reading.{Reading}
use Rattle.binom_poly.specs.Readings.{value_at}
use Rattle.binom_poly.specs.Variable.{y_of}
use Rattle.nil_num.specs.Bound.{IsNumber, overflows}
use Rattle.nil_num.specs.First.{first_from}
use Rattle.hall_table.specs.declared.wide_at.WideAt.{WideAt}
use Rattle.hall_table.specs.declared.wide_at.WideAt.TheVariants.{RowX, RowY, Sum}
use Rattle.hall_table.specs.Shape.{IsX, is_lower, AreLower}
use Rattle.hall_table.specs.Tabled.{Tabled, IsTabled, last_of, poly_at}
use Rattle.hall_table.specs.Summed.{sum_in, value_in, AreSummed}
use Rattle.hall_table.specs.Values.{point_of, values}
use Rattle.nested_poly.specs.declared.weighed.Weighed.{Weighed}
use Rattle.nested_poly.specs.Counts.{weighed_at, IsSumOf}
use Rattle.hall_table.specs.Order.{generators, named, sum_overflows, x_overflows, y_overflows, sum_at_overflows, multiplied}
use Rattle.hall_table.proofs.Covering.{poly_lower}
use Rattle.hall_table.proofs.Putting.{Agree, value-agree, magnitude-agree}

-- ---- the rows hold the two vectors
pub record Hold (t : Tabled) (a b : List ℤ) (rows : List Reading) : Type 0 where
  pub x : (k : ℕ) → t.level ≤ k → k ≤ last_of t → value_at rows k ≡ entry a k
  pub y : (k : ℕ) → t.level ≤ k → k ≤ last_of t → value_at rows (y_of k) ≡ entry b k

pub rows_hold : (t : Tabled) (a b : List ℤ) (one two : List Reading) → IsTabled t
    → ((k : ℕ) → t.level ≤ k → k ≤ last_of t → value_at one k ≡ entry a k)
    → ((k : ℕ) → t.level ≤ k → k ≤ last_of t → value_at two (y_of k) ≡ entry b k)
    → ((v : ℕ) → IsX v → value_at two v ≡ value_at one v) → Hold t a b two
rows_hold t a b one two h x y kept =
    let most : t.level + length t.polys ≤ 49 = h.most in
    record { x = λ k l m. kept k (omega arith) ∙ x k l m; y = y }

lower_cases : (level n v : ℕ) → is_lower level n v ≡ true
    → ((level ≤ v) × (v < n)) ⊎ ((64 + level ≤ v) × (v < 64 + n))
lower_cases level n v h = grind (arith, nat_tests)

below_64 : (v : ℕ) → v < 64 → ltb v 64 ≡ true
below_64 v h = grind (arith, nat_tests)

not_below_64 : (v : ℕ) → 64 ≤ v → ltb v 64 ≡ false
not_below_64 v h = grind (arith, nat_tests)

pub agree_at : (t : Tabled) (a b : List ℤ) (rows : List Reading) (v : ℕ) → IsTabled t → Hold t a b rows
    → is_lower t.level (last_of t + 1) v ≡ true → value_at rows v ≡ point_of a b v
agree_at t a b rows v h r l =
    let most : t.level + length t.polys ≤ 49 = h.most in
    let nonempty : 0 < length t.polys = h.nonempty in
    elim (lower_cases t.level (last_of t + 1) v l) [
      | inl f ↦
          let low : t.level ≤ v = f.0 in let high : v < last_of t + 1 = f.1 in
          r.x v low (omega arith) ∙ sym (ap (λ (c : Bool). cond c (entry a v) (entry b (v - 64))) (below_64 v (omega arith)))
      | inr f ↦
          let low : 64 + t.level ≤ v = f.0 in let high : v < 64 + (last_of t + 1) = f.1 in
          let e : 64 + (v - 64) ≡ v = omega arith in
          ap (value_at rows) (sym e) ∙ r.y (v - 64) (omega arith) (omega arith)
          ∙ sym (ap (λ (c : Bool). cond c (entry a v) (entry b (v - 64))) (not_below_64 v (omega arith)))
    ]

pub points_agree : (t : Tabled) (a b : List ℤ) (rows : List Reading) (k : ℕ) → IsTabled t → Hold t a b rows → t.level ≤ k
    → k ≤ last_of t → All (λ u. Agree (value_at rows) (point_of a b) u.monomial) (poly_at t k)
points_agree t a b rows k h r low high =
    All-weaker (λ (u : Term). AreLower t.level (last_of t + 1) u.monomial)
    (λ (u : Term). Agree (value_at rows) (point_of a b) u.monomial)
    (λ u f.
    All-weaker (λ (q : Part). IsTrue (is_lower t.level (last_of t + 1) q.var))
    (λ (q : Part). value_at rows q.var ≡ point_of a b q.var)
    (λ q g. agree_at t a b rows q.var h r g) u.monomial f)
    (poly_at t k) (poly_lower t k h low high)

-- ---- the sums
pub first_same : (p q : ℕ → Bool) (low d : ℕ) → ((k : ℕ) → low ≤ k → k < low + d → p k ≡ q k)
    → first_from low d p ≡ first_from low d q
first_same p q low zero h = refl
first_same p q low (suc d) h =
    ap (λ (c : Bool). cond c (Some low) (first_from (suc low) d p)) (h low (omega arith) (omega arith))
    ∙ ap (λ (r : Option ℕ). cond (q low) (Some low) r) (first_same p q (suc low) d (λ k l m. h k (omega arith) (omega arith)))

sums_same : (t : Tabled) (a b : List ℤ) (rows : List Reading) → IsTabled t → Hold t a b rows
    → first_from t.level (generators t) (sum_at_overflows t a b)
    ≡ first_from t.level (generators t) (λ k. sum_overflows (value_at rows) (poly_at t k))
sums_same t a b rows h r =
    first_same (sum_at_overflows t a b) (λ k. sum_overflows (value_at rows) (poly_at t k)) t.level (generators t)
    (λ k l m.
    ap (λ (n : ℕ). overflows n)
    (sym (magnitude-agree (value_at rows) (point_of a b) (poly_at t k) (points_agree t a b rows k h r l (omega arith)))))

named_at : (place : ℕ → WideAt) (found : Option ℕ) (at : WideAt) (rest : Result (List ℤ) WideAt)
    → option_map place found ≡ Some at → named place found rest ≡ Err at
named_at place None at rest h = cc
named_at place (Some k) at rest h = cc

pub sum_named : (t : Tabled) (a b : List ℤ) (rows : List Reading) (at : WideAt) → IsTabled t → Hold t a b rows
    → first_from t.level (generators t) (x_overflows t a) ≡ None → first_from t.level (generators t) (y_overflows t b) ≡ None
    → option_map Sum (first_from t.level (generators t) (λ k. sum_overflows (value_at rows) (poly_at t k))) ≡ Some at
    → multiplied t a b ≡ Err at
sum_named t a b rows at h r x y s =
    let rest = named Sum (first_from t.level (generators t) (sum_at_overflows t a b)) (Ok (values t a b)) in
    ap (λ (f : Option ℕ). named RowX f (named RowY (first_from t.level (generators t) (y_overflows t b)) rest)) x
    ∙ ap (λ (f : Option ℕ). named RowY f rest) y
    ∙ named_at Sum (first_from t.level (generators t) (sum_at_overflows t a b)) at (Ok (values t a b))
    (ap (option_map Sum) (sums_same t a b rows h r) ∙ s)

product_made : (t : Tabled) (a b : List ℤ) (rows : List Reading) → IsTabled t → Hold t a b rows
    → first_from t.level (generators t) (x_overflows t a) ≡ None → first_from t.level (generators t) (y_overflows t b) ≡ None
    → first_from t.level (generators t) (λ k. sum_overflows (value_at rows) (poly_at t k)) ≡ None
    → multiplied t a b ≡ Ok (values t a b)
product_made t a b rows h r x y s =
    let rest = named Sum (first_from t.level (generators t) (sum_at_overflows t a b)) (Ok (values t a b)) in
    ap (λ (f : Option ℕ). named RowX f (named RowY (first_from t.level (generators t) (y_overflows t b)) rest)) x
    ∙ ap (λ (f : Option ℕ). named RowY f rest) y
    ∙ ap (λ (f : Option ℕ). named Sum f (Ok (values t a b))) (sums_same t a b rows h r ∙ s)

-- ---- the vector
map-numbers : (g h : ℕ → ℤ) (low d : ℕ) → ((k : ℕ) → low ≤ k → k < low + d → g k ≡ h k)
    → map g (numbers low d) ≡ map h (numbers low d)
map-numbers g h low zero e = refl
map-numbers g h low (suc d) e =
    ap (λ z. z ∷ map g (numbers (suc low) d)) (e low (omega arith) (omega arith))
    ∙ ap (λ zs. h low ∷ zs) (map-numbers g h (suc low) d (λ k l m. e k (omega arith) (omega arith)))

not_less : (k level : ℕ) → ltb k level ≡ false → level ≤ k
not_less k level h = grind (arith, nat_tests)

pub values_written : (t : Tabled) (a b : List ℤ) (rows : List Reading) (sums : List Weighed) (out : List ℤ) (level last : ℕ) → IsTabled t
    → Hold t a b rows
    → ((k : ℕ) → t.level ≤ k → k ≤ last_of t
    → (value_in t.level sums k ≡ value_of (value_at rows) (poly_at t k)) × IsNumber (value_in t.level sums k))
    → level ≡ t.level → last ≡ last_of t
    → out ≡ map (λ k. cond (ltb k level) (pos 0) (value_in level sums k)) (numbers 1 last) → out ≡ values t a b
values_written t a b rows sums out level last h r s e f o =
    o ∙ ap (λ (i : ℕ). map (λ k. cond (ltb k i) (pos 0) (value_in i sums k)) (numbers 1 last)) e
    ∙ ap (λ (n : ℕ). map (λ k. cond (ltb k t.level) (pos 0) (value_in t.level sums k)) (numbers 1 n)) f
    ∙ map-numbers (λ k. cond (ltb k t.level) (pos 0) (value_in t.level sums k))
    (λ k. cond (ltb k t.level) (pos 0) (value_of (point_of a b) (poly_at t k))) 1 (last_of t)
    (λ k l m. (elim (cases_Bool (ltb k t.level)) [
      | inl c ↦
          ap (λ (i : Bool). cond i (pos 0) (value_in t.level sums k)) c
          ∙ sym (ap (λ (i : Bool). cond i (pos 0) (value_of (point_of a b) (poly_at t k))) c)
      | inr c ↦
          let low = not_less k t.level c in
          ap (λ z. cond (ltb k t.level) (pos 0) z)
          ((s k low (omega arith)).0
          ∙ value-agree (value_at rows) (point_of a b) (poly_at t k) (points_agree t a b rows k h r low (omega arith)))
    ]))

pub product_written : (t : Tabled) (a b out : List ℤ) (rows : List Reading) → IsTabled t → Hold t a b rows
    → first_from t.level (generators t) (x_overflows t a) ≡ None → first_from t.level (generators t) (y_overflows t b) ≡ None
    → first_from t.level (generators t) (λ k. sum_overflows (value_at rows) (poly_at t k)) ≡ None
    → out ≡ values t a b → multiplied t a b ≡ Ok out
product_written t a b out rows h r x y s e = product_made t a b rows h r x y s ∙ ap (λ v. Ok v) (sym e)
