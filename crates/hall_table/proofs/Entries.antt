-- The entries of the product that a table gives: their shape, and those of the table from a level on.
--   level level · v variable · k generator · x y vectors · t table
use Rattle.std.proofs.Common.{◌≡◌, ℕ, ◌+◌, ◌-◌, ◌<◌, ◌≤◌, Bool, true, false, cond, List, length, sym, ap, ◌∙◌, arith, inl, inr}
use Rattle.std.specs.Prelude.{IsTrue}
use Rattle.std.proofs.lemmas.Bool.{cases_lt, lt-ltb, le-ltb}
use Rattle.std.proofs.lemmas.Bool.Decides.{nat_tests}
use Rattle.std.proofs.lemmas.List.Elements.{All-weaker}
use lib.IntN.{ℤ, pos, ◌+ℤ◌}
use lib.Dec.{ltb}
use Rattle.nil_word.specs.Words.{IsVector}
use Rattle.nil_word.specs.Exponents.{entry}
use Rattle.hall_law.specs.Shape.{cut, IsShaped}
use Rattle.hall_law.proofs.Entries.{length-map_numbers}
use Rattle.hall_law.proofs.Cutting.{entry-cut_below, entry-cut_above}
use Rattle.hall_law.proofs.Grading.{entry-from_entries}
use Rattle.hall_law.proofs.Vectors.{IsAt, at_of}
use Rattle.binom_poly.specs.declared.part.Part.{Part}
use Rattle.binom_poly.specs.declared.term.Term.{Term}
use Rattle.binom_poly.specs.Polynomial.{value_of}
use Rattle.binom_poly.specs.Variable.{y_of}
use Rattle.hall_table.specs.Shape.{is_lower, AreLower}
use Rattle.hall_table.specs.Tabled.{Tabled, IsTabled, last_of, poly_at}
use Rattle.hall_table.specs.Tail.{is_from, tail_of, at_level}
use Rattle.hall_table.specs.Values.{point_of, values}
use Rattle.hall_table.proofs.Covering.{poly_lower}
use Rattle.hall_table.proofs.Dropping.{IsTabled-tail_of, last_of-tail_of, value_of-tail_of}
use Rattle.hall_table.proofs.Putting.{Agree, value-agree}
use Rattle.hall_table.proofs.Splitting.{Cuts, value-HasShape}

pub entry-values : (t : Tabled) (x y : List ℤ) (k : ℕ) → IsTabled t → t.level ≤ k → k ≤ last_of t
    → entry (values t x y) k ≡ value_of (point_of x y) (poly_at t k)
entry-values t x y k h low high =
    let least : 1 ≤ t.level = h.least in
    entry-from_entries (last_of t) t.level (λ j u v. value_of (point_of u v) (poly_at t j)) x y k
    (omega arith) low high

pub length-values : (t : Tabled) (x y : List ℤ) → length (values t x y) ≡ last_of t
length-values t x y =
    length-map_numbers (last_of t)
    (λ k. cond (ltb k t.level) (pos 0) (value_of (point_of x y) (poly_at t k)))

-- ---- points
pub point_of-x : (x y : List ℤ) (v : ℕ) → v < 64 → point_of x y v ≡ entry x v
point_of-x x y v l = ap (λ (b : Bool). cond b (entry x v) (entry y (v - 64))) (lt-ltb v 64 l)

pub point_of-y : (x y : List ℤ) (v : ℕ) → 64 ≤ v → point_of x y v ≡ entry y (v - 64)
point_of-y x y v l = ap (λ (b : Bool). cond b (entry x v) (entry y (v - 64))) (le-ltb v 64 l)

point_of-y_of : (x y : List ℤ) (k : ℕ) → point_of x y (y_of k) ≡ entry y k
point_of-y_of x y k =
    let e : y_of k - 64 ≡ k = omega arith in
    point_of-y x y (y_of k) (omega arith) ∙ ap (entry y) e

-- a lower variable is x_l or y_l with l from the level on and below k
pub is_lower-bounds_x : (level k v : ℕ) → k ≤ 49 → v < 64 → is_lower level k v ≡ true
    → (level ≤ v) × (v < k)
is_lower-bounds_x level k v s l h = (grind (arith, nat_tests), grind (arith, nat_tests))

pub is_lower-bounds_y : (level k v : ℕ) → k ≤ 49 → 64 ≤ v → is_lower level k v ≡ true
    → (level ≤ v - 64) × (v - 64 < k)
is_lower-bounds_y level k v s l h = (grind (arith, nat_tests), grind (arith, nat_tests))

cut_point : (n level k : ℕ) (x y : List ℤ) (v : ℕ) → 1 ≤ level → k ≤ n → n ≤ 48
    → is_lower level k v ≡ true → point_of x y v ≡ point_of (cut n k x) (cut n k y) v
cut_point n level k x y v least high most h =
    elim (cases_lt v 64) [
      | inl l ↦
          (let b = is_lower-bounds_x level k v (omega arith) l h in
          point_of-x x y v l ∙ sym (entry-cut_below n k x v (omega arith) (omega arith) b.1)
          ∙ sym (point_of-x (cut n k x) (cut n k y) v l))
      | inr g ↦
          (let b = is_lower-bounds_y level k v (omega arith) g h in
          point_of-y x y v g ∙ sym (entry-cut_below n k y (v - 64) (omega arith) (omega arith) b.1)
          ∙ sym (point_of-y (cut n k x) (cut n k y) v g))
    ]

Cuts-cut : (n level k : ℕ) (x y : List ℤ) → 1 ≤ level → level ≤ k → k ≤ n → n ≤ 48
    → Cuts level k (point_of x y) (point_of (cut n k x) (cut n k y))
Cuts-cut n level k x y least low high most = record {
  x = point_of-x (cut n k x) (cut n k y) k (omega arith)
      ∙ entry-cut_above n k x k (omega arith) high (omega arith);
  y = point_of-y_of (cut n k x) (cut n k y) k
      ∙ entry-cut_above n k y k (omega arith) high (omega arith);
  lower = λ v h. cut_point n level k x y v least high most h;
}

-- ---- the shape
entry-shaped : (t : Tabled) (k : ℕ) (x y : List ℤ) → IsTabled t → t.level ≤ k → k ≤ last_of t
    → entry (values t x y) k
    ≡ (entry x k +ℤ entry y k) +ℤ entry (values t (cut (last_of t) k x) (cut (last_of t) k y)) k
entry-shaped t k x y h low high =
    let least : 1 ≤ t.level = h.least in
    let nonempty : 0 < length t.polys = h.nonempty in
    let most : t.level + length t.polys ≤ 49 = h.most in
    let n = last_of t in
    entry-values t x y k h low high
    ∙ value-HasShape t.level k (point_of x y) (point_of (cut n k x) (cut n k y)) (poly_at t k)
    (Cuts-cut n t.level k x y least low high (omega arith)) (h.forms (k - t.level) (omega arith))
    (h.shapes k low (omega arith))
    ∙ same_sum (point_of x y k) (entry x k) (point_of x y (y_of k)) (entry y k)
    (value_of (point_of (cut n k x) (cut n k y)) (poly_at t k))
    (entry (values t (cut n k x) (cut n k y)) k) (point_of-x x y k (omega arith))
    (point_of-y_of x y k) (entry-values t (cut n k x) (cut n k y) k h low high)
  where
    same_sum : (u x v y w z : ℤ) → u ≡ x → v ≡ y → z ≡ w → (u +ℤ v) +ℤ w ≡ (x +ℤ y) +ℤ z
    same_sum u x v y w z e f g = cc

pub IsShaped-values : (t : Tabled) → IsTabled t → IsShaped (last_of t) t.level (values t)
IsShaped-values t h = record { shape = λ k x y low high hx hy. entry-shaped t k x y h low high }

-- ---- the table from a level on
at_level-from : (level : ℕ) (a : ℕ → ℤ) (v : ℕ) → is_from level v ≡ true → at_level level a v ≡ a v
at_level-from level a v h = ap (λ (b : Bool). cond b (a v) (pos 0)) h

at_level-below : (level : ℕ) (a : ℕ → ℤ) (v : ℕ) → is_from level v ≡ false → at_level level a v ≡ pos 0
at_level-below level a v h = ap (λ (b : Bool). cond b (a v) (pos 0)) h

is_from-low : (level v : ℕ) → level ≤ 48 → v < level → is_from level v ≡ false
is_from-low level v s l = grind (arith, nat_tests)

is_from-high : (level v : ℕ) → level ≤ v → v < 64 → is_from level v ≡ true
is_from-high level v l h = grind (arith, nat_tests)

is_from-low_y : (level v : ℕ) → 64 ≤ v → v - 64 < level → is_from level v ≡ false
is_from-low_y level v s l = grind (arith, nat_tests)

is_from-high_y : (level v : ℕ) → 64 ≤ v → level ≤ v - 64 → is_from level v ≡ true
is_from-high_y level v s l = grind (arith, nat_tests)

-- x and y are 0 below the level already
at_level-point : (n level low : ℕ) (x y : List ℤ) (v : ℕ) → 1 ≤ low → level ≤ n → n ≤ 48
    → IsAt n level x → IsAt n level y → is_lower low (n + 1) v ≡ true
    → at_level level (point_of x y) v ≡ point_of x y v
at_level-point n level low x y v least some most hx hy h =
    let a = point_of x y in
    elim (cases_lt v 64) [
      | inl l ↦
          (let b = is_lower-bounds_x low (n + 1) v (omega arith) l h in
          elim (cases_lt v level) [
            | inl u ↦
                at_level-below level a v (is_from-low level v (omega arith) u)
                ∙ sym (point_of-x x y v l ∙ hx.clear v (omega arith) u)
            | inr u ↦ at_level-from level a v (is_from-high level v u l)
          ])
      | inr g ↦
          (let b = is_lower-bounds_y low (n + 1) v (omega arith) g h in
          elim (cases_lt (v - 64) level) [
            | inl u ↦
                at_level-below level a v (is_from-low_y level v g u)
                ∙ sym (point_of-y x y v g ∙ hy.clear (v - 64) (omega arith) u)
            | inr u ↦ at_level-from level a v (is_from-high_y level v g u)
          ])
    ]

Agree-at_level : (n level low : ℕ) (x y : List ℤ) (m : List Part) → 1 ≤ low → level ≤ n
    → n ≤ 48 → IsAt n level x → IsAt n level y → AreLower low (n + 1) m
    → Agree (at_level level (point_of x y)) (point_of x y) m
Agree-at_level n level low x y m least some most hx hy h =
    All-weaker (λ (q : Part). IsTrue (is_lower low (n + 1) q.var))
    (λ (q : Part). at_level level (point_of x y) q.var ≡ point_of x y q.var)
    (λ q l. at_level-point n level low x y q.var least some most hx hy l) m h

pub entry-tail_of : (t : Tabled) (level : ℕ) → IsTabled t → t.level ≤ level → level ≤ last_of t
    → (x y : List ℤ) → IsVector (last_of t) level x → IsVector (last_of t) level y → (k : ℕ)
    → level ≤ k → k ≤ last_of t → entry (values (tail_of t level) x y) k ≡ entry (values t x y) k
entry-tail_of t level h from to x y hx hy k low high =
    let least : 1 ≤ t.level = h.least in
    let nonempty : 0 < length t.polys = h.nonempty in
    let most : t.level + length t.polys ≤ 49 = h.most in
    let n = last_of t in
    let last = last_of-tail_of t level h from to in
    entry-values (tail_of t level) x y k (IsTabled-tail_of t level h from to) low (omega arith)
    ∙ value_of-tail_of t level k (point_of x y) h from low high
    ∙ value-agree (at_level level (point_of x y)) (point_of x y) (poly_at t k)
    (All-weaker (λ (u : Term). AreLower t.level (n + 1) u.monomial)
    (λ (u : Term). Agree (at_level level (point_of x y)) (point_of x y) u.monomial)
    (λ u f. Agree-at_level n level t.level x y u.monomial least to (omega arith)
    (at_of n level x hx) (at_of n level y hy) f)
    (poly_at t k) (poly_lower t k h (omega arith) high))
    ∙ sym (entry-values t x y k h (omega arith) high)
