-- Vectors of polynomials that are read at a point, and the polynomials of a table at such points.
--   t table · k l generators · v variable · a b points · ps xs ys polynomials · x y u vectors
use Rattle.std.proofs.Common.{◌≡◌, ℕ, suc, ◌+◌, ◌-◌, ◌<◌, ◌≤◌, Bool, true, false, cond, List, length, sym, ap, ◌∙◌, arith, inl, inr}
use Rattle.std.proofs.lemmas.Bool.{cases_lt, cases_Bool, lt-ltb, le-ltb}
use Rattle.std.proofs.lemmas.Bool.Decides.{nat_tests}
use Rattle.std.proofs.lemmas.Int.{ints}
use lib.IntN.{ℤ, pos, ◌+ℤ◌}
use lib.Dec.{ltb}
use Rattle.nil_word.specs.Words.{IsVector}
use Rattle.nil_word.specs.Exponents.{entry}
use Rattle.hall_law.proofs.Entries.{same_entries, length-map_numbers, entry-map_numbers}
use Rattle.hall_law.proofs.Vectors.{IsAt, vector_of}
use Rattle.binom_poly.specs.declared.term.Term.{Term}
use Rattle.binom_poly.specs.Polynomial.{value_of}
use Rattle.binom_poly.specs.Variable.{y_of}
use Rattle.hall_table.specs.Shape.{is_lower}
use Rattle.hall_table.specs.Tabled.{Tabled, IsTabled, last_of, poly_at, poly_in}
use Rattle.hall_table.specs.Values.{point_of, values}
use Rattle.hall_table.proofs.Entries.{length-values, point_of-x, point_of-y, is_lower-bounds_x, is_lower-bounds_y}
use Rattle.hall_table.proofs.Splitting.{Cuts, value-HasShape}
use Rattle.sum_compiler.specs.Readings.{read}

pub funext : (f g : ℕ → ℤ) → ((v : ℕ) → f v ≡ g v) → f ≡ g
funext f g h = λ i v. h v i

-- ---- the numbers of a table
pub record Bounds (t : Tabled) : Type 0 where
  pub least : 1 ≤ t.level
  pub most : t.level ≤ last_of t
  pub last : last_of t ≤ 48
  pub end : t.level + length t.polys ≡ suc (last_of t)

pub bounds_of : (t : Tabled) → IsTabled t → Bounds t
bounds_of t h =
    let least : 1 ≤ t.level = h.least in
    let nonempty : 0 < length t.polys = h.nonempty in
    let most : t.level + length t.polys ≤ 49 = h.most in
    record { least = least; most = omega arith; last = omega arith; end = omega arith }

-- ---- reading
pub entry-read : (t : Tabled) (a : ℕ → ℤ) (ps : List (List Term)) (k : ℕ) → 1 ≤ t.level → t.level ≤ k
    → k ≤ last_of t → entry (read t a ps) k ≡ value_of a (poly_in t.level ps k)
entry-read t a ps k least low high =
    entry-map_numbers (last_of t)
    (λ m. cond (ltb m t.level) (pos 0) (value_of a (poly_in t.level ps m))) k (omega arith) high
    ∙ ap (λ (b : Bool). cond b (pos 0) (value_of a (poly_in t.level ps k))) (le-ltb k t.level low)

pub IsAt-read : (t : Tabled) (a : ℕ → ℤ) (ps : List (List Term)) → t.level ≤ last_of t
    → IsAt (last_of t) t.level (read t a ps)
IsAt-read t a ps some = record {
  size = length-map_numbers (last_of t)
      (λ m. cond (ltb m t.level) (pos 0) (value_of a (poly_in t.level ps m)));
  clear = λ m low below.
      entry-map_numbers (last_of t)
      (λ i. cond (ltb i t.level) (pos 0) (value_of a (poly_in t.level ps i))) m low (omega arith)
      ∙ ap (λ (b : Bool). cond b (pos 0) (value_of a (poly_in t.level ps m))) (lt-ltb m t.level below);
}

pub IsVector-read : (t : Tabled) (a : ℕ → ℤ) (ps : List (List Term)) → t.level ≤ last_of t
    → IsVector (last_of t) t.level (read t a ps)
IsVector-read t a ps some =
    vector_of (last_of t) t.level (read t a ps) (omega arith) (IsAt-read t a ps some)

-- vectors of the level with equal entries from there on
pub same_from : (t : Tabled) (u v : List ℤ) → IsAt (last_of t) t.level u → IsAt (last_of t) t.level v
    → ((k : ℕ) → t.level ≤ k → k ≤ last_of t → entry u k ≡ entry v k) → u ≡ v
same_from t u v hu hv e =
    same_entries (last_of t) u v hu.size hv.size
    (λ m low high. elim (cases_lt m t.level) [
      | inl l ↦ hu.clear m low l ∙ sym (hv.clear m low l)
      | inr g ↦ e m g high
    ])

pub read_is : (t : Tabled) (a : ℕ → ℤ) (ps : List (List Term)) (u : List ℤ) → Bounds t
    → IsAt (last_of t) t.level u
    → ((k : ℕ) → t.level ≤ k → k ≤ last_of t → value_of a (poly_in t.level ps k) ≡ entry u k)
    → read t a ps ≡ u
read_is t a ps u b hu e =
    same_from t (read t a ps) u (IsAt-read t a ps b.most) hu
    (λ k l h. entry-read t a ps k b.least l h ∙ e k l h)

-- ---- the polynomials of a table: x_k + y_k and what the lower variables decide
lower_part : ℕ → ℕ → (ℕ → ℤ) → ℕ → ℤ
lower_part level k a v = cond (is_lower level k v) (a v) (pos 0)

x_not_lower : (level k : ℕ) → k ≤ 48 → is_lower level k k ≡ false
x_not_lower level k h = grind (arith, nat_tests)

y_not_lower : (level k : ℕ) → k ≤ 48 → is_lower level k (y_of k) ≡ false
y_not_lower level k h = grind (arith, nat_tests)

cuts_lower : (level k : ℕ) (a : ℕ → ℤ) → k ≤ 48 → Cuts level k a (lower_part level k a)
unfolding lower_part
cuts_lower level k a h = record {
  x = ap (λ (b : Bool). cond b (a k) (pos 0)) (x_not_lower level k h);
  y = ap (λ (b : Bool). cond b (a (y_of k)) (pos 0)) (y_not_lower level k h);
  lower = λ v e. sym (ap (λ (b : Bool). cond b (a v) (pos 0)) e);
}

value-parts : (t : Tabled) (k : ℕ) (a : ℕ → ℤ) → IsTabled t → t.level ≤ k → k ≤ last_of t
    → value_of a (poly_at t k)
    ≡ (a k +ℤ a (y_of k)) +ℤ value_of (lower_part t.level k a) (poly_at t k)
value-parts t k a h low high =
    let b = bounds_of t h in
    let last : last_of t ≤ 48 = b.last in
    let end : t.level + length t.polys ≡ suc (last_of t) = b.end in
    value-HasShape t.level k a (lower_part t.level k a) (poly_at t k)
    (cuts_lower t.level k a (omega arith)) (h.forms (k - t.level) (omega arith))
    (h.shapes k low (omega arith))

pub record AgreeBelow (t : Tabled) (k : ℕ) (a b : ℕ → ℤ) : Type 0 where
  pub x : (l : ℕ) → t.level ≤ l → l < k → a l ≡ b l
  pub y : (l : ℕ) → t.level ≤ l → l < k → a (y_of l) ≡ b (y_of l)

lower-agree : (t : Tabled) (k v : ℕ) (a b : ℕ → ℤ) → k ≤ 48 → AgreeBelow t k a b
    → is_lower t.level k v ≡ true → a v ≡ b v
lower-agree t k v a b most g h =
    elim (cases_lt v 64) [
      | inl l ↦
          (let c = is_lower-bounds_x t.level k v (omega arith) l h in g.x v c.0 c.1)
      | inr l ↦
          (let c = is_lower-bounds_y t.level k v (omega arith) l h in
          let e : y_of (v - 64) ≡ v = omega arith in
          ap a (sym e) ∙ g.y (v - 64) c.0 c.1 ∙ ap b e)
    ]

same_lower : (t : Tabled) (k : ℕ) (a b : ℕ → ℤ) → k ≤ 48 → AgreeBelow t k a b
    → lower_part t.level k a ≡ lower_part t.level k b
unfolding lower_part
same_lower t k a b most g =
    funext (λ v. cond (is_lower t.level k v) (a v) (pos 0)) (λ v. cond (is_lower t.level k v) (b v) (pos 0))
    (λ v. elim (cases_Bool (is_lower t.level k v)) [
      | inl h ↦
          ap (λ (c : Bool). cond c (a v) (pos 0)) h ∙ lower-agree t k v a b most g h
          ∙ sym (ap (λ (c : Bool). cond c (b v) (pos 0)) h)
      | inr h ↦
          ap (λ (c : Bool). cond c (a v) (pos 0)) h ∙ sym (ap (λ (c : Bool). cond c (b v) (pos 0)) h)
    ])

-- what x_k alone makes differ
pub value-moved : (t : Tabled) (k : ℕ) (a b : ℕ → ℤ) → IsTabled t → t.level ≤ k → k ≤ last_of t
    → AgreeBelow t k a b → b k ≡ pos 0 → a (y_of k) ≡ b (y_of k)
    → value_of a (poly_at t k) ≡ a k +ℤ value_of b (poly_at t k)
value-moved t k a b h low high g z e =
    let last : last_of t ≤ 48 = (bounds_of t h).last in
    let one = value-parts t k a h low high in
    let two = value-parts t k b h low high in
    let same : value_of (lower_part t.level k a) (poly_at t k)
    ≡ value_of (lower_part t.level k b) (poly_at t k) =
    ap (λ (c : ℕ → ℤ). value_of c (poly_at t k)) (same_lower t k a b (omega arith) g) in
    omega (arith, ints, one, two, same, z, e)

pub value-same : (t : Tabled) (k : ℕ) (a b : ℕ → ℤ) → IsTabled t → t.level ≤ k → k ≤ last_of t
    → AgreeBelow t k a b → a k ≡ b k → a (y_of k) ≡ b (y_of k)
    → value_of a (poly_at t k) ≡ value_of b (poly_at t k)
value-same t k a b h low high g z e =
    let last : last_of t ≤ 48 = (bounds_of t h).last in
    let one = value-parts t k a h low high in
    let two = value-parts t k b h low high in
    let same : value_of (lower_part t.level k a) (poly_at t k)
    ≡ value_of (lower_part t.level k b) (poly_at t k) =
    ap (λ (c : ℕ → ℤ). value_of c (poly_at t k)) (same_lower t k a b (omega arith) g) in
    omega (arith, ints, one, two, same, z, e)

-- ---- the points of two vectors
pub point-x : (x y : List ℤ) (m : ℕ) → m ≤ 48 → point_of x y m ≡ entry x m
point-x x y m l = point_of-x x y m (omega arith)

pub point-y : (x y : List ℤ) (m : ℕ) → point_of x y (y_of m) ≡ entry y m
point-y x y m =
    let e : y_of m - 64 ≡ m = omega arith in
    point_of-y x y (y_of m) (omega arith) ∙ ap (entry y) e

pub IsAt-values : (t : Tabled) (x y : List ℤ) → t.level ≤ last_of t
    → IsAt (last_of t) t.level (values t x y)
IsAt-values t x y some = record {
  size = length-values t x y;
  clear = λ m low below.
      entry-map_numbers (last_of t)
      (λ i. cond (ltb i t.level) (pos 0) (value_of (point_of x y) (poly_at t i))) m low (omega arith)
      ∙ ap (λ (b : Bool). cond b (pos 0) (value_of (point_of x y) (poly_at t m))) (lt-ltb m t.level below);
}
