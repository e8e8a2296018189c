-- Points that agree at the variables of a table, and products that are given entry by entry.
--   t table, of generators from its level to n · k m j generators · v variable · a b points
--   x y u vectors · p polynomial
use Rattle.std.proofs.Common.{◌≡◌, ◌≢◌, ℕ, suc, ◌+◌, ◌-◌, ◌<◌, ◌≤◌, true, List, [], ◌∷◌, length, sym, ap, ◌∙◌, arith, inl, inr}
use Rattle.std.specs.Prelude.{All, IsTrue}
use Rattle.std.proofs.lemmas.Bool.{cases_lt}
use Rattle.std.proofs.lemmas.List.Elements.{All-weaker, All-nil, All-cons}
use lib.IntN.{ℤ, pos, ◌+ℤ◌, +ℤ_idl}
use Rattle.nil_word.specs.Words.{IsVector}
use Rattle.nil_word.specs.Exponents.{entry}
use Rattle.hall_law.specs.Table.{zeros, single}
use Rattle.hall_law.proofs.Entries.{same_entries}
use Rattle.hall_law.proofs.Vectors.{IsAt, at_of, entry-added_same, entry-added_other, entry-zeros, IsAt-zeros}
use Rattle.hall_law.proofs.Grading.{IsClosed-from_entries}
use Rattle.binom_poly.specs.declared.part.Part.{Part}
use Rattle.binom_poly.specs.declared.term.Term.{Term}
use Rattle.binom_poly.specs.Variable.{y_of}
use Rattle.binom_poly.specs.Polynomial.{value_of, IsTerm, IsPolynomial}
use Rattle.binom_poly.proofs.Unique.{rest_is}
use Rattle.binom_poly.proofs.Canonical.{first_term}
use Rattle.poly_subst.specs.Renaming.{without, zeroed}
use Rattle.poly_subst.proofs.Vanishing.{value-without}
use Rattle.hall_table.specs.Shape.{is_lower, AreLower}
use Rattle.hall_table.specs.Tabled.{Tabled, IsTabled, last_of, poly_at}
use Rattle.hall_table.specs.Values.{point_of, values}
use Rattle.hall_table.proofs.Covering.{poly_lower}
use Rattle.hall_table.proofs.Entries.{entry-values, point_of-x, point_of-y, is_lower-bounds_x, is_lower-bounds_y}
use Rattle.hall_table.proofs.Putting.{Agree, value-agree}

-- ---- the numbers of a table
pub record Bounds (t : Tabled) : Type 0 where
  pub least : 1 ≤ t.level
  pub most : t.level ≤ last_of t
  pub last : last_of t ≤ 48
  pub end : t.level + length t.polys ≡ suc (last_of t)

pub bounds_of : (t : Tabled) → IsTabled t → Bounds t
bounds_of t h =
    let least : 1 ≤ t.level = h.least in
    let nonempty : 0 < length t.polys = h.nonempty in
    let most : t.level + length t.polys ≤ 49 = h.most in
    record { least = least; most = omega arith; last = omega arith; end = omega arith }

pub record IsOf (t : Tabled) (k : ℕ) : Type 0 where
  pub low : t.level ≤ k
  pub high : k ≤ last_of t

pub form_at : (t : Tabled) (k : ℕ) → IsTabled t → IsOf t k → IsPolynomial (poly_at t k)
form_at t k h o =
    let b = bounds_of t h in
    let low : t.level ≤ k = o.low in
    let high : k ≤ last_of t = o.high in
    let end : t.level + length t.polys ≡ suc (last_of t) = b.end in
    h.forms (k - t.level) (omega arith)

pub all_terms : (p : List Term) → IsPolynomial p → All IsTerm p
unfolding IsPolynomial
all_terms [] h = All-nil IsTerm
all_terms (t ∷ ts) h = All-cons IsTerm t ts (first_term t ts h) (all_terms ts (rest_is t ts h))

-- ---- points
pub record AgreeOn (t : Tabled) (a b : ℕ → ℤ) : Type 0 where
  pub x : (m : ℕ) → IsOf t m → a m ≡ b m
  pub y : (m : ℕ) → IsOf t m → a (y_of m) ≡ b (y_of m)

pub agree_at : (t : Tabled) (a b : ℕ → ℤ) (v : ℕ) → Bounds t → AgreeOn t a b
    → is_lower t.level (last_of t + 1) v ≡ true → a v ≡ b v
agree_at t a b v s g h =
    let last : last_of t ≤ 48 = s.last in
    elim (cases_lt v 64) [
      | inl l ↦
          (let c = is_lower-bounds_x t.level (last_of t + 1) v (omega arith) l h in
          g.x v record { low = c.0; high = omega (arith, c.1) })
      | inr l ↦
          (let c = is_lower-bounds_y t.level (last_of t + 1) v (omega arith) l h in
          let e : y_of (v - 64) ≡ v = omega arith in
          ap a (sym e) ∙ g.y (v - 64) record { low = c.0; high = omega (arith, c.1) } ∙ ap b e)
    ]

pub value-agree_on : (t : Tabled) (k : ℕ) (a b : ℕ → ℤ) → IsTabled t → IsOf t k → AgreeOn t a b
    → value_of a (poly_at t k) ≡ value_of b (poly_at t k)
value-agree_on t k a b h o g =
    value-agree a b (poly_at t k)
    (All-weaker (λ (u : Term). AreLower t.level (last_of t + 1) u.monomial)
    (λ (u : Term). Agree a b u.monomial)
    (λ u f. All-weaker (λ (q : Part). IsTrue (is_lower t.level (last_of t + 1) q.var))
    (λ (q : Part). a q.var ≡ b q.var)
    (λ q l. agree_at t a b q.var (bounds_of t h) g l) u.monomial f)
    (poly_at t k) (poly_lower t k h o.low o.high))

pub value-without_at : (t : Tabled) (k : ℕ) (vs : List ℕ) (a b : ℕ → ℤ) → IsTabled t → IsOf t k
    → AgreeOn t (zeroed vs a) b
    → value_of a (without vs (poly_at t k)) ≡ value_of b (poly_at t k)
value-without_at t k vs a b h o g =
    value-without vs a (poly_at t k) (all_terms (poly_at t k) (form_at t k h o))
    ∙ value-agree_on t k (zeroed vs a) b h o g

pub point-x : (t : Tabled) (x y : List ℤ) (m : ℕ) → Bounds t → IsOf t m
    → point_of x y m ≡ entry x m
point-x t x y m b o =
    let last : last_of t ≤ 48 = b.last in
    let high : m ≤ last_of t = o.high in
    point_of-x x y m (omega arith)

pub point-y : (x y : List ℤ) (m : ℕ) → point_of x y (y_of m) ≡ entry y m
point-y x y m =
    let e : y_of m - 64 ≡ m = omega arith in
    point_of-y x y (y_of m) (omega arith) ∙ ap (entry y) e

-- ---- unit vectors
pub entry-single_same : (n k : ℕ) (c : ℤ) → 1 ≤ k → k ≤ n → entry (single n k c) k ≡ c
entry-single_same n k c low high =
    entry-added_same (zeros n) k c low (omega (arith, (IsAt-zeros n 0).size))
    ∙ ap (λ z. z +ℤ c) (entry-zeros n k) ∙ +ℤ_idl c

pub entry-single_other : (n k m : ℕ) (c : ℤ) → 1 ≤ k → 1 ≤ m → m ≢ k → entry (single n k c) m ≡ pos 0
entry-single_other n k m c low lower ne =
    entry-added_other (zeros n) k m c low lower ne ∙ entry-zeros n m

-- ---- products
pub at-values : (t : Tabled) (x y : List ℤ) → IsTabled t → IsVector (last_of t) t.level x
    → IsVector (last_of t) t.level y → IsVector (last_of t) t.level (values t x y)
at-values t x y h hx hy =
    IsClosed-from_entries (last_of t) t.level (λ k u v. value_of (point_of u v) (poly_at t k))
    ((bounds_of t h).most) x y hx hy

pub entry_is : (t : Tabled) (x y : List ℤ) (k : ℕ) → IsTabled t → IsOf t k
    → entry (values t x y) k ≡ value_of (point_of x y) (poly_at t k)
entry_is t x y k h o = entry-values t x y k h o.low o.high

-- vectors of the level with equal entries from there on
pub same_from : (t : Tabled) (u v : List ℤ) → IsAt (last_of t) t.level u → IsAt (last_of t) t.level v
    → ((k : ℕ) → IsOf t k → entry u k ≡ entry v k) → u ≡ v
same_from t u v hu hv e =
    same_entries (last_of t) u v hu.size hv.size
    (λ m low high. elim (cases_lt m t.level) [
      | inl l ↦ hu.clear m low l ∙ sym (hv.clear m low l)
      | inr g ↦ e m record { low = g; high = high }
    ])

pub values_are : (t : Tabled) (x y u : List ℤ) → IsTabled t → IsVector (last_of t) t.level x
    → IsVector (last_of t) t.level y → IsAt (last_of t) t.level u
    → ((k : ℕ) → IsOf t k → value_of (point_of x y) (poly_at t k) ≡ entry u k) → values t x y ≡ u
values_are t x y u h hx hy hu e =
    same_from t (values t x y) u (at_of (last_of t) t.level (values t x y) (at-values t x y h hx hy)) hu
    (λ k o. entry_is t x y k h o ∙ e k o)
