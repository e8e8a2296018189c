-- Points that are 0 but at the x from the level up to a generator g and at the y of g: a table's
-- polynomials have the values there of x_k, of x_g + y_g, or of 0.
--   level level · n last generator · g k m generators · e exponent · v variable · a point
--   x vector · t table
use Rattle.std.proofs.Common.{◌≡◌, ◌≢◌, ℕ, ◌+◌, ◌-◌, ◌<◌, ◌≤◌, Bool, true, false, List, [], ◌∷◌, length, refl, sym, ap, ◌∙◌, arith, inl, inr}
use Rattle.std.specs.Prelude.{nat_le, ◌==◌, ◌&&◌, ◌||◌}
use Rattle.std.proofs.lemmas.Bool.{cases_lt}
use Rattle.std.proofs.lemmas.Bool.Decides.{nat_tests, eqb_tells}
use Rattle.std.proofs.lemmas.Int.{ints}
use Rattle.std.proofs.lemmas.List.{get_or_past}
use lib.IntN.{ℤ, pos, ◌+ℤ◌}
use Rattle.nil_word.specs.Words.{IsVector}
use Rattle.nil_word.specs.Exponents.{entry}
use Rattle.hall_law.specs.Table.{added, single, IsZeroAbove}
use Rattle.hall_law.proofs.Entries.{same_entries}
use Rattle.hall_law.proofs.Vectors.{at_of, added_writes, part, part_same, part_other, IsAt-single}
use Rattle.binom_poly.specs.Polynomial.{value_of, IsPolynomial}
use Rattle.binom_poly.specs.Variable.{y_of}
use Rattle.binom_poly.proofs.Depending.{masked, masked_there, masked_elsewhere}
use Rattle.hall_table.specs.Tabled.{Tabled, IsTabled, last_of, poly_at}
use Rattle.hall_table.specs.Values.{values}
use Rattle.hall_table.proofs.Covering.{poly_lower}
use Rattle.hall_table.proofs.Entries.{entry-values}
use Rattle.hall_table.proofs.OneTable.{x_at, y_at, entry-x_at, entry-y_at, IsVector-x_at, IsVector-y_at, value-at}
use Rattle.group_eval.proofs.Appending.{entry-single}
use Rattle.group_eval.proofs.FewVariables.{of_var, value-one, value-two}

-- ---- the variables that may differ from 0: the x from the level up to g, and the y of g
abbrev pub is_free : ℕ → ℕ → ℕ → Bool
is_free level g v = (nat_le level v && nat_le v g) || (v == y_of g)

free_x : (level g v : ℕ) → level ≤ v → v ≤ g → is_free level g v ≡ true
free_x level g v low high = grind (arith, nat_tests)

free_y : (level g : ℕ) → is_free level g (y_of g) ≡ true
free_y level g = grind (arith, nat_tests)

bound_x : (level g v : ℕ) → g < v → v < 64 → is_free level g v ≡ false
bound_x level g v low high = grind (arith, nat_tests)

bound_y : (level g v : ℕ) → g ≤ 48 → 64 ≤ v → v ≢ y_of g → is_free level g v ≡ false
bound_y level g v most high other = grind (arith, nat_tests)

-- g is a generator of the table, and x with e added is the product of x and e at g, where x is 0
-- above g
pub record AddsAt (t : Tabled) (g : ℕ) : Type 0 where
  pub tabled : IsTabled t
  pub low : t.level ≤ g
  pub high : g ≤ last_of t
  pub adds : (e : ℤ) (x : List ℤ) → IsVector (last_of t) t.level x → IsZeroAbove g x
      → values t x (single (last_of t) g e) ≡ added x g e

module _ (t : Tabled) (g : ℕ) (s : AddsAt t g) where
  pub positive : 1 ≤ t.level
  positive = s.tabled.least

  pub most : last_of t ≤ 48
  most = let top : t.level + length t.polys ≤ 49 = s.tabled.most in
      let some : 0 < length t.polys = s.tabled.nonempty in omega arith

  -- the point with 0 at each variable that isn't free
  abbrev pub cut : (ℕ → ℤ) → ℕ → ℤ
  cut a = masked (is_free t.level g) a

  abbrev left : (ℕ → ℤ) → List ℤ
  left a = x_at (last_of t) t.level (cut a)

  abbrev right : (ℕ → ℤ) → List ℤ
  right a = y_at (last_of t) t.level (cut a)

  pub cut-free : (a : ℕ → ℤ) (v : ℕ) → t.level ≤ v → v ≤ g → cut a v ≡ a v
  cut-free a v l u = masked_there (is_free t.level g) a v (free_x t.level g v l u)

  pub cut-y : (a : ℕ → ℤ) → cut a (y_of g) ≡ a (y_of g)
  cut-y a = masked_there (is_free t.level g) a (y_of g) (free_y t.level g)

  pub cut-x_above : (a : ℕ → ℤ) (v : ℕ) → g < v → v < 64 → cut a v ≡ pos 0
  cut-x_above a v l u = masked_elsewhere (is_free t.level g) a v (bound_x t.level g v l u)

  pub cut-y_other : (a : ℕ → ℤ) (v : ℕ) → 64 ≤ v → v ≢ y_of g → cut a v ≡ pos 0
  cut-y_other a v l o =
      masked_elsewhere (is_free t.level g) a v
      (bound_y t.level g v (let top = most in omega arith) l o)

  left_in : (a : ℕ → ℤ) → IsVector (last_of t) t.level (left a)
  left_in a = IsVector-x_at (last_of t) t.level (cut a) (omega arith)

  left_above : (a : ℕ → ℤ) → IsZeroAbove g (left a)
  left_above a m l =
      let top = most in
      let least = positive in
      elim (cases_lt (last_of t) m) [
        | inl past ↦ get_or_past (left a) (m - 1) (pos 0) (omega (arith, (left_in a).entries))
        | inr within ↦
            entry-x_at (last_of t) t.level (cut a) m (omega arith) (omega arith) within
            ∙ cut-x_above a m l (omega arith)
      ]

  pub entry-other : (e : ℤ) (m : ℕ) → 1 ≤ m → m ≢ g → entry (single (last_of t) g e) m ≡ pos 0
  entry-other e m first other =
      let least = positive in
      entry-single (last_of t) g e m (omega arith) s.high first ∙ part_other m g e other

  pub entry-own : (e : ℤ) → entry (single (last_of t) g e) g ≡ e
  entry-own e =
      let least = positive in
      entry-single (last_of t) g e g (omega arith) s.high (omega arith) ∙ part_same g g e refl

  right-entry : (a : ℕ → ℤ) (m : ℕ) → t.level ≤ m → m ≤ last_of t
      → entry (right a) m ≡ entry (single (last_of t) g (a (y_of g))) m
  right-entry a m l u =
      let least = positive in
      entry-y_at (last_of t) t.level (cut a) m (omega arith) l u
      ∙ (elim (eqb_tells m g) [
        | inl same ↦
            ap (λ (k : ℕ). cut a (y_of k)) same.1 ∙ cut-y a
            ∙ sym (entry-own (a (y_of g)))
            ∙ ap (entry (single (last_of t) g (a (y_of g)))) (sym same.1)
        | inr other ↦
            cut-y_other a (y_of m) (omega arith) (λ f. other.1 (omega arith))
            ∙ sym (entry-other (a (y_of g)) m (omega arith) other.1)
      ])

  right_is : (a : ℕ → ℤ) → right a ≡ single (last_of t) g (a (y_of g))
  right_is a =
      let least = positive in
      let n = last_of t in
      let clear = (at_of n t.level (right a) (IsVector-y_at n t.level (cut a) (omega arith))).clear in
      same_entries n (right a) (single n g (a (y_of g)))
      (IsVector-y_at n t.level (cut a) (omega arith)).entries
      (IsAt-single n t.level g (a (y_of g)) (omega arith) s.low).size
      (λ m first last. elim (cases_lt m t.level) [
        | inl below ↦ clear m first below
            ∙ sym (entry-other (a (y_of g)) m first (λ f. omega arith))
        | inr above ↦ right-entry a m above last
      ])

  -- the value at a cut point is an entry of the product
  value-cut : (a : ℕ → ℤ) (k : ℕ) → t.level ≤ k → k ≤ last_of t
      → value_of (cut a) (poly_at t k) ≡ cut a k +ℤ part k g (a (y_of g))
  value-cut a k l u =
      let least = positive in
      let n = last_of t in
      let e = a (y_of g) in
      let sum = (added_writes (left a) g e (omega arith)
      (omega (arith, (left_in a).entries))).at k (omega arith) in
      value-at n t.level (cut a) (poly_at t k) least (omega arith) most (poly_lower t k s.tabled l u)
      ∙ sym (entry-values t (left a) (right a) k s.tabled l u)
      ∙ ap (λ z. entry (values t (left a) z) k) (right_is a)
      ∙ ap (λ z. entry z k) (s.adds e (left a) (left_in a) (left_above a))
      ∙ sum
      ∙ ap (λ z. z +ℤ part k g e) (entry-x_at n t.level (cut a) k (omega arith) l u)

  pub value-below : (a : ℕ → ℤ) (k : ℕ) → t.level ≤ k → k < g
      → value_of (cut a) (poly_at t k) ≡ value_of a (of_var k ∷ [])
  value-below a k l u =
      value-cut a k l (omega arith)
      ∙ only (cut a k) (a k) (part k g (a (y_of g))) (cut-free a k l (omega arith))
      (part_other k g (a (y_of g)) (λ f. omega arith))
      ∙ sym (value-one a k)
    where
      only : (w y z : ℤ) → w ≡ y → z ≡ pos 0 → w +ℤ z ≡ y
      only w y z e f = omega (arith, ints)

  pub value-own : (a : ℕ → ℤ)
      → value_of (cut a) (poly_at t g) ≡ value_of a (of_var g ∷ of_var (y_of g) ∷ [])
  value-own a =
      value-cut a g s.low s.high
      ∙ sum (cut a g) (a g) (part g g (a (y_of g))) (a (y_of g)) (cut-free a g s.low (omega arith))
      (part_same g g (a (y_of g)) refl)
      ∙ sym (value-two a g)
    where
      sum : (w y u z : ℤ) → w ≡ y → u ≡ z → w +ℤ u ≡ y +ℤ z
      sum w y u z e f = omega (arith, ints)

  pub value-above : (a : ℕ → ℤ) (k : ℕ) → g < k → k ≤ last_of t
      → value_of (cut a) (poly_at t k) ≡ value_of a []
  unfolding value_of
  value-above a k l u =
      let top = most in
      value-cut a k (omega arith) u
      ∙ none (cut a k) (part k g (a (y_of g))) (cut-x_above a k l (omega arith))
      (part_other k g (a (y_of g)) (λ f. omega arith))
    where
      none : (w z : ℤ) → w ≡ pos 0 → z ≡ pos 0 → w +ℤ z ≡ pos 0
      none w z e f = omega (arith, ints)

  pub form : (k : ℕ) → t.level ≤ k → k ≤ last_of t → IsPolynomial (poly_at t k)
  form k l u = let some : 0 < length t.polys = s.tabled.nonempty in s.tabled.forms (k - t.level) (omega arith)
