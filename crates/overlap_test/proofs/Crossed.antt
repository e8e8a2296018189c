-- Points that are 0 but at x_k and y_j, j < k, where the powers of a_k and a_j commute by a table:
-- its polynomials have the values there of x_k, of y_j, or of 0.
--   t table · n last generator · level level · j < k m generators · v variable · a b points
--   s e exponents
use Rattle.std.proofs.Common.{◌≡◌, ◌≢◌, ℕ, ◌+◌, ◌<◌, ◌≤◌, Bool, true, false, [], length, sym, ap, ◌∙◌, arith, inl, inr}
use Rattle.std.specs.Prelude.{◌==◌, ◌||◌}
use Rattle.std.proofs.lemmas.Bool.{cases_lt}
use Rattle.std.proofs.lemmas.Bool.Decides.{nat_tests, eqb_tells}
use Rattle.std.proofs.lemmas.Int.{ints}
use lib.IntN.{ℤ, pos, ◌+ℤ◌}
use Rattle.nil_word.specs.Exponents.{entry}
use Rattle.hall_law.specs.Table.{single}
use Rattle.hall_law.proofs.Entries.{same_entries}
use Rattle.hall_law.proofs.Vectors.{at_of, part, part_same, part_other, IsAt-single}
use Rattle.binom_poly.specs.Polynomial.{value_of}
use Rattle.binom_poly.specs.Collected.{var_terms}
use Rattle.binom_poly.specs.Variable.{y_of}
use Rattle.binom_poly.proofs.Canonical.{value-var_terms}
use Rattle.binom_poly.proofs.Depending.{masked, masked_there, masked_elsewhere}
use Rattle.hall_table.specs.Tabled.{Tabled, IsTabled, last_of, poly_at}
use Rattle.hall_table.specs.Values.{values}
use Rattle.hall_table.proofs.Covering.{poly_lower}
use Rattle.hall_table.proofs.Entries.{entry-values}
use Rattle.hall_table.proofs.OneTable.{x_at, y_at, entry-x_at, IsVector-x_at, value-at}
use Rattle.group_eval.proofs.Appending.{entry-single}

-- ---- the vector of a point that is 0 but at one place
own_part : (k m : ℕ) (b : ℕ → ℤ) → (m ≢ k → b m ≡ pos 0) → b m ≡ part m k (b k)
own_part k m b other =
    elim (eqb_tells m k) [
      | inl same ↦ ap b same.1 ∙ sym (part_same m k (b k) same.1)
      | inr apart ↦ other apart.1 ∙ sym (part_other m k (b k) apart.1)
    ]

single_at : (n level k : ℕ) (b : ℕ → ℤ) → 1 ≤ level → level ≤ k → k ≤ n
    → ((m : ℕ) → level ≤ m → m ≤ n → m ≢ k → b m ≡ pos 0) → x_at n level b ≡ single n k (b k)
single_at n level k b least low high other =
    let at = at_of n level (x_at n level b) (IsVector-x_at n level b (omega arith)) in
    let alone = IsAt-single n level k (b k) (omega arith) low in
    same_entries n (x_at n level b) (single n k (b k)) at.size alone.size
    (λ m first last. elim (cases_lt m level) [
      | inl below ↦ at.clear m first below ∙ sym (alone.clear m first below)
      | inr above ↦
          entry-x_at n level b m first above last ∙ own_part k m b (other m above last)
          ∙ sym (entry-single n k (b k) m (omega arith) high first)
    ])

-- ---- the two variables that may differ from 0
abbrev pub is_free : ℕ → ℕ → ℕ → Bool
is_free j k v = (v == k) || (v == y_of j)

free_x : (j k : ℕ) → is_free j k k ≡ true
free_x j k = grind (arith, nat_tests)

free_y : (j k : ℕ) → is_free j k (y_of j) ≡ true
free_y j k = grind (arith, nat_tests)

bound : (j k v : ℕ) → v ≢ k → v ≢ y_of j → is_free j k v ≡ false
bound j k v x y = grind (arith, nat_tests)

-- powers of a_j and a_k, j < k, are added up in each order
pub record Commutes (t : Tabled) (j k : ℕ) : Type 0 where
  pub tabled : IsTabled t
  pub low : t.level ≤ j
  pub between : j < k
  pub high : k ≤ last_of t
  pub entries : (s e : ℤ) (m : ℕ) → 1 ≤ m
      → entry (values t (single (last_of t) k s) (single (last_of t) j e)) m
      ≡ part m j e +ℤ part m k s

module _ (t : Tabled) (j k : ℕ) (c : Commutes t j k) where
  pub positive : 1 ≤ t.level
  positive = c.tabled.least

  pub most : last_of t ≤ 48
  most = let top : t.level + length t.polys ≤ 49 = c.tabled.most in
      let some : 0 < length t.polys = c.tabled.nonempty in omega arith

  -- the point with 0 at each other variable
  abbrev pub cut : (ℕ → ℤ) → ℕ → ℤ
  cut a = masked (is_free j k) a

  pub cut-x : (a : ℕ → ℤ) → cut a k ≡ a k
  cut-x a = masked_there (is_free j k) a k (free_x j k)

  pub cut-y : (a : ℕ → ℤ) → cut a (y_of j) ≡ a (y_of j)
  cut-y a = masked_there (is_free j k) a (y_of j) (free_y j k)

  pub cut-other : (a : ℕ → ℤ) (v : ℕ) → v ≢ k → v ≢ y_of j → cut a v ≡ pos 0
  cut-other a v x y = masked_elsewhere (is_free j k) a v (bound j k v x y)

  left_is : (a : ℕ → ℤ) → x_at (last_of t) t.level (cut a) ≡ single (last_of t) k (a k)
  left_is a =
      let least = positive in
      let top = most in
      let low : t.level ≤ j = c.low in
      let between : j < k = c.between in
      single_at (last_of t) t.level k (cut a) least (omega arith) c.high
      (λ m l u o. cut-other a m o (λ f. omega arith))
      ∙ ap (single (last_of t) k) (cut-x a)

  right_is : (a : ℕ → ℤ) → y_at (last_of t) t.level (cut a) ≡ single (last_of t) j (a (y_of j))
  right_is a =
      let least = positive in
      let top = most in
      let between : j < k = c.between in
      let high : k ≤ last_of t = c.high in
      single_at (last_of t) t.level j (λ m. cut a (y_of m)) least c.low (omega arith)
      (λ m l u o. cut-other a (y_of m) (λ f. omega arith) (λ f. o (omega arith)))
      ∙ ap (single (last_of t) j) (cut-y a)

  -- the value at a cut point is an entry of the product
  value-cut : (a : ℕ → ℤ) (m : ℕ) → t.level ≤ m → m ≤ last_of t
      → value_of (cut a) (poly_at t m) ≡ part m j (a (y_of j)) +ℤ part m k (a k)
  value-cut a m l u =
      let least = positive in
      let x = x_at (last_of t) t.level (cut a) in
      let y = y_at (last_of t) t.level (cut a) in
      value-at (last_of t) t.level (cut a) (poly_at t m) least (omega arith) most
      (poly_lower t m c.tabled l u)
      ∙ sym (entry-values t x y m c.tabled l u)
      ∙ ap (λ z. entry (values t z y) m) (left_is a)
      ∙ ap (λ z. entry (values t (single (last_of t) k (a k)) z) m) (right_is a)
      ∙ c.entries (a k) (a (y_of j)) m (omega arith)

  pub value-k : (a : ℕ → ℤ) → value_of (cut a) (poly_at t k) ≡ value_of a (var_terms k)
  value-k a =
      let low : t.level ≤ j = c.low in
      let between : j < k = c.between in
      value-cut a k (omega arith) c.high
      ∙ sum (part k j (a (y_of j))) (part k k (a k)) (a k)
      (part_other k j (a (y_of j)) (λ f. omega arith)) (part_same k k (a k) (omega arith))
      ∙ sym (value-var_terms a k)
    where
      sum : (w u z : ℤ) → w ≡ pos 0 → u ≡ z → w +ℤ u ≡ z
      sum w u z e f = omega (arith, ints)

  pub value-j : (a : ℕ → ℤ) → value_of (cut a) (poly_at t j) ≡ value_of a (var_terms (y_of j))
  value-j a =
      let between : j < k = c.between in
      let high : k ≤ last_of t = c.high in
      value-cut a j c.low (omega arith)
      ∙ sum (part j j (a (y_of j))) (part j k (a k)) (a (y_of j))
      (part_same j j (a (y_of j)) (omega arith)) (part_other j k (a k) (λ f. omega arith))
      ∙ sym (value-var_terms a (y_of j))
    where
      sum : (w u z : ℤ) → w ≡ z → u ≡ pos 0 → w +ℤ u ≡ z
      sum w u z e f = omega (arith, ints)

  pub value-other : (a : ℕ → ℤ) (m : ℕ) → t.level ≤ m → m ≤ last_of t → m ≢ j → m ≢ k
      → value_of (cut a) (poly_at t m) ≡ value_of a []
  unfolding value_of
  value-other a m l u first second =
      value-cut a m l u
      ∙ none (part m j (a (y_of j))) (part m k (a k)) (part_other m j (a (y_of j)) first)
      (part_other m k (a k) second)
    where
      none : (w z : ℤ) → w ≡ pos 0 → z ≡ pos 0 → w +ℤ z ≡ pos 0
      none w z e f = omega (arith, ints)
