-- The entries of a relation, and where its numbers overflow.
--   pres presentation · t table · j < l and k m generators · x y numbers · a b points
use Rattle.std.proofs.Common.{◌≡◌, ℕ, zero, suc, ◌+◌, ◌^◌, ◌<◌, ◌≤◌, Bool, true, false, if◌then◌else◌, List, [], ◌∷◌, length, refl, sym, ap, ◌∙◌, subst, arith, inl, inr}
use Rattle.std.specs.Prelude.{IsTrue, nat_le, ◌||◌, unsigned_abs}
use Rattle.std.proofs.lemmas.Int.{ints}
use Rattle.std.proofs.lemmas.Bool.{le-leb, lt-ltb, false≢true}
use Rattle.std.proofs.lemmas.Bool.Decides.{eqb_tells, nat_tests}
use Rattle.std.proofs.lemmas.List.Elements.{All-weaker}
use lib.IntN.{ℤ, pos, ◌+ℤ◌, ◌-ℤ◌, ◌*ℤ◌, zero-*ℤ, *ℤ-zero}
use Rattle.integer.specs.Binomial.{choose}
use Rattle.integer.proofs.Binomial.{choose_none, choose_past}
use Rattle.nil_num.specs.Row.{written_product}
use Rattle.nil_word.specs.Words.{power}
use Rattle.nil_word.specs.Exponents.{entry, one_at, count}
use Rattle.nil_word.specs.Factors.{word_of}
use Rattle.nil_pres.specs.declared.syllable.Syllable.{Syllable}
use Rattle.nil_pres.specs.Rights.{IsRight}
use Rattle.nil_pres.specs.Presented.{Presented, IsPresented, right_of}
use Rattle.nil_pres.specs.Relations.{factors_of, is_pair, relations_of}
use Rattle.hall_law.specs.Table.{added, single, exponents}
use Rattle.hall_law.proofs.Vectors.{added_writes, part_same, part_other, length-added}
use Rattle.hall_law.proofs.Counting.{count-append, count-power, one_at-part, length-exponents, entry-exponents}
use Rattle.binom_poly.specs.declared.part.Part.{Part}
use Rattle.binom_poly.specs.declared.term.Term.{Term}
use Rattle.binom_poly.specs.Variable.{y_of}
use Rattle.hall_table.specs.Shape.{is_lower, AreLower}
use Rattle.hall_table.specs.Tabled.{Tabled, IsTabled, last_of, poly_at}
use Rattle.hall_table.specs.Width.{width_for}
use Rattle.hall_table.specs.Order.{overflows_below, row_overflows, sum_overflows}
use Rattle.hall_table.proofs.Covering.{poly_lower}
use Rattle.hall_table.proofs.Putting.{Agree, magnitude-agree}
use Rattle.identity_check.specs.Sides.{unit_vector, entry_of_pair}
use Rattle.identity_check.specs.Overflowing.{EntryRowsOverflow}
use Rattle.identity_check.specs.Pairs.{exponent_in}
use Rattle.identity_check.proofs.Agreeing.{bounds_of, IsOf, AgreeOn, agree_at, entry-single_same, entry-single_other}

-- ---- exponents
count-below : (low high : ℕ) (right : List Syllable) (m : ℕ) → IsRight low high right → m ≤ low
    → count (word_of (factors_of right)) m ≡ pos 0
count-below low high [] m h a = refl
count-below low high (s ∷ rest) m h a =
    let joined = count-append (power s.number s.exp) (word_of (factors_of rest)) m in
    let first : count (power s.number s.exp) m ≡ pos 0 =
    count-power s.exp m s.number ∙ part_other m s.number s.exp (λ e. omega (arith, h.0)) in
    omega (arith, ints, joined, first, count-below s.number high rest m h.4 (omega (arith, h.0)))

count-right : (low high : ℕ) (right : List Syllable) (m : ℕ) → IsRight low high right
    → count (word_of (factors_of right)) m ≡ exponent_in m right
count-right low high [] m h = refl
count-right low high (s ∷ rest) m h =
    let joined = count-append (power s.number s.exp) (word_of (factors_of rest)) m in
    elim (eqb_tells s.number m) as
    (λ _. count (word_of (factors_of (s ∷ rest))) m ≡ exponent_in m (s ∷ rest)) [
      | inl same ↦
          let own : count (power s.number s.exp) m ≡ s.exp =
          count-power s.exp m s.number ∙ part_same m s.number s.exp (sym same.1) in
          let is : exponent_in m (s ∷ rest) ≡ s.exp =
          ap (λ (b : Bool). if b then s.exp else exponent_in m rest) same.0 in
          let later = count-below s.number high rest m h.4 (omega (arith, same)) in
          omega (arith, ints, joined, own, is, later)
      | inr other ↦
          let is : exponent_in m (s ∷ rest) ≡ exponent_in m rest =
          ap (λ (b : Bool). if b then s.exp else exponent_in m rest) other.0 in
          let first : count (power s.number s.exp) m ≡ pos 0 =
          count-power s.exp m s.number ∙ part_other m s.number s.exp (λ e. other.1 (sym e)) in
          omega (arith, ints, joined, is, first, count-right s.number high rest m h.4)
    ]

pub count-pair : (p : Presented) (k j l : ℕ) → IsPresented p → 1 ≤ j → j < l → l ≤ length p.names
    → count ((relations_of p).right j l) k ≡ exponent_in k (right_of p j l)
count-pair p k j l h a b d =
    let pair : is_pair p j l ≡ true =
    grind (arith, le-leb 1 j a, lt-ltb j l b, le-leb l (length p.names) d) in
    ap (λ (t : Bool). count (word_of (if t then factors_of (right_of p j l) else [])) k) pair
    ∙ count-right l (length p.names) (right_of p j l) k (h.lawful j l a b)

pub pair_is : (p : Presented) (k j l : ℕ) → IsPresented p → 1 ≤ j → j < l → l ≤ length p.names
    → 1 ≤ k → k ≤ length p.names
    → (exponent_in k (right_of p j l) +ℤ one_at k l) +ℤ one_at k j ≡ entry_of_pair (relations_of p) j l k
pair_is p k j l h a b d low high =
    let n = length p.names in
    let w = (relations_of p).right j l in
    let v = exponents n w in
    let size : length v ≡ n = length-exponents n w in
    let more : length (added v l (pos 1)) ≡ n = length-added v l (pos 1) ∙ size in
    let one = (added_writes v l (pos 1) (omega arith) (omega arith)).at k low in
    let two = (added_writes (added v l (pos 1)) j (pos 1) a (omega arith)).at k low in
    let own : entry v k ≡ exponent_in k (right_of p j l) =
    entry-exponents n w k low high ∙ count-pair p k j l h a b d in
    omega (arith, ints, one, two, own, one_at-part k l, one_at-part k j)

-- ---- rows of 0 and 1
pub not_above : (n m : ℕ) → m < n → nat_le n m ≡ false
not_above n m l = grind (arith, nat_tests)

small_zero : (k : ℕ) → unsigned_abs (written_product (pos 0) k) ≤ 1
small_zero zero =
    let e : written_product (pos 0) 0 ≡ pos 0 =
    ap (λ z. z *ℤ (pos 0 -ℤ pos 0)) (choose_none (pos 0)) in
    subst (λ z. unsigned_abs z ≤ 1) (sym e) (omega arith)
small_zero (suc k) =
    let e : written_product (pos 0) (suc k) ≡ pos 0 =
    ap (λ z. z *ℤ (pos 0 -ℤ pos (suc k))) (choose_past 0 (suc k) (omega arith))
    ∙ zero-*ℤ (pos 0 -ℤ pos (suc k)) in
    subst (λ z. unsigned_abs z ≤ 1) (sym e) (omega arith)

small_one : (k : ℕ) → unsigned_abs (written_product (pos 1) k) ≤ 1
small_one zero =
    let e : written_product (pos 1) 0 ≡ pos 1 =
    ap (λ z. z *ℤ (pos 1 -ℤ pos 0)) (choose_none (pos 1)) in
    subst (λ z. unsigned_abs z ≤ 1) (sym e) (omega arith)
small_one (suc zero) =
    let e : written_product (pos 1) 1 ≡ pos 0 = *ℤ-zero (choose (pos 1) 1) in
    subst (λ z. unsigned_abs z ≤ 1) (sym e) (omega arith)
small_one (suc (suc k)) =
    let e : written_product (pos 1) (suc (suc k)) ≡ pos 0 =
    ap (λ z. z *ℤ (pos 1 -ℤ pos (suc (suc k)))) (choose_past 1 (suc (suc k)) (omega arith))
    ∙ zero-*ℤ (pos 1 -ℤ pos (suc (suc k))) in
    subst (λ z. unsigned_abs z ≤ 1) (sym e) (omega arith)

below_fits : (x : ℤ) (n : ℕ) → ((k : ℕ) → unsigned_abs (written_product x k) ≤ 1)
    → overflows_below x n ≡ false
below_fits x zero h = refl
below_fits x (suc n) h =
    ap (λ (b : Bool). b || overflows_below x n)
    (not_above (2 ^ 127) (unsigned_abs (written_product x n)) (omega (arith, h n)))
    ∙ below_fits x n h

row_fits : (x : ℤ) (n : ℕ) → ((k : ℕ) → unsigned_abs (written_product x k) ≤ 1)
    → row_overflows x n ≡ false
row_fits x zero h = refl
row_fits x (suc n) h = below_fits x n h

pub row_of_one : (n : ℕ) → row_overflows (pos 1) n ≡ false
row_of_one n = row_fits (pos 1) n small_one

unit_row : (n l m w : ℕ) → 1 ≤ l → l ≤ n → 1 ≤ m
    → row_overflows (entry (single n l (pos 1)) m) w ≡ false
unit_row n l m w low high least =
    elim (eqb_tells m l) [
      | inl same ↦
          ap (λ z. row_overflows z w)
          (ap (entry (single n l (pos 1))) same.1 ∙ entry-single_same n l (pos 1) low high)
          ∙ row_of_one w
      | inr other ↦
          ap (λ z. row_overflows z w) (entry-single_other n l m (pos 1) low least other.1)
          ∙ row_fits (pos 0) w small_zero
    ]

pub rows_fit : (t : Tabled) (j l : ℕ) → IsTabled t → IsOf t j → IsOf t l
    → ¬ EntryRowsOverflow t (unit_vector t l) (unit_vector t j)
rows_fit t j l h oj ol w =
    let b = bounds_of t h in
    let least : 1 ≤ t.level = b.least in
    let low : t.level ≤ w.0 = w.1 in
    let lj : t.level ≤ j = oj.low in
    let ll : t.level ≤ l = ol.low in
    elim w.3 [
      | inl x ↦ false≢true
          (sym (unit_row (last_of t) l w.0 (width_for t w.0) (omega arith) ol.high (omega arith)) ∙ x)
      | inr y ↦ false≢true
          (sym (unit_row (last_of t) j w.0 (width_for t (y_of w.0)) (omega arith) oj.high (omega arith)) ∙ y)
    ]

-- ---- sums
pub sum-agree_on : (t : Tabled) (k : ℕ) (a b : ℕ → ℤ) → IsTabled t → IsOf t k → AgreeOn t a b
    → sum_overflows a (poly_at t k) ≡ sum_overflows b (poly_at t k)
sum-agree_on t k a b h o g =
    ap (λ (n : ℕ). nat_le (2 ^ 127) n)
    (magnitude-agree a b (poly_at t k)
    (All-weaker (λ (u : Term). AreLower t.level (last_of t + 1) u.monomial)
    (λ (u : Term). Agree a b u.monomial)
    (λ u f. All-weaker (λ (q : Part). IsTrue (is_lower t.level (last_of t + 1) q.var))
    (λ (q : Part). a q.var ≡ b q.var)
    (λ q l. agree_at t a b q.var (bounds_of t h) g l) u.monomial f)
    (poly_at t k) (poly_lower t k h o.low o.high)))
