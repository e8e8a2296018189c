-- Tables with equal values have equal polynomials.
--   n last generator · k generator · v variable · a point · x y vectors · s t tables · p q polynomials
use Rattle.std.proofs.Common.{◌≡◌, ℕ, ◌+◌, ◌-◌, ◌<◌, ◌≤◌, Bool, true, cond, List, [], length, map, get_or, sym, ap, ◌∙◌, arith, inl, inr}
use Rattle.std.specs.Prelude.{All, IsTrue}
use Rattle.std.proofs.lemmas.Bool.{cases_lt, lt-ltb, le-ltb}
use Rattle.std.proofs.lemmas.List.{ext_get_or}
use Rattle.std.proofs.lemmas.List.Elements.{All-weaker}
use lib.IntN.{ℤ, pos}
use lib.Dec.{ltb}
use Rattle.nil_word.specs.Words.{IsVector}
use Rattle.nil_word.specs.Exponents.{entry, numbers}
use Rattle.hall_law.proofs.Entries.{length-map_numbers, entry-map_numbers}
use Rattle.hall_law.proofs.Vectors.{vector_of}
use Rattle.binom_poly.specs.declared.part.Part.{Part}
use Rattle.binom_poly.specs.declared.term.Term.{Term}
use Rattle.binom_poly.specs.Polynomial.{value_of}
use Rattle.binom_poly.proofs.Unique.{unique_form}
use Rattle.binom_poly.specs.Variable.{y_of}
use Rattle.hall_table.specs.Shape.{is_lower, AreLower}
use Rattle.hall_table.specs.Tabled.{Tabled, IsTabled, last_of, poly_at}
use Rattle.hall_table.specs.Values.{point_of, values}
use Rattle.hall_table.proofs.Covering.{poly_lower}
use Rattle.hall_table.proofs.Entries.{entry-values, point_of-x, point_of-y, is_lower-bounds_x, is_lower-bounds_y}
use Rattle.hall_table.proofs.Putting.{Agree, value-agree}

-- ---- the vectors that hold a point's values
pub x_at : ℕ → ℕ → (ℕ → ℤ) → List ℤ
x_at n level a = map (λ m. cond (ltb m level) (pos 0) (a m)) (numbers 1 n)

abbrev pub y_at : ℕ → ℕ → (ℕ → ℤ) → List ℤ
y_at n level a = x_at n level (λ k. a (y_of k))

pub entry-x_at : (n level : ℕ) (a : ℕ → ℤ) (m : ℕ) → 1 ≤ m → level ≤ m → m ≤ n
    → entry (x_at n level a) m ≡ a m
unfolding x_at
entry-x_at n level a m low above high =
    entry-map_numbers n (λ k. cond (ltb k level) (pos 0) (a k)) m low high
    ∙ ap (λ (b : Bool). cond b (pos 0) (a m)) (le-ltb m level above)

pub entry-y_at : (n level : ℕ) (a : ℕ → ℤ) (m : ℕ) → 1 ≤ m → level ≤ m → m ≤ n
    → entry (y_at n level a) m ≡ a (y_of m)
entry-y_at n level a m low above high = entry-x_at n level (λ k. a (y_of k)) m low above high

pub IsVector-x_at : (n level : ℕ) (a : ℕ → ℤ) → level ≤ n → IsVector n level (x_at n level a)
unfolding x_at
IsVector-x_at n level a some =
    vector_of n level (x_at n level a) (omega arith) (record {
      size = length-map_numbers n (λ k. cond (ltb k level) (pos 0) (a k));
      clear = λ m low below.
          entry-map_numbers n (λ k. cond (ltb k level) (pos 0) (a k)) m low (omega arith)
          ∙ ap (λ (b : Bool). cond b (pos 0) (a m)) (lt-ltb m level below);
    })

pub IsVector-y_at : (n level : ℕ) (a : ℕ → ℤ) → level ≤ n → IsVector n level (y_at n level a)
IsVector-y_at n level a some = IsVector-x_at n level (λ k. a (y_of k)) some

point-at : (n level : ℕ) (a : ℕ → ℤ) (v : ℕ) → 1 ≤ level → level ≤ n → n ≤ 48
    → is_lower level (n + 1) v ≡ true
    → a v ≡ point_of (x_at n level a) (y_at n level a) v
point-at n level a v least some most h =
    let x = x_at n level a in
    let y = y_at n level a in
    elim (cases_lt v 64) [
      | inl l ↦
          (let b = is_lower-bounds_x level (n + 1) v (omega arith) l h in
          sym (point_of-x x y v l
          ∙ entry-x_at n level a v (omega arith) b.0 (omega arith)))
      | inr g ↦
          (let b = is_lower-bounds_y level (n + 1) v (omega arith) g h in
          let e : y_of (v - 64) ≡ v = omega arith in
          sym (point_of-y x y v g
          ∙ entry-y_at n level a (v - 64) (omega arith) b.0 (omega arith)
          ∙ ap a e))
    ]

-- the value at a point is that at the two vectors
pub value-at : (n level : ℕ) (a : ℕ → ℤ) (p : List Term) → 1 ≤ level → level ≤ n → n ≤ 48
    → All (λ t. AreLower level (n + 1) t.monomial) p
    → value_of a p ≡ value_of (point_of (x_at n level a) (y_at n level a)) p
value-at n level a p least some most held =
    let b = point_of (x_at n level a) (y_at n level a) in
    value-agree a b p
    (All-weaker (λ (u : Term). AreLower level (n + 1) u.monomial)
    (λ (u : Term). Agree a b u.monomial)
    (λ u f. All-weaker (λ (q : Part). IsTrue (is_lower level (n + 1) q.var))
    (λ (q : Part). a q.var ≡ b q.var)
    (λ q l. point-at n level a q.var least some most l) u.monomial f)
    p held)

-- the value of a table's polynomial at a point is an entry of the product of two vectors
value-poly_at : (t : Tabled) (k : ℕ) (a : ℕ → ℤ) → IsTabled t → t.level ≤ k → k ≤ last_of t
    → value_of a (poly_at t k)
    ≡ entry (values t (x_at (last_of t) t.level a) (y_at (last_of t) t.level a)) k
value-poly_at t k a h low high =
    let least : 1 ≤ t.level = h.least in
    let nonempty : 0 < length t.polys = h.nonempty in
    let most : t.level + length t.polys ≤ 49 = h.most in
    let n = last_of t in
    value-at n t.level a (poly_at t k) least (omega arith) (omega arith) (poly_lower t k h low high)
    ∙ sym (entry-values t (x_at n t.level a) (y_at n t.level a) k h low high)

-- ---- equal values
HaveSameValues : Tabled → Tabled → Type 0
HaveSameValues s t = (x y : List ℤ) → IsVector (last_of s) s.level x → IsVector (last_of s) s.level y
    → values s x y ≡ values t x y

value-same_table : (s t : Tabled) (k : ℕ) (a : ℕ → ℤ) → IsTabled s → IsTabled t → s.level ≡ t.level
    → last_of s ≡ last_of t → HaveSameValues s t → s.level ≤ k → k ≤ last_of s
    → value_of a (poly_at s k) ≡ value_of a (poly_at t k)
unfolding HaveSameValues
value-same_table s t k a hs ht level last same low high =
    let least : 1 ≤ s.level = hs.least in
    let nonempty : 0 < length s.polys = hs.nonempty in
    let n = last_of s in
    let moved : (b : ℕ → ℤ) → x_at n s.level b ≡ x_at (last_of t) t.level b =
    λ b. ap (λ (i : ℕ). x_at n i b) level ∙ ap (λ (m : ℕ). x_at m t.level b) last in
    value-poly_at s k a hs low high
    ∙ ap (λ z. entry z k) (same (x_at n s.level a) (y_at n s.level a)
    (IsVector-x_at n s.level a (omega arith)) (IsVector-y_at n s.level a (omega arith)))
    ∙ ap (λ z. entry (values t z (y_at n s.level a)) k) (moved a)
    ∙ ap (λ z. entry (values t (x_at (last_of t) t.level a) z) k) (moved (λ j. a (y_of j)))
    ∙ sym (value-poly_at t k a ht (omega arith) (omega arith))

poly-same_table : (s t : Tabled) (i : ℕ) → IsTabled s → IsTabled t → s.level ≡ t.level
    → last_of s ≡ last_of t → HaveSameValues s t → i < length s.polys → i < length t.polys
    → get_or s.polys i [] ≡ get_or t.polys i []
poly-same_table s t i hs ht level last same here there =
    let at_s : s.level + i - s.level ≡ i = omega arith in
    let at_t : s.level + i - t.level ≡ i = omega arith in
    unique_form (get_or s.polys i []) (get_or t.polys i []) (hs.forms i here) (ht.forms i there)
    (λ a. ap (λ (j : ℕ). value_of a (get_or s.polys j [])) (sym at_s)
    ∙ value-same_table s t (s.level + i) a hs ht level last same (omega arith) (omega arith)
    ∙ ap (λ (j : ℕ). value_of a (get_or t.polys j [])) at_t)

pub same_table : (s t : Tabled) → IsTabled s → IsTabled t → s.level ≡ t.level
    → last_of s ≡ last_of t
    → ((x y : List ℤ) → IsVector (last_of s) s.level x → IsVector (last_of s) s.level y
    → values s x y ≡ values t x y)
    → s ≡ t
unfolding HaveSameValues
same_table s t hs ht level last same =
    let some : 1 ≤ s.level = hs.least in
    let more : 0 < length s.polys = hs.nonempty in
    let most : 0 < length t.polys = ht.nonempty in
    let size : length s.polys ≡ length t.polys = omega arith in
    let polys : s.polys ≡ t.polys =
    ext_get_or [] s.polys t.polys size
    (λ i l. poly-same_table s t i hs ht level last same l (omega arith)) in
    ap (λ (i : ℕ). let r : Tabled = record { level = i; polys = s.polys } in r) level
    ∙ ap (λ (ps : List (List Term)). let r : Tabled = record { level = t.level; polys = ps } in r) polys
