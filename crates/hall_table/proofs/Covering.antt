-- The variables of a table's polynomials have rows of sufficient tops.
--   level level · k generator · v variable · m monomial · p polynomial · ps polynomials · t table
use Rattle.std.proofs.Common.{◌≡◌, ◌≢◌, ℕ, zero, suc, ◌+◌, ◌-◌, ◌<◌, ◌≤◌, Bool, true, cond, List, [], ◌∷◌, length, get_or, refl, sym, ap, ◌∙◌, subst, arith, inl, inr, eqb}
use Rattle.std.specs.Prelude.{max, All, IsTrue}
use Rattle.std.proofs.lemmas.Bool.{cases_Bool, eqb-true}
use Rattle.std.proofs.lemmas.Bool.Decides.{nat_tests}
use Rattle.std.proofs.lemmas.List.Elements.{All-head, All-tail, All-cons, All-nil, All-weaker}
use Rattle.binom_poly.specs.declared.part.Part.{Part}
use Rattle.binom_poly.specs.declared.term.Term.{Term}
use Rattle.binom_poly.specs.Monomial.{IsMonomialAbove, exponent_of}
use Rattle.binom_poly.specs.Polynomial.{IsTerm}
use Rattle.binom_poly.specs.Exponents.{greatest, greatest_in}
use Rattle.binom_poly.specs.Reading.{Reading}
use Rattle.binom_poly.specs.Readings.{width_at, IsCoveredMonomial, IsCovered}
use Rattle.binom_poly.proofs.Sorting.{polynomial_terms}
use Rattle.binom_poly.proofs.Unique.{exponent_here, exponent_later}
use Rattle.binom_poly.specs.Variable.{y_of}
use Rattle.hall_table.specs.Shape.{alone, is_alone, is_lower, AreLower}
use Rattle.hall_table.specs.Tabled.{Tabled, IsTabled, last_of, poly_at}
use Rattle.hall_table.specs.Width.{has_row, width_for, HasRows}
use Rattle.hall_table.proofs.Shapes.{alone_is, not_alone}

-- ---- the variables of a polynomial
is_lower-later : (level k n v : ℕ) → k ≤ n → is_lower level k v ≡ true → is_lower level n v ≡ true
is_lower-later level k n v l h = grind (arith, nat_tests)

pub is_lower-x : (level n k : ℕ) → level ≤ k → k < n → is_lower level n k ≡ true
is_lower-x level n k l h = grind (arith, nat_tests)

pub is_lower-y : (level n k : ℕ) → level ≤ k → k < n → is_lower level n (y_of k) ≡ true
is_lower-y level n k l h = grind (arith, nat_tests)

AreLower-alone : (level n v : ℕ) (m : List Part) → m ≡ alone v → is_lower level n v ≡ true → AreLower level n m
AreLower-alone level n v m e h =
    let P : Part → Type 0 = λ q. IsTrue (is_lower level n q.var) in
    subst (All P) (sym e) (All-cons P record { var = v; exp = 1 } [] h (All-nil P))

AreLower-later : (level k n : ℕ) (m : List Part) → k ≤ n → AreLower level k m → AreLower level n m
AreLower-later level k n m l h =
    All-weaker (λ (q : Part). IsTrue (is_lower level k q.var)) (λ (q : Part). IsTrue (is_lower level n q.var))
    (λ q f. is_lower-later level k n q.var l f) m h

term_lower : (level k n : ℕ) (u : Term) → level ≤ k → k < n
    → (u.monomial ≢ alone k → u.monomial ≢ alone (y_of k) → AreLower level k u.monomial) → AreLower level n u.monomial
term_lower level k n u low high h =
    elim (cases_Bool (is_alone k u.monomial)) [
      | inl x ↦ AreLower-alone level n k u.monomial (alone_is k u.monomial x) (is_lower-x level n k low high)
      | inr x ↦ (elim (cases_Bool (is_alone (y_of k) u.monomial)) [
        | inl y ↦ AreLower-alone level n (y_of k) u.monomial (alone_is (y_of k) u.monomial y) (is_lower-y level n k low high)
        | inr y ↦
            AreLower-later level k n u.monomial (omega arith)
            (h (not_alone k u.monomial x) (not_alone (y_of k) u.monomial y))
      ])
    ]

pub poly_lower : (t : Tabled) (k : ℕ) → IsTabled t → t.level ≤ k → k ≤ last_of t
    → All (λ u. AreLower t.level (last_of t + 1) u.monomial) (poly_at t k)
poly_lower t k h low high =
    let nonempty : 0 < length t.polys = h.nonempty in
    All-weaker (λ (u : Term). u.monomial ≢ alone k → u.monomial ≢ alone (y_of k) → AreLower t.level k u.monomial)
    (λ (u : Term). AreLower t.level (last_of t + 1) u.monomial)
    (λ u f. term_lower t.level k (last_of t + 1) u low (omega arith) f)
    (poly_at t k) (h.shapes k low (omega arith)).others

-- ---- exponents
occurs : (level n v : ℕ) (m : List Part) → AreLower level n m → 1 ≤ exponent_of m v → is_lower level n v ≡ true
unfolding exponent_of
occurs level n v [] h e = absurd (omega arith)
occurs level n v (q ∷ m) h e =
    let P : Part → Type 0 = λ r. IsTrue (is_lower level n r.var) in
    elim (cases_Bool (eqb q.var v)) [
      | inl b ↦ subst (λ (w : ℕ). is_lower level n w ≡ true) (eqb-true q.var v b) (All-head P q m h)
      | inr b ↦
          occurs level n v m (All-tail P q m h)
          (subst (λ (w : ℕ). 1 ≤ w) (ap (λ (c : Bool). cond c q.exp (exponent_of m v)) b) e)
    ]

exponent_within : (v : ℕ) (p : List Term) (i : ℕ) (d : Term) → i < length p
    → exponent_of (get_or p i d).monomial v ≤ greatest v p
unfolding greatest
exponent_within v [] i d l = absurd (omega arith)
exponent_within v (t ∷ p) zero d l = omega arith
exponent_within v (t ∷ p) (suc i) d l = omega (arith, exponent_within v p i d (omega arith))

greatest_within : (v : ℕ) (ps : List (List Term)) (i : ℕ) → i < length ps
    → greatest v (get_or ps i []) ≤ greatest_in v ps
unfolding greatest_in
greatest_within v [] i l = absurd (omega arith)
greatest_within v (p ∷ ps) zero l = omega arith
greatest_within v (p ∷ ps) (suc i) l = omega (arith, greatest_within v ps i (omega arith))

covered_monomial : (rows : List Reading) (low : ℕ) (m : List Part) → IsMonomialAbove low m
    → ((v : ℕ) → low < v → 1 ≤ exponent_of m v → exponent_of m v < width_at rows v) → IsCoveredMonomial rows m
unfolding IsMonomialAbove
covered_monomial rows low [] f h = tt
covered_monomial rows low (q ∷ m) f h =
    let some : 1 ≤ q.exp = f.2 in (
      subst (λ (e : ℕ). e < width_at rows q.var) (exponent_here q m)
          (h q.var f.0 (subst (λ (e : ℕ). 1 ≤ e) (sym (exponent_here q m)) some)),
      covered_monomial rows q.var m f.4
          (λ v l e.
          let first : low < q.var = f.0 in
          subst (λ (x : ℕ). x < width_at rows v) (exponent_later q m v l)
          (h v (omega arith) (subst (λ (x : ℕ). 1 ≤ x) (sym (exponent_later q m v l)) e))),
    )

covered_terms : (rows : List Reading) (p : List Term) → All IsTerm p
    → All (λ u. (v : ℕ) → 1 ≤ exponent_of u.monomial v → exponent_of u.monomial v < width_at rows v) p → IsCovered rows p
covered_terms rows [] f h = tt
covered_terms rows (u ∷ p) f h =
    let P : Term → Type 0 = λ w. (v : ℕ) → 1 ≤ exponent_of w.monomial v → exponent_of w.monomial v < width_at rows v in (
      covered_monomial rows 0 u.monomial (All-head IsTerm u p f).monomial (λ v l e. All-head P u p h v e),
      covered_terms rows p (All-tail IsTerm u p f) (All-tail P u p h),
    )

pub width_for-row : (t : Tabled) (v : ℕ) → has_row t v ≡ true → width_for t v ≡ max (greatest_in v t.polys) 1 + 1
width_for-row t v h = ap (λ (b : Bool). cond b (max (greatest_in v t.polys) 1 + 1) 0) h

pub covered : (t : Tabled) (rows : List Reading) (k : ℕ) → IsTabled t → HasRows t rows → t.level ≤ k → k ≤ last_of t
    → IsCovered rows (poly_at t k)
covered t rows k h r low high =
    let nonempty : 0 < length t.polys = h.nonempty in
    covered_terms rows (poly_at t k) (polynomial_terms (poly_at t k) (h.forms (k - t.level) (omega arith)))
    (λ i d l v e.
    let row = occurs t.level (last_of t + 1) v (get_or (poly_at t k) i d).monomial (poly_lower t k h low high i d l) e in
    let w : width_at rows v ≡ max (greatest_in v t.polys) 1 + 1 = r.width v ∙ width_for-row t v row in
    let a = exponent_within v (poly_at t k) i d l in
    let b : greatest v (poly_at t k) ≤ greatest_in v t.polys = greatest_within v t.polys (k - t.level) (omega arith) in
    omega arith)

row_positive : (t : Tabled) (rows : List Reading) (v : ℕ) → HasRows t rows → has_row t v ≡ true → 0 < width_at rows v
row_positive t rows v r h =
    let w : width_at rows v ≡ max (greatest_in v t.polys) 1 + 1 = r.width v ∙ width_for-row t v h in omega arith

pub x_positive : (t : Tabled) (rows : List Reading) (k : ℕ) → HasRows t rows → t.level ≤ k → k ≤ last_of t → 0 < width_at rows k
x_positive t rows k r low high = row_positive t rows k r (is_lower-x t.level (last_of t + 1) k low (omega arith))

pub y_positive : (t : Tabled) (rows : List Reading) (k : ℕ) → HasRows t rows → t.level ≤ k → k ≤ last_of t
    → 0 < width_at rows (y_of k)
y_positive t rows k r low high = row_positive t rows (y_of k) r (is_lower-y t.level (last_of t + 1) k low (omega arith))

pub same_default : (ps : List (List Term)) (i : ℕ) (d : List Term) → i < length ps → get_or ps i d ≡ get_or ps i []
same_default [] i d l = absurd (omega arith)
same_default (p ∷ ps) zero d l = refl
same_default (p ∷ ps) (suc i) d l = same_default ps i d (omega arith)

pub covered_at : (t s : Tabled) (rows : List Reading) (k i : ℕ) (p : List Term) → s ≡ t → IsTabled s → HasRows t rows
    → t.level ≤ k → k ≤ last_of t → i ≡ k - s.level → p ≡ get_or s.polys i p → IsCovered rows p
covered_at t s rows k i p v h r low high e f =
    let nonempty : 0 < length s.polys = h.nonempty in
    let top : k ≤ last_of s = subst (λ (u : Tabled). k ≤ last_of u) (sym v) high in
    let bottom : s.level ≤ k = subst (λ (u : Tabled). u.level ≤ k) (sym v) low in
    subst (IsCovered rows)
    (sym (f ∙ same_default s.polys i p (omega arith) ∙ ap (λ (j : ℕ). get_or s.polys j []) e ∙ ap (λ (u : Tabled). poly_at u k) v))
    (covered t rows k (subst IsTabled v h) r low high)
