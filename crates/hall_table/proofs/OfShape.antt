-- Polynomials whose values have the shape of a table's entry have the shape themselves.
--   level level · k generator · n last generator · v variable · m monomial · p polynomial
--   a b points · x y vectors · f operation
use Rattle.std.proofs.Common.{◌≡◌, ℕ, ◌+◌, ◌≤◌, ◌<◌, Bool, true, false, cond, List, [], ◌∷◌, refl, sym, ap, ◌∙◌, arith, inl, inr}
use Rattle.std.specs.Prelude.{All}
use Rattle.std.proofs.lemmas.Bool.{cases_Bool, cases_lt}
use Rattle.std.proofs.lemmas.Bool.Decides.{nat_tests}
use lib.IntN.{ℤ, ◌+ℤ◌}
use Rattle.nil_word.specs.Words.{IsVector}
use Rattle.nil_word.specs.Exponents.{entry}
use Rattle.hall_law.specs.Table.{Operation}
use Rattle.hall_law.specs.Shape.{cut, IsShaped}
use Rattle.hall_law.proofs.Cutting.{entry-cut_below, entry-cut_above, length-cut}
use Rattle.hall_law.proofs.Entries.{same_entries}
use Rattle.hall_law.proofs.Vectors.{at_of}
use Rattle.binom_poly.specs.declared.part.Part.{Part}
use Rattle.binom_poly.specs.declared.term.Term.{Term}
use Rattle.binom_poly.specs.Monomial.{same_parts, same_parts_is}
use Rattle.binom_poly.specs.Polynomial.{value_of, IsPolynomial}
use Rattle.binom_poly.specs.Totals.{coefficient_at}
use Rattle.binom_poly.specs.Dependence.{DependsOnly, IsTwoAnd}
use Rattle.binom_poly.specs.Variable.{y_of}
use Rattle.binom_poly.proofs.Coefficients.{coefficient_at-cons}
use Rattle.binom_poly.proofs.Separating.{two_and_tested}
use Rattle.binom_poly.proofs.Unique.{rest_is}
use Rattle.hall_table.specs.Shape.{alone, is_alone, coefficient_of, is_lower, AreLower, HasShape}
use Rattle.hall_table.specs.Values.{point_of}
use Rattle.hall_table.proofs.Shapes.{alone_is, not_alone}
use Rattle.hall_table.proofs.OneTable.{x_at, y_at, entry-x_at, entry-y_at, IsVector-x_at, IsVector-y_at, value-at}

-- ---- from the form of two variables and others
is_alone-same_parts : (v : ℕ) (m : List Part) → is_alone v m ≡ same_parts (alone v) m
is_alone-same_parts v m =
    elim (cases_Bool (is_alone v m)) [
      | inl a ↦ a ∙ sym ((same_parts_is (alone v) m).1 (sym (alone_is v m a)))
      | inr a ↦ (elim (cases_Bool (same_parts (alone v) m)) [
        | inl s ↦ absurd (not_alone v m a (sym ((same_parts_is (alone v) m).0 s)))
        | inr s ↦ a ∙ sym s
      ])
    ]

coefficient_of-is : (v : ℕ) (p : List Term) → IsPolynomial p
    → coefficient_of v p ≡ coefficient_at (alone v) p
unfolding coefficient_at IsPolynomial
coefficient_of-is v [] h = refl
coefficient_of-is v (t ∷ ts) h =
    ap (λ (b : Bool). cond b t.coefficient (coefficient_of v ts)) (is_alone-same_parts v t.monomial)
    ∙ ap (λ z. cond (same_parts (alone v) t.monomial) t.coefficient z)
    (coefficient_of-is v ts (rest_is t ts h))
    ∙ sym (coefficient_at-cons (alone v) t ts h)

HasShape-two : (level k : ℕ) (p : List Term) → IsPolynomial p
    → IsTwoAnd (is_lower level k) k (y_of k) p → HasShape level k p
HasShape-two level k p f h = record {
  x = coefficient_of-is k p f ∙ h.first;
  y = coefficient_of-is (y_of k) p f ∙ h.second;
  others = h.others;
}

x_not_lower : (level k : ℕ) → k ≤ 48 → is_lower level k k ≡ false
x_not_lower level k h = grind (arith, nat_tests)

y_not_lower : (level k : ℕ) → k ≤ 48 → is_lower level k (y_of k) ≡ false
y_not_lower level k h = grind (arith, nat_tests)

pub HasShape-points : (level k : ℕ) (g : (ℕ → ℤ) → ℤ) (p : List Term) → k ≤ 48 → IsPolynomial p
    → DependsOnly (is_lower level k) g
    → ((a : ℕ → ℤ) → value_of a p ≡ (a k +ℤ a (y_of k)) +ℤ g a) → HasShape level k p
HasShape-points level k g p h f d e =
    HasShape-two level k p f
    (two_and_tested (is_lower level k) k (y_of k) g p f (λ s. omega arith) (x_not_lower level k h)
    (y_not_lower level k h) d e)

-- ---- from an operation of the shape
cut_x : (n level k : ℕ) (a b : ℕ → ℤ) → 1 ≤ level → level ≤ k → k ≤ n
    → ((m : ℕ) → level ≤ m → m < k → a m ≡ b m)
    → cut n k (x_at n level a) ≡ cut n k (x_at n level b)
cut_x n level k a b least low high h =
    let x = x_at n level a in
    let y = x_at n level b in
    let hx = at_of n level x (IsVector-x_at n level a (omega arith)) in
    let hy = at_of n level y (IsVector-x_at n level b (omega arith)) in
    same_entries n (cut n k x) (cut n k y) (length-cut n k x) (length-cut n k y)
    (λ m one most. elim (cases_lt m k) [
      | inr g ↦ entry-cut_above n k x m one most g ∙ sym (entry-cut_above n k y m one most g)
      | inl l ↦
          entry-cut_below n k x m one most l
          ∙ (elim (cases_lt m level) [
            | inl u ↦ hx.clear m one u ∙ sym (hy.clear m one u)
            | inr u ↦
                entry-x_at n level a m one u most ∙ h m u l ∙ sym (entry-x_at n level b m one u most)
          ])
          ∙ sym (entry-cut_below n k y m one most l)
    ])

lower_x : (level k m : ℕ) → level ≤ m → m < k → is_lower level k m ≡ true
lower_x level k m l h = grind (arith, nat_tests)

lower_y : (level k m : ℕ) → level ≤ m → m < k → is_lower level k (y_of m) ≡ true
lower_y level k m l h = grind (arith, nat_tests)

-- what the lower entries decide
below : ℕ → ℕ → ℕ → Operation → (ℕ → ℤ) → ℤ
below n level k f a = entry (f (cut n k (x_at n level a)) (cut n k (y_at n level a))) k

DependsOnly-below : (n level k : ℕ) (f : Operation) → 1 ≤ level → level ≤ k → k ≤ n
    → DependsOnly (is_lower level k) (below n level k f)
unfolding below
DependsOnly-below n level k f least low high a b same =
    let xs = cut_x n level k a b least low high (λ m l h. same m (lower_x level k m l h)) in
    let ys = cut_x n level k (λ m. a (y_of m)) (λ m. b (y_of m)) least low high
    (λ m l h. same (y_of m) (lower_y level k m l h)) in
    ap (λ z. entry (f z (cut n k (y_at n level a))) k) xs
    ∙ ap (λ z. entry (f (cut n k (x_at n level b)) z) k) ys

pub HasShape-vectors : (n level k : ℕ) (f : Operation) (p : List Term) → 1 ≤ level → level ≤ k → k ≤ n
    → n ≤ 48 → IsPolynomial p → All (λ t. AreLower level (n + 1) t.monomial) p → IsShaped n level f
    → ((x y : List ℤ) → IsVector n level x → IsVector n level y
    → value_of (point_of x y) p ≡ entry (f x y) k)
    → HasShape level k p
unfolding below
HasShape-vectors n level k f p least low high most form held shaped values =
    HasShape-points level k (below n level k f) p (omega arith) form
    (DependsOnly-below n level k f least low high)
    (λ a.
    let x = x_at n level a in
    let y = y_at n level a in
    let hx = IsVector-x_at n level a (omega arith) in
    let hy = IsVector-y_at n level a (omega arith) in
    value-at n level a p least (omega arith) most held
    ∙ values x y hx hy
    ∙ shaped.shape k x y low high hx hy
    ∙ ap (λ z. (z +ℤ entry y k) +ℤ below n level k f a)
    (entry-x_at n level a k (omega arith) low high)
    ∙ ap (λ z. (a k +ℤ z) +ℤ below n level k f a)
    (entry-y_at n level a k (omega arith) low high))
