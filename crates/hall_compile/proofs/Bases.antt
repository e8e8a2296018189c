-- The table of the last generator has the form of a table.
--   n the last generator · k generator · v variable · ps polynomials
use Rattle.std.proofs.Common.{◌≡◌, ◌≢◌, ℕ, ◌-◌, ◌≤◌, Bool, true, false, cond, pos, ◌+ℤ◌, List, [], ◌∷◌, length, get_or, refl, sym, ap, ◌∙◌, subst, inl, inr, arith}
use Rattle.std.specs.Prelude.{◌&&◌}
use Rattle.std.specs.Ordering.{match_ordering, nat_cmp, ordering_then}
use Rattle.std.specs.declared.cmp.Ordering.{Ordering}
use Rattle.std.specs.declared.cmp.Ordering.TheVariants.{Less, Equal}
use Rattle.std.proofs.lemmas.Bool.{lt-ltb, ne_eqb}
use Rattle.std.proofs.lemmas.List.Elements.{All-nil, All-cons}
use Rattle.binom_poly.specs.declared.term.Term.{Term}
use Rattle.binom_poly.specs.Monomial.{degree, IsMonomial, IsMonomialAbove, IsVariable, monomial_cmp, same_parts}
use Rattle.binom_poly.specs.Polynomial.{IsTerm, IsPolynomial, IsPolynomialFrom}
use Rattle.binom_poly.specs.Times.{contribution}
use Rattle.binom_poly.specs.Variable.{x_of, y_of}
use Rattle.binom_poly.specs.Weight.{weight}
use Rattle.binom_poly.specs.Collected.{var_terms, with_term, put_term, collected, SumOverflows}
use Rattle.hall_table.specs.Shape.{alone, is_alone, coefficient_of, AreLower, HasShape}
use Rattle.hall_table.specs.Tabled.{IsTabled, poly_in, IsFirstUnshaped}
use Rattle.hall_table.proofs.Shapes.{is_alone-alone}
use Rattle.hall_table.proofs.Widths.{x_variable, y_variable}
use Rattle.sum_compiler.specs.Plan.{first_poly}
use Rattle.hall_compile.specs.Levels.{base_table}

few : (b : Bool) → cond b 1 0 ≤ 1
few true = omega arith
few false = omega arith

-- 1 and 1 don't overflow
pub small_base : (n : ℕ) → ¬ SumOverflows (var_terms (x_of n)) (var_terms (y_of n))
unfolding weight
small_base n (inl (inl (inl h))) = absurd (omega arith)
small_base n (inl (inl (inr h))) = h
small_base n (inl (inr (inl (inl h)))) = absurd (omega arith)
small_base n (inl (inr (inl (inr h)))) = h
small_base n (inl (inr (inr h))) = h
small_base n (inr h) =
    let a = few (same_parts h.0 (record { var = x_of n; exp = 1 } ∷ [])) in
    let b = few (same_parts h.0 (record { var = y_of n; exp = 1 } ∷ [])) in
    absurd (omega (arith, h.1, a, b))

-- ---- the polynomial
x_before_y : (n : ℕ) → monomial_cmp (alone n) (alone (y_of n)) ≡ Less
unfolding degree
x_before_y n =
    let less : nat_cmp n (y_of n) ≡ Less = rw (lt-ltb n (y_of n) (omega arith)) refl in
    ap (λ (o : Ordering). ordering_then (ordering_then o Equal) Equal) less

two_terms : (n : ℕ) → first_poly n
    ≡ contribution (alone n) (pos 1) ∷ contribution (alone (y_of n)) (pos 1) ∷ []
unfolding collected put_term
two_terms n =
    let x = contribution (alone n) (pos 1) in
    let y = contribution (alone (y_of n)) (pos 1) in
    ap (λ (o : Ordering). match_ordering o (x ∷ y ∷ [])
    (with_term (alone (y_of n)) (pos 1 +ℤ pos 1) []) (y ∷ x ∷ [])) (x_before_y n)

HasShape-first_poly : (n : ℕ) → HasShape n n (first_poly n)
HasShape-first_poly n =
    let x = contribution (alone n) (pos 1) in
    let y = contribution (alone (y_of n)) (pos 1) in
    let IsAllowed : Term → Type 0 =
    λ t. t.monomial ≢ alone n → t.monomial ≢ alone (y_of n) → AreLower n n t.monomial in
    let other : is_alone (y_of n) (alone n) ≡ false =
    ap (λ (b : Bool). b && true) (ne_eqb n (y_of n) (λ e. omega arith)) in
    subst (HasShape n n) (sym (two_terms n)) record {
      x = ap (λ (b : Bool). cond b (pos 1) (coefficient_of n (y ∷ []))) (is_alone-alone n);
      y = ap (λ (b : Bool). cond b (pos 1) (coefficient_of (y_of n) (y ∷ []))) other
          ∙ ap (λ (b : Bool). cond b (pos 1) (pos 0)) (is_alone-alone (y_of n));
      others = All-cons IsAllowed x (y ∷ []) (λ a b. absurd (a refl))
          (All-cons IsAllowed y [] (λ a b. absurd (b refl)) (All-nil IsAllowed));
    }

-- so it isn't the first that hasn't
pub base_shaped : (n k : ℕ) (ps : List (List Term)) → ps ≡ first_poly n ∷ []
    → IsFirstUnshaped n ps k → ⊥
base_shaped n k ps e first =
    let here : k ≡ n = omega (arith, first.from, first.to, ap length e) in
    let place : k - n ≡ 0 = omega (arith, here) in
    let is : get_or ps (k - n) [] ≡ first_poly n =
    ap (λ (i : ℕ). get_or ps i []) place
    ∙ ap (λ (qs : List (List Term)). get_or qs 0 []) e in
    first.breaks (subst (HasShape n k) (sym is)
    (subst (λ (m : ℕ). HasShape n m (first_poly n)) (sym here) (HasShape-first_poly n)))

-- ---- the form
IsMonomial-alone : (v : ℕ) → 1 ≤ v → IsVariable v → IsMonomial (alone v)
unfolding IsMonomialAbove
IsMonomial-alone v l h = (l, h, omega arith, omega arith, tt)

IsTerm-alone : (v : ℕ) → 1 ≤ v → IsVariable v → IsTerm (contribution (alone v) (pos 1))
IsTerm-alone v l h = record {
  monomial = IsMonomial-alone v l h;
  not_zero = λ e. cc;
  within = omega arith;
}

IsPolynomial-two : (n : ℕ) → 1 ≤ n → n ≤ 48
    → IsPolynomial (contribution (alone n) (pos 1) ∷ contribution (alone (y_of n)) (pos 1) ∷ [])
unfolding IsPolynomial IsPolynomialFrom
IsPolynomial-two n a b = (
  IsTerm-alone n a (x_variable n a b),
  x_before_y n,
  IsTerm-alone (y_of n) (omega arith) (y_variable n a b),
)

pub IsTabled-base_table : (n : ℕ) → 1 ≤ n → n ≤ 48 → IsTabled (base_table n)
IsTabled-base_table n a b = record {
  least = a;
  nonempty = omega arith;
  most = omega (arith, b);
  forms = λ i below.
      let first : 0 ≡ i = omega (arith, below) in
      subst (λ (j : ℕ). IsPolynomial (get_or (first_poly n ∷ []) j [])) first
      (subst IsPolynomial (sym (two_terms n)) (IsPolynomial-two n a b));
  shapes = λ k low high.
      let here : n ≡ k = omega (arith, low, high) in
      let zero : 0 ≡ n - n = omega arith in
      subst (λ (m : ℕ). HasShape n m (poly_in n (first_poly n ∷ []) m)) here
      (subst (λ (j : ℕ). HasShape n n (get_or (first_poly n ∷ []) j [])) zero
      (HasShape-first_poly n));
}
