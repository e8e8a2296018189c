-- Binomial coefficients of a polynomial that don't overflow.
--   p polynomial · m r exponents · a point
use Rattle.std.proofs.Common.{◌≡◌, ℕ, zero, suc, ◌+◌, ◌-◌, ◌≤◌, List, ◌++◌, sym, ap, ◌∙◌, subst, arith, inl, inr, add-one}
use Rattle.std.proofs.lemmas.Bool.{cases_Bool}
use Rattle.std.specs.Ordering.{int_eq}
use borrow.Author.Differences.{ints}
use lib.IntN.{ℤ, pos, ◌+ℤ◌, ◌-ℤ◌, ◌*ℤ◌, neg_ℤ}
use Rattle.integer.specs.Binomial.{choose}
use Rattle.integer.proofs.Binomial.{choose_none}
use Rattle.binom_poly.specs.declared.term.Term.{Term}
use Rattle.binom_poly.specs.Monomial.{IsMonomialAbove}
use Rattle.binom_poly.specs.Polynomial.{value_of, IsPolynomial}
use Rattle.binom_poly.specs.Sums.{AllMonomials}
use Rattle.binom_poly.specs.Times.{product_terms}
use Rattle.binom_poly.specs.Collected.{constant_terms, sum_of, product_of, quotient_of, AllDivisible}
use Rattle.binom_poly.proofs.Canonical.{all_monomials, polynomial-constant, constant_terms-other, value-constant_terms, polynomial-quotient, value-quotient}
use Rattle.binom_poly.proofs.Collecting.{value-collected}
use Rattle.binom_poly.proofs.Multiplying.{value-product_terms}
use Rattle.binom_poly.proofs.Times.{value-append}
use Rattle.poly_subst.specs.Choose.{lowered, choose_of, StepOverflows, ChooseOverflows}
use Rattle.poly_subst.proofs.Exactness.{divisible, quotient_value}
use Rattle.identity_check.proofs.Products.{polynomial-sum_of, polynomial-product_of}

pub value-sum_of : (a : ℕ → ℤ) (p q : List Term) → value_of a (sum_of p q) ≡ value_of a p +ℤ value_of a q
value-sum_of a p q = value-collected a (p ++ q) ∙ value-append a p q

pub value-product_of : (a : ℕ → ℤ) (p q : List Term)
    → value_of a (product_of p q) ≡ value_of a p *ℤ value_of a q
value-product_of a p q = value-collected a (product_terms p q) ∙ value-product_terms a p q

pub monomials-constant_terms : (c : ℤ) → AllMonomials (constant_terms c)
unfolding IsMonomialAbove
monomials-constant_terms c =
    elim (cases_Bool (int_eq c (pos 0))) [ inl e ↦ rw e tt | inr e ↦ rw e (tt, tt) ]

value-lowered : (a : ℕ → ℤ) (p : List Term) (r : ℕ)
    → value_of a (lowered p r) ≡ value_of a p -ℤ pos r
value-lowered a p r =
    value-sum_of a p (constant_terms (neg_ℤ (pos r)))
    ∙ ap (λ z. value_of a p +ℤ z) (value-constant_terms a (neg_ℤ (pos r)))
    ∙ less (value_of a p) (pos r)
  where
    less : (x y : ℤ) → x +ℤ neg_ℤ y ≡ x -ℤ y
    less x y = omega (arith, ints)

-- what a binomial coefficient is
pub record IsChoice (p : List Term) (m : ℕ) : Type 0 where
  pub form : IsPolynomial (choose_of p m)
  pub value : (a : ℕ → ℤ) → value_of a (choose_of p m) ≡ choose (value_of a p) m

next_choice : (p : List Term) (r : ℕ) → IsPolynomial p → ¬ StepOverflows p r → IsChoice p r
    → IsChoice p (suc r)
unfolding choose_of
next_choice p r h n s =
    let low : IsPolynomial (lowered p r) =
    polynomial-sum_of p (constant_terms (neg_ℤ (pos r))) (all_monomials p h)
    (monomials-constant_terms (neg_ℤ (pos r))) (λ w. n (inl w)) in
    let q = product_of (choose_of p r) (lowered p r) in
    let form : IsPolynomial q =
    polynomial-product_of (choose_of p r) (lowered p r) s.form low (λ w. n (inr w)) in
    let value : (a : ℕ → ℤ) → value_of a q ≡ choose (value_of a p) r *ℤ (value_of a p -ℤ pos r) =
    λ a. value-product_of a (choose_of p r) (lowered p r)
    ∙ ap (λ z. z *ℤ value_of a (lowered p r)) (s.value a)
    ∙ ap (λ z. choose (value_of a p) r *ℤ z) (value-lowered a p r) in
    let d : AllDivisible (suc r) q =
    subst (λ (m : ℕ). AllDivisible m q) (add-one r) (divisible r (λ a. value_of a p) q form value) in
    record {
      form = polynomial-quotient (suc r) q (omega arith) d form;
      value = λ a.
          quotient_value r (value_of a p) (value_of a (quotient_of q (suc r))) (value_of a q) (value a)
          (subst (λ (m : ℕ). value_of a (quotient_of q (suc r)) *ℤ pos m ≡ value_of a q) (sym (add-one r))
          (value-quotient a (suc r) q (omega arith) d))
          ∙ ap (λ (m : ℕ). choose (value_of a p) m) (add-one r);
    }

pub choice-choose_of : (p : List Term) (m : ℕ) → IsPolynomial p → ¬ ChooseOverflows p m → IsChoice p m
unfolding choose_of ChooseOverflows
choice-choose_of p zero h n = record {
  form = subst IsPolynomial (constant_terms-other (pos 1) (λ e. cc))
      (polynomial-constant (pos 1) (λ e. cc) (omega arith));
  value = λ a. value-constant_terms a (pos 1) ∙ sym (choose_none (value_of a p));
}
choice-choose_of p (suc r) h n =
    next_choice p r h (λ w. n (inr w)) (choice-choose_of p r h (λ w. n (inl w)))

fewer : (p : List Term) (r d : ℕ) → ChooseOverflows p r → ChooseOverflows p (r + d)
unfolding ChooseOverflows
fewer p r zero h = subst (ChooseOverflows p) (let s : r ≡ r + 0 = omega arith in s) h
fewer p r (suc d) h =
    subst (ChooseOverflows p) (let s : suc (r + d) ≡ r + suc d = omega arith in s) (inl (fewer p r d h))

pub choice_up_to : (p : List Term) (r m : ℕ) → r ≤ m → IsPolynomial p → ¬ ChooseOverflows p m
    → IsChoice p r
choice_up_to p r m l h n =
    choice-choose_of p r h
    (λ w. n (subst (ChooseOverflows p) (let s : r + (m - r) ≡ m = omega arith in s) (fewer p r (m - r) w)))
