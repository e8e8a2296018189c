-- Substitutions that don't overflow.
--   p polynomial · list what is put in · t term · ms parts · a point
use Rattle.std.proofs.Common.{◌≡◌, ℕ, ◌≤◌, List, [], ◌∷◌, Option, Some, None, refl, sym, ap, ◌∙◌, subst, arith, inl, inr}
use Rattle.std.specs.Prelude.{◌==◌}
use Rattle.std.proofs.lemmas.Bool.{cases_Bool, cases_lt}
use Rattle.std.specs.Cmp.{unsigned_Decides}
use borrow.Author.Differences.{ints}
use lib.IntN.{ℤ, pos, ◌+ℤ◌, ◌*ℤ◌, *ℤ_comm}
use Rattle.integer.specs.Binomial.{choose}
use Rattle.integer.proofs.Laws.{mul_assoc_ℤ, one-mul_ℤ}
use Rattle.binom_poly.specs.declared.part.Part.{Part}
use Rattle.binom_poly.specs.declared.term.Term.{Term}
use Rattle.binom_poly.specs.Monomial.{IsMonomialAbove, IsMonomial, exponent_of}
use Rattle.binom_poly.specs.Polynomial.{monomial_value, value_of, IsTerm, IsPolynomial, IsPolynomialFrom}
use Rattle.binom_poly.specs.Collected.{constant_terms, sum_of, product_of}
use Rattle.binom_poly.specs.Exponents.{greatest}
use Rattle.binom_poly.proofs.Unique.{rest_is, exponent_here, exponent_later, exponent_low}
use Rattle.binom_poly.proofs.Canonical.{first_term, all_monomials, polynomial-nothing, value-constant_terms, constant_terms-other, polynomial-constant}
use Rattle.poly_subst.specs.declared.assign.Assign.{Assign}
use Rattle.poly_subst.specs.Substitute.{assigned, value_by, replaced, factor_by, factor_of, expanded, ExpandOverflows, term_of, summed_from, SumsOverflow, RowsOverflow, substituted, SubstituteOverflows}
use Rattle.identity_check.specs.Assigned.{ArePolynomials}
use Rattle.identity_check.proofs.Products.{polynomial-sum_of, polynomial-product_of}
use Rattle.identity_check.proofs.Choosing.{value-sum_of, value-product_of, IsChoice, choice_up_to}

-- what stands for a part
pub record IsFactor (list : List Assign) (part : Part) : Type 0 where
  pub form : IsPolynomial (factor_of list part)
  pub value : (a : ℕ → ℤ)
      → value_of a (factor_of list part) ≡ choose (replaced list a part.var) part.exp

own_factor : (part : Part) → IsMonomial (part ∷ []) → IsPolynomial (factor_by None part)
unfolding IsPolynomial IsPolynomialFrom
own_factor part h = record { monomial = h; not_zero = λ e. cc; within = omega arith }

value-own_factor : (a : ℕ → ℤ) (part : Part)
    → value_of a (factor_by None part) ≡ choose (a part.var) part.exp
unfolding value_of monomial_value
value-own_factor a part =
    ones (choose (a part.var) part.exp)
  where
    ones : (x : ℤ) → pos 1 *ℤ (x *ℤ pos 1) +ℤ pos 0 ≡ x
    ones x = omega (arith, ints)

factor_found : (list : List Assign) (part : Part) (o : Option (List Term)) → assigned list part.var ≡ o
    → IsPolynomial (factor_by o part)
    → ((a : ℕ → ℤ) → value_of a (factor_by o part) ≡ choose (value_by o a part.var) part.exp)
    → IsFactor list part
factor_found list part o e form value = record {
  form = subst (λ (r : Option (List Term)). IsPolynomial (factor_by r part)) (sym e) form;
  value = subst (λ (r : Option (List Term)). (a : ℕ → ℤ)
      → value_of a (factor_by r part) ≡ choose (value_by r a part.var) part.exp) (sym e) value;
}

-- by the first place that lists the variable
record Found (part : Part) (o : Option (List Term)) : Type 0 where
  pub form : IsPolynomial (factor_by o part)
  pub value : (a : ℕ → ℤ) → value_of a (factor_by o part) ≡ choose (value_by o a part.var) part.exp

find_factor : (p : List Term) (list : List Assign) (part : Part) → ArePolynomials list
    → ¬ RowsOverflow p list → IsMonomial (part ∷ []) → part.exp ≤ greatest part.var p
    → Found part (assigned list part.var)
unfolding RowsOverflow
find_factor p [] part h n m l =
    record { form = own_factor part m; value = λ a. value-own_factor a part }
find_factor p (s ∷ ss) part h n m l =
    elim (cases_Bool (s.var == part.var)) [
      | inl e ↦
          (let top : part.exp ≤ greatest s.var p =
          subst (λ (v : ℕ). part.exp ≤ greatest v p) (sym ((unsigned_Decides s.var part.var).0 e)) l in
          let c : IsChoice s.to part.exp =
          choice_up_to s.to part.exp (greatest s.var p) top h.0 (λ w. n (inl w)) in
          let o : Found part (Some s.to) = record { form = c.form; value = c.value } in
          rw e o)
      | inr e ↦ rw e (find_factor p ss part h.1 (λ w. n (inr w)) m l)
    ]

AreFactors : List Assign → List Part → Type 0
AreFactors list [] = Unit {0}
AreFactors list (p ∷ ps) = IsFactor list p × AreFactors list ps

-- the parts of a monomial whose exponents the rows reach
factors_within : (p : List Term) (list : List Assign) (low : ℕ) (ms : List Part) → ArePolynomials list
    → ¬ RowsOverflow p list → IsMonomialAbove low ms
    → ((v : ℕ) → exponent_of ms v ≤ greatest v p) → AreFactors list ms
unfolding AreFactors IsMonomialAbove
factors_within p list low [] h n m l = tt
factors_within p list low (part ∷ ms) h n m l =
    let own : part.exp ≤ greatest part.var p = omega (arith, l part.var, exponent_here part ms) in
    let one : IsMonomial (part ∷ []) = (omega (arith, m.0), m.1, m.2, m.3, tt) in
    let found = find_factor p list part h n one own in (
      record { form = found.form; value = found.value },
      factors_within p list part.var ms h n m.4 (later part ms m.4 l),
    )
  where
    later : (q : Part) (qs : List Part) → IsMonomialAbove q.var qs
        → ((v : ℕ) → exponent_of (q ∷ qs) v ≤ greatest v p)
        → (v : ℕ) → exponent_of qs v ≤ greatest v p
    later q qs f g v =
        elim (cases_lt q.var v) [
          | inl b ↦ omega (arith, g v, exponent_later q qs v b)
          | inr b ↦ omega (arith, exponent_low q.var qs v f b)
        ]

-- ---- a term
record IsProduct (list : List Assign) (acc : List Term) (ms : List Part) : Type 0 where
  pub form : IsPolynomial (expanded list acc ms)
  pub value : (a : ℕ → ℤ)
      → value_of a (expanded list acc ms) ≡ value_of a acc *ℤ monomial_value (replaced list a) ms

product-expanded : (list : List Assign) (acc : List Term) (ms : List Part) → IsPolynomial acc
    → AreFactors list ms → ¬ ExpandOverflows list acc ms → IsProduct list acc ms
unfolding AreFactors expanded ExpandOverflows monomial_value
product-expanded list acc [] h f n =
    record { form = h; value = λ a. sym (*ℤ_comm (value_of a acc) (pos 1) ∙ one-mul_ℤ (value_of a acc)) }
product-expanded list acc (p ∷ ps) h f n =
    let next = product_of acc (factor_of list p) in
    let form : IsPolynomial next =
    polynomial-product_of acc (factor_of list p) h f.0.form (λ w. n (inl w)) in
    let rest = product-expanded list next ps form f.1 (λ w. n (inr w)) in
    record {
      form = rest.form;
      value = λ a. rest.value a
          ∙ ap (λ z. z *ℤ monomial_value (replaced list a) ps)
          (value-product_of a acc (factor_of list p) ∙ ap (λ z. value_of a acc *ℤ z) (f.0.value a))
          ∙ mul_assoc_ℤ (value_of a acc) (choose (replaced list a p.var) p.exp)
          (monomial_value (replaced list a) ps);
    }

polynomial-coefficient : (t : Term) → IsTerm t → IsPolynomial (constant_terms t.coefficient)
polynomial-coefficient t h =
    subst IsPolynomial (constant_terms-other t.coefficient h.not_zero)
    (polynomial-constant t.coefficient h.not_zero h.within)

-- ---- the sum
record IsSummed (list : List Assign) (sum ts : List Term) : Type 0 where
  pub form : IsPolynomial (summed_from list sum ts)
  pub value : (a : ℕ → ℤ)
      → value_of a (summed_from list sum ts) ≡ value_of a sum +ℤ value_of (replaced list a) ts

summed-terms : (p : List Term) (list : List Assign) (sum ts : List Term) → ArePolynomials list
    → ¬ RowsOverflow p list → IsPolynomial ts → IsPolynomial sum
    → ((v : ℕ) → greatest v ts ≤ greatest v p) → ¬ SumsOverflow list sum ts → IsSummed list sum ts
unfolding summed_from SumsOverflow value_of greatest IsPolynomial
summed-terms p list sum [] h n f g l m =
    record { form = g; value = λ a. none (value_of a sum) }
  where
    none : (x : ℤ) → x ≡ x +ℤ pos 0
    none x = omega (arith, ints)
summed-terms p list sum (t ∷ ts) h n f g l m =
    let term : IsTerm t = first_term t ts f in
    let factors : AreFactors list t.monomial =
    factors_within p list 0 t.monomial h n term.monomial (λ v. first_within t ts v (l v)) in
    let product = product-expanded list (constant_terms t.coefficient) t.monomial
    (polynomial-coefficient t term) factors (λ w. m (inl (inl w))) in
    let next = sum_of sum (term_of list t) in
    let form : IsPolynomial next =
    polynomial-sum_of sum (term_of list t) (all_monomials sum g)
    (all_monomials (term_of list t) product.form) (λ w. m (inl (inr w))) in
    let rest = summed-terms p list next ts h n (rest_is t ts f) form
    (λ v. later_within t ts v (l v)) (λ w. m (inr w)) in
    record {
      form = rest.form;
      value = λ a. rest.value a
          ∙ ap (λ z. z +ℤ value_of (replaced list a) ts)
          (value-sum_of a sum (term_of list t)
          ∙ ap (λ z. value_of a sum +ℤ z)
          (product.value a
          ∙ ap (λ z. z *ℤ monomial_value (replaced list a) t.monomial)
          (value-constant_terms a t.coefficient)))
          ∙ regroup (value_of a sum) (t.coefficient *ℤ monomial_value (replaced list a) t.monomial)
          (value_of (replaced list a) ts);
    }
  where
    regroup : (x y z : ℤ) → (x +ℤ y) +ℤ z ≡ x +ℤ (y +ℤ z)
    regroup x y z = omega (arith, ints)

    first_within : (u : Term) (us : List Term) (v : ℕ) → greatest v (u ∷ us) ≤ greatest v p
        → exponent_of u.monomial v ≤ greatest v p
    first_within u us v b = omega (arith, b)

    later_within : (u : Term) (us : List Term) (v : ℕ) → greatest v (u ∷ us) ≤ greatest v p
        → greatest v us ≤ greatest v p
    later_within u us v b = omega (arith, b)

pub record IsSubstituted (p : List Term) (list : List Assign) : Type 0 where
  pub form : IsPolynomial (substituted p list)
  pub value : (a : ℕ → ℤ) → value_of a (substituted p list) ≡ value_of (replaced list a) p

pub is_substituted : (p : List Term) (list : List Assign) → IsPolynomial p → ArePolynomials list
    → ¬ SubstituteOverflows p list → IsSubstituted p list
unfolding value_of
is_substituted p list h f n =
    let s = summed-terms p list [] p f (λ w. n (inl w)) h (polynomial-nothing [] refl)
    (λ v. omega arith) (λ w. n (inr w)) in
    record { form = s.form; value = λ a. s.value a ∙ none (value_of (replaced list a) p) }
  where
    none : (x : ℤ) → pos 0 +ℤ x ≡ x
    none x = omega (arith, ints)
