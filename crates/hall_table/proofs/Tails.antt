-- Polynomials with lower variables set to 0: their form and their shape.
--   v variable · k generator · m monomial · p polynomial · t u terms
use Rattle.std.proofs.Common.{◌≡◌, ◌≢◌, ℕ, ◌≤◌, Bool, true, false, cond, List, [], ◌∷◌, length, get_or, take, refl, sym, ap, ◌∙◌, subst, arith, inl, inr}
use Rattle.std.specs.Prelude.{filter, ◌&&◌}
use Rattle.std.specs.declared.cmp.Ordering.TheVariants.{Less}
use Rattle.std.proofs.lemmas.Bool.{cases_Bool, false≢true}
use Rattle.std.proofs.lemmas.Bool.Decides.{nat_tests}
use Rattle.std.proofs.lemmas.Grind.{common_steps}
use Rattle.std.proofs.lemmas.List.Elements.{All-filter, filter_passes}
use Rattle.std.proofs.lemmas.List.Sums.{AllPass-from_list_all}
use Rattle.binom_poly.specs.declared.part.Part.{Part}
use Rattle.binom_poly.specs.declared.term.Term.{Term}
use Rattle.binom_poly.specs.Monomial.{monomial_cmp, monomial_cmp_total}
use Rattle.binom_poly.specs.Polynomial.{IsTerm, IsPolynomial, IsPolynomialFrom}
use Rattle.binom_poly.proofs.Unique.{rest_is}
use Rattle.binom_poly.specs.Variable.{y_of}
use Rattle.hall_table.specs.Shape.{alone, is_alone, coefficient_of, is_lower, AreLower, HasShape}
use Rattle.hall_table.specs.Tail.{is_from, is_kept, from_level}
use Rattle.hall_table.proofs.Shapes.{alone_is}

-- ---- terms that are left out
earlier : (t u : Term) (ts : List Term) → IsTerm t → monomial_cmp t.monomial u.monomial ≡ Less
    → IsPolynomialFrom u ts → IsPolynomialFrom t ts
unfolding IsPolynomialFrom
earlier t u [] f l h = f
earlier t u (w ∷ ws) f l h = (f, monomial_cmp_total.trans t.monomial u.monomial w.monomial l h.1, h.2)

form_from : (test : Term → Bool) (t : Term) (ts : List Term) → IsPolynomialFrom t ts
    → IsPolynomialFrom t (filter test ts)
unfolding IsPolynomialFrom
form_from test t [] h = h
form_from test t (u ∷ us) h =
    elim (test u) as (λ b. IsPolynomialFrom t (cond b (u ∷ filter test us) (filter test us))) [
      | true ↦ (h.0, h.1, form_from test u us h.2)
      | false ↦ earlier t u (filter test us) h.0 h.1 (form_from test u us h.2)
    ]

pub IsPolynomial-filter : (test : Term → Bool) (ts : List Term) → IsPolynomial ts → IsPolynomial (filter test ts)
unfolding IsPolynomial
IsPolynomial-filter test [] h = h
IsPolynomial-filter test (t ∷ ts) h =
    elim (test t) as (λ b. IsPolynomial (cond b (t ∷ filter test ts) (filter test ts))) [
      | true ↦ form_from test t ts h
      | false ↦ IsPolynomial-filter test ts (rest_is t ts h)
    ]

-- ---- the shape
alone_kept : (level v : ℕ) (m : List Part) → is_from level v ≡ true → is_alone v m ≡ true → is_kept level m ≡ true
alone_kept level v m h e =
    ap (is_kept level) (alone_is v m e) ∙ ap (λ (b : Bool). b && true) h

pub coefficient-from_level : (level v : ℕ) (p : List Term) → is_from level v ≡ true
    → coefficient_of v (from_level level p) ≡ coefficient_of v p
coefficient-from_level level v [] h = refl
coefficient-from_level level v (t ∷ ts) h =
    elim (cases_Bool (is_kept level t.monomial)) [
      | inl k ↦
          ap (λ (b : Bool). coefficient_of v (cond b (t ∷ from_level level ts) (from_level level ts))) k
          ∙ ap (λ z. cond (is_alone v t.monomial) t.coefficient z) (coefficient-from_level level v ts h)
      | inr k ↦
          ap (λ (b : Bool). coefficient_of v (cond b (t ∷ from_level level ts) (from_level level ts))) k
          ∙ coefficient-from_level level v ts h
          ∙ sym (ap (λ (b : Bool). cond b t.coefficient (coefficient_of v ts)) (not_alone_gone k))
    ]
  where
    not_alone_gone : is_kept level t.monomial ≡ false → is_alone v t.monomial ≡ false
    not_alone_gone k =
        elim (cases_Bool (is_alone v t.monomial)) [
          | inl a ↦ absurd (false≢true (sym k ∙ alone_kept level v t.monomial h a))
          | inr a ↦ a
        ]

lower_and_from : (least level k v : ℕ) → k ≤ 48 → is_lower least k v ≡ true → is_from level v ≡ true → is_lower level k v ≡ true
lower_and_from least level k v h l f = grind (arith, nat_tests)

pub lower-from_level : (least level k : ℕ) (m : List Part) → k ≤ 48 → AreLower least k m → is_kept level m ≡ true → AreLower level k m
lower-from_level least level k m h l f = λ i d b.
    lower_and_from least level k (get_or m i d).var h (l i d b)
    (AllPass-from_list_all (λ (q : Part). is_from level q.var) m f i d b)

pub HasShape-from_level : (least level k : ℕ) (p : List Term) → level ≤ k → k ≤ 48 → HasShape least k p
    → HasShape level k (from_level level p)
HasShape-from_level least level k p h b s = record {
  x = coefficient-from_level level k p x_from ∙ s.x;
  y = coefficient-from_level level (y_of k) p y_from ∙ s.y;
  others = λ i d l nx ny.
      lower-from_level least level k (get_or (from_level level p) i d).monomial b
      (All-filter (λ (t : Term). is_kept level t.monomial)
      (λ (t : Term). t.monomial ≢ alone k → t.monomial ≢ alone (y_of k) → AreLower least k t.monomial) p s.others i d l nx ny)
      (filter_passes (λ (t : Term). is_kept level t.monomial) p i d l);
}
  where
    x_from : is_from level k ≡ true
    x_from = grind (arith, nat_tests)

    y_from : is_from level (y_of k) ≡ true
    y_from = grind (arith, nat_tests)

pub kept_form : (level i : ℕ) (kept ts p : List Term) → kept ≡ from_level level (take i ts) → length ts ≤ i
    → ts ≡ p → IsPolynomial p → IsPolynomial kept
kept_form level i kept ts p e l s h =
    let whole : take i ts ≡ ts = grind (arith, common_steps) in
    subst IsPolynomial (sym (e ∙ ap (from_level level) (whole ∙ s)))
    (IsPolynomial-filter (λ (t : Term). is_kept level t.monomial) p h)
