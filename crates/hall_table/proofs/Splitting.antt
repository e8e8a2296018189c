-- The values of polynomials of the shape: f_k is x_k + y_k and a part of the variables below k.
--   v variable · k generator · m monomial · t term · p polynomial · a b points
use Rattle.std.proofs.Common.{◌≡◌, ◌≢◌, ℕ, Bool, true, false, cond, List, [], ◌∷◌, refl, ap, ◌∙◌, subst, arith, inl, inr}
use Rattle.std.specs.Prelude.{All, IsTrue}
use Rattle.std.specs.declared.cmp.Ordering.TheVariants.{Less}
use Rattle.std.proofs.lemmas.Bool.{cases_Bool}
use Rattle.std.proofs.lemmas.Bool.Decides.{nat_tests}
use Rattle.std.proofs.lemmas.List.Elements.{All-head, All-tail, All-weaker}
use lib.IntN.{ℤ, pos, ◌+ℤ◌, ◌*ℤ◌}
use borrow.Author.Differences.{ints}
use Rattle.integer.proofs.Laws.{add-mul}
use Rattle.binom_poly.specs.declared.part.Part.{Part}
use Rattle.binom_poly.specs.declared.term.Term.{Term}
use Rattle.binom_poly.specs.Monomial.{monomial_cmp, monomial_cmp_total}
use Rattle.binom_poly.specs.Polynomial.{monomial_value, value_of, IsPolynomial, IsPolynomialFrom}
use Rattle.binom_poly.proofs.Unique.{before_irrefl, rest_is}
use Rattle.binom_poly.proofs.Canonical.{value-var_terms}
use Rattle.binom_poly.specs.Variable.{y_of}
use Rattle.hall_table.specs.Shape.{alone, is_alone, coefficient_of, is_lower, AreLower, HasShape}
use Rattle.hall_table.proofs.Shapes.{alone_is, none_alone, not_alone}
use Rattle.hall_table.proofs.Putting.{monomial-agree}

-- ---- the coefficient of a variable
-- what a term adds to it
own : ℕ → Term → ℤ
own v t = cond (is_alone v t.monomial) t.coefficient (pos 0)

own-alone : (v : ℕ) (t : Term) → is_alone v t.monomial ≡ true → own v t ≡ t.coefficient
unfolding own
own-alone v t h = ap (λ (b : Bool). cond b t.coefficient (pos 0)) h

own-other : (v : ℕ) (t : Term) → is_alone v t.monomial ≡ false → own v t ≡ pos 0
unfolding own
own-other v t h = ap (λ (b : Bool). cond b t.coefficient (pos 0)) h

alone_before : (v : ℕ) (m : List Part) → monomial_cmp (alone v) m ≡ Less → is_alone v m ≡ false
alone_before v m l =
    none_alone v m
    (λ e. before_irrefl (alone v) (subst (λ (n : List Part). monomial_cmp (alone v) n ≡ Less) e l))

coefficient-other : (v : ℕ) (t : Term) (ts : List Term) → is_alone v t.monomial ≡ false
    → coefficient_of v (t ∷ ts) ≡ coefficient_of v ts
coefficient-other v t ts h = ap (λ (b : Bool). cond b t.coefficient (coefficient_of v ts)) h

coefficient-later : (v : ℕ) (t : Term) (ts : List Term) → monomial_cmp (alone v) t.monomial ≡ Less
    → IsPolynomialFrom t ts → coefficient_of v (t ∷ ts) ≡ pos 0
unfolding IsPolynomialFrom
coefficient-later v t [] l f = coefficient-other v t [] (alone_before v t.monomial l)
coefficient-later v t (u ∷ us) l f =
    coefficient-other v t (u ∷ us) (alone_before v t.monomial l)
    ∙ coefficient-later v u us (monomial_cmp_total.trans (alone v) t.monomial u.monomial l f.1) f.2

-- a monomial comes once
coefficient-rest : (v : ℕ) (t : Term) (ts : List Term) → is_alone v t.monomial ≡ true
    → IsPolynomialFrom t ts → coefficient_of v ts ≡ pos 0
unfolding IsPolynomialFrom
coefficient-rest v t [] h f = refl
coefficient-rest v t (u ∷ us) h f =
    coefficient-later v u us
    (subst (λ (m : List Part). monomial_cmp m u.monomial ≡ Less) (alone_is v t.monomial h) f.1) f.2

coefficient-cons : (v : ℕ) (t : Term) (ts : List Term) → IsPolynomialFrom t ts
    → coefficient_of v (t ∷ ts) ≡ own v t +ℤ coefficient_of v ts
coefficient-cons v t ts f =
    elim (cases_Bool (is_alone v t.monomial)) [
      | inl h ↦
          ap (λ (b : Bool). cond b t.coefficient (coefficient_of v ts)) h
          ∙ first_alone t.coefficient (own v t) (coefficient_of v ts) (own-alone v t h)
          (coefficient-rest v t ts h f)
      | inr h ↦
          coefficient-other v t ts h
          ∙ last_alone (own v t) (coefficient_of v ts) (own-other v t h)
    ]
  where
    first_alone : (c d e : ℤ) → d ≡ c → e ≡ pos 0 → c ≡ d +ℤ e
    first_alone c d e g h = omega (arith, ints)

    last_alone : (d e : ℤ) → d ≡ pos 0 → e ≡ d +ℤ e
    last_alone d e g = omega (arith, ints)

-- ---- the value of a term
monomial-alone : (a : ℕ → ℤ) (v : ℕ) → monomial_value a (alone v) ≡ a v
unfolding value_of
monomial-alone a v = one (monomial_value a (alone v)) ∙ value-var_terms a v
  where
    one : (x : ℤ) → x ≡ pos 1 *ℤ x +ℤ pos 0
    one x = omega (arith, ints)

monomial-is_alone : (a : ℕ → ℤ) (v : ℕ) (m : List Part) → is_alone v m ≡ true
    → monomial_value a m ≡ a v
monomial-is_alone a v m h = ap (monomial_value a) (alone_is v m h) ∙ monomial-alone a v

not_both_alone : (u v : ℕ) (m : List Part) → u ≢ v → is_alone u m ≡ true
    → is_alone v m ≡ false
not_both_alone u v [] n h = refl
not_both_alone u v (q ∷ []) n h = grind (arith, nat_tests)
not_both_alone u v (q ∷ r ∷ m) n h = refl

-- points that agree at the variables below k, of which b is 0 at x_k and y_k
pub record Cuts (level k : ℕ) (a b : ℕ → ℤ) : Type 0 where
  pub x : b k ≡ pos 0
  pub y : b (y_of k) ≡ pos 0
  pub lower : (v : ℕ) → is_lower level k v ≡ true → a v ≡ b v

monomial-lower : (level k : ℕ) (a b : ℕ → ℤ) (m : List Part) → Cuts level k a b
    → AreLower level k m → monomial_value a m ≡ monomial_value b m
monomial-lower level k a b m s h =
    monomial-agree a b m
    (All-weaker (λ (q : Part). IsTrue (is_lower level k q.var))
    (λ (q : Part). a q.var ≡ b q.var) (λ q l. s.lower q.var l) m h)

-- the terms that may stand in f_k
IsAllowed : ℕ → ℕ → Term → Type 0
IsAllowed level k t =
    t.monomial ≢ alone k → t.monomial ≢ alone (y_of k) → AreLower level k t.monomial

term-splits : (level k : ℕ) (a b : ℕ → ℤ) (t : Term) → Cuts level k a b → IsAllowed level k t
    → t.coefficient *ℤ monomial_value a t.monomial
    ≡ (own k t *ℤ a k +ℤ own (y_of k) t *ℤ a (y_of k))
    +ℤ t.coefficient *ℤ monomial_value b t.monomial
unfolding IsAllowed
term-splits level k a b t s h =
    elim (cases_Bool (is_alone k t.monomial)) [
      | inl x ↦
          at_x t.coefficient (a k) (a (y_of k)) (own k t) (own (y_of k) t)
          (monomial_value a t.monomial) (monomial_value b t.monomial)
          (own-alone k t x)
          (own-other (y_of k) t (not_both_alone k (y_of k) t.monomial (λ e. omega arith) x))
          (monomial-is_alone a k t.monomial x) (monomial-is_alone b k t.monomial x ∙ s.x)
      | inr x ↦ (elim (cases_Bool (is_alone (y_of k) t.monomial)) [
        | inl y ↦
            at_y t.coefficient (a k) (a (y_of k)) (own k t) (own (y_of k) t)
            (monomial_value a t.monomial) (monomial_value b t.monomial)
            (own-other k t x) (own-alone (y_of k) t y)
            (monomial-is_alone a (y_of k) t.monomial y)
            (monomial-is_alone b (y_of k) t.monomial y ∙ s.y)
        | inr y ↦
            below t.coefficient (a k) (a (y_of k)) (own k t) (own (y_of k) t)
            (monomial_value a t.monomial) (monomial_value b t.monomial)
            (own-other k t x) (own-other (y_of k) t y)
            (monomial-lower level k a b t.monomial s
            (h (not_alone k t.monomial x) (not_alone (y_of k) t.monomial y)))
      ])
    ]
  where
    at_x : (c x y p q u w : ℤ) → p ≡ c → q ≡ pos 0 → u ≡ x → w ≡ pos 0
        → c *ℤ u ≡ (p *ℤ x +ℤ q *ℤ y) +ℤ c *ℤ w
    at_x c x y p q u w e f g h = rw (e, f, g, h) (omega (arith, ints))

    at_y : (c x y p q u w : ℤ) → p ≡ pos 0 → q ≡ c → u ≡ y → w ≡ pos 0
        → c *ℤ u ≡ (p *ℤ x +ℤ q *ℤ y) +ℤ c *ℤ w
    at_y c x y p q u w e f g h = rw (e, f, g, h) (omega (arith, ints))

    below : (c x y p q u w : ℤ) → p ≡ pos 0 → q ≡ pos 0 → u ≡ w
        → c *ℤ u ≡ (p *ℤ x +ℤ q *ℤ y) +ℤ c *ℤ w
    below c x y p q u w e f g = rw (e, f, g) (omega (arith, ints))

-- ---- the value of a polynomial
value-splits : (level k : ℕ) (a b : ℕ → ℤ) (p : List Term) → Cuts level k a b → IsPolynomial p
    → All (IsAllowed level k) p
    → value_of a p
    ≡ (coefficient_of k p *ℤ a k +ℤ coefficient_of (y_of k) p *ℤ a (y_of k)) +ℤ value_of b p
unfolding value_of IsPolynomial
value-splits level k a b [] s f h = none (a k) (a (y_of k))
  where
    none : (x y : ℤ) → pos 0 ≡ (pos 0 *ℤ x +ℤ pos 0 *ℤ y) +ℤ pos 0
    none x y = omega (arith, ints)
value-splits level k a b (t ∷ ts) s f h =
    joined (own k t) (own (y_of k) t) (coefficient_of k ts) (coefficient_of (y_of k) ts)
    (coefficient_of k (t ∷ ts)) (coefficient_of (y_of k) (t ∷ ts)) (a k) (a (y_of k))
    (t.coefficient *ℤ monomial_value a t.monomial) (value_of a ts)
    (t.coefficient *ℤ monomial_value b t.monomial) (value_of b ts)
    (coefficient-cons k t ts f) (coefficient-cons (y_of k) t ts f)
    (term-splits level k a b t s (All-head (IsAllowed level k) t ts h))
    (value-splits level k a b ts s (rest_is t ts f) (All-tail (IsAllowed level k) t ts h))
  where
    joined : (c d e f p q x y w z u v : ℤ) → p ≡ c +ℤ e → q ≡ d +ℤ f
        → w ≡ (c *ℤ x +ℤ d *ℤ y) +ℤ u → z ≡ (e *ℤ x +ℤ f *ℤ y) +ℤ v → w +ℤ z ≡ (p *ℤ x +ℤ q *ℤ y) +ℤ (u +ℤ v)
    joined c d e f p q x y w z u v g h i j =
        rw (g, h, add-mul c e x, add-mul d f y) (omega (arith, ints))

pub value-HasShape : (level k : ℕ) (a b : ℕ → ℤ) (p : List Term) → Cuts level k a b → IsPolynomial p
    → HasShape level k p → value_of a p ≡ (a k +ℤ a (y_of k)) +ℤ value_of b p
unfolding IsAllowed
value-HasShape level k a b p s f h =
    value-splits level k a b p s f h.others
    ∙ ones (coefficient_of k p) (coefficient_of (y_of k) p) (a k) (a (y_of k)) (value_of b p) h.x h.y
  where
    ones : (c d x y z : ℤ) → c ≡ pos 1 → d ≡ pos 1
        → (c *ℤ x +ℤ d *ℤ y) +ℤ z ≡ (x +ℤ y) +ℤ z
    ones c d x y z e f = rw (e, f) (omega (arith, ints))
