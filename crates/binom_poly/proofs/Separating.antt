-- A polynomial whose values are those of two variables and of terms in others: it is their sum
use Rattle.std.proofs.Common.{◌≡◌, ◌≢◌, ℕ, ◌+◌, Bool, true, false, cond, List, [], ◌∷◌, ◌++◌, refl, sym, ap, ◌∙◌, subst, arith, inl, inr}
use Rattle.std.specs.Prelude.{All, unsigned_abs}
use Rattle.std.specs.Ordering.{match_ordering}
use Rattle.std.specs.declared.cmp.Ordering.{Ordering}
use Rattle.std.specs.declared.cmp.Ordering.TheVariants.{Less, Equal, Greater}
use Rattle.std.proofs.lemmas.Bool.{cases_Bool, false≢true, ne_eqb}
use Rattle.std.proofs.lemmas.List.Elements.{All-cons, All-tail, All-head}
use borrow.Author.Differences.{ints}
use lib.IntN.{ℤ, pos, ◌+ℤ◌}
use Rattle.nil_num.specs.Bound.{Fits}
use Rattle.binom_poly.specs.declared.part.Part.{Part}
use Rattle.binom_poly.specs.declared.term.Term.{Term}
use Rattle.binom_poly.specs.Monomial.{IsMonomial, IsMonomialAbove, IsVariable, same_parts, same_parts_is, monomial_cmp}
use Rattle.binom_poly.specs.Polynomial.{value_of, IsPolynomial}
use Rattle.binom_poly.specs.Weight.{weight}
use Rattle.binom_poly.specs.Sums.{AllMonomials}
use Rattle.binom_poly.specs.Collected.{with_term, put_term, collected, var_terms}
use Rattle.binom_poly.specs.Totals.{coefficient_at}
use Rattle.binom_poly.specs.Dependence.{DependsOnly, HasOnly, alone, IsTwoAnd}
use Rattle.binom_poly.proofs.Unique.{unique_form}
use Rattle.binom_poly.proofs.Variables.{variable_positive}
use Rattle.binom_poly.proofs.Times.{value-append}
use Rattle.binom_poly.proofs.Canonical.{all_monomials, value-var_terms, weight-polynomial}
use Rattle.binom_poly.proofs.Collecting.{zero_or_not, value-collected, polynomial-collected}
use Rattle.binom_poly.proofs.Coefficients.{coefficient_at-collected, abs-coefficient_at}
use Rattle.binom_poly.proofs.Depending.{has_only, only, masked, masked_there, masked_elsewhere, value-only, polynomial-only, all-only, only_kept, only_dropped}
use Rattle.binom_poly.proofs.Standing.{variable_added}

no_magnitude : (z : ℤ) → unsigned_abs z ≡ 0 → z ≡ pos 0
no_magnitude z h = omega (arith, ints)

-- ---- what holds of each contribution's monomial holds of each term's
all-with_term : (P : List Part → Type 0) (ms : List Part) (c : ℤ) (ts : List Term) → P ms → All (λ t. P t.monomial) ts
    → All (λ t. P t.monomial) (with_term ms c ts)
all-with_term P ms c ts h k =
    elim (zero_or_not c) [
      | inl z ↦ rw z.0 k
      | inr z ↦ rw z.0 (All-cons (λ (t : Term). P t.monomial) record { monomial = ms; coefficient = c } ts h k)
    ]

all-match : (P : List Part → Type 0) (t u : Term) (us ps : List Term) (o : Ordering) → P t.monomial
    → All (λ v. P v.monomial) (u ∷ us) → All (λ v. P v.monomial) ps
    → All (λ v. P v.monomial) (match_ordering o (with_term t.monomial t.coefficient (u ∷ us)) (with_term u.monomial (t.coefficient +ℤ u.coefficient) us) (u ∷ ps))
all-match P t u us ps Less h k l = all-with_term P t.monomial t.coefficient (u ∷ us) h k
all-match P t u us ps Equal h k l =
    all-with_term P u.monomial (t.coefficient +ℤ u.coefficient) us
    (All-head (λ (v : Term). P v.monomial) u us k) (All-tail (λ (v : Term). P v.monomial) u us k)
all-match P t u us ps Greater h k l = All-cons (λ (v : Term). P v.monomial) u ps (All-head (λ (v : Term). P v.monomial) u us k) l

all-put_term : (P : List Part → Type 0) (t : Term) (ts : List Term) → P t.monomial → All (λ u. P u.monomial) ts
    → All (λ u. P u.monomial) (put_term t ts)
unfolding put_term
all-put_term P t [] h k = all-with_term P t.monomial t.coefficient [] h k
all-put_term P t (u ∷ us) h k =
    all-match P t u us (put_term t us) (monomial_cmp t.monomial u.monomial) h k
    (all-put_term P t us h (All-tail (λ (v : Term). P v.monomial) u us k))

pub all-collected : (P : List Part → Type 0) (cs : List Term) → All (λ t. P t.monomial) cs
    → All (λ t. P t.monomial) (collected cs)
unfolding collected
all-collected P [] h = h
all-collected P (t ∷ ts) h =
    all-put_term P t (collected ts) (All-head (λ (u : Term). P u.monomial) t ts h)
    (all-collected P ts (All-tail (λ (u : Term). P u.monomial) t ts h))

-- ---- a monomial with another variable
untested_apart : (test : ℕ → Bool) (ms ns : List Part) → has_only test ms ≡ false → has_only test ns ≡ true → same_parts ms ns ≡ false
untested_apart test ms ns e f =
    elim (cases_Bool (same_parts ms ns)) [
      | inl s ↦ absurd (false≢true (sym e ∙ ap (has_only test) ((same_parts_is ms ns).0 s) ∙ f))
      | inr s ↦ s
    ]

weight-only : (test : ℕ → Bool) (ms : List Part) (ts : List Term) → has_only test ms ≡ false → weight ms (only test ts) ≡ 0
unfolding weight only
weight-only test ms [] e = refl
weight-only test ms (t ∷ ts) e =
    elim (cases_Bool (has_only test t.monomial)) [
      | inl f ↦ ap (weight ms) (only_kept test t ts f) ∙ rw (untested_apart test ms t.monomial e f) (omega (arith, weight-only test ms ts e))
      | inr f ↦ ap (weight ms) (only_dropped test t ts f) ∙ weight-only test ms ts e
    ]

coefficient_at-only : (test : ℕ → Bool) (ms : List Part) (ts : List Term) → IsPolynomial ts → has_only test ms ≡ false
    → coefficient_at ms (only test ts) ≡ pos 0
coefficient_at-only test ms ts h e =
    no_magnitude (coefficient_at ms (only test ts))
    (abs-coefficient_at ms (only test ts) (polynomial-only test ts h) ∙ weight-only test ms ts e)

alone_untested : (test : ℕ → Bool) (v : ℕ) → test v ≡ false → has_only test (alone v) ≡ false
alone_untested test v h = rw h refl

alone_apart : (v w : ℕ) → v ≢ w → same_parts (alone v) (alone w) ≡ false
alone_apart v w d = rw (ne_eqb v w d) refl

monomial-alone : (v : ℕ) → IsVariable v → IsMonomial (alone v)
unfolding IsMonomialAbove
monomial-alone v h = (variable_positive v h, h, omega arith, omega arith, tt)

-- ---- v + w and the terms in variables with the test
abbrev two_and : (ℕ → Bool) → ℕ → ℕ → List Term → List Term
two_and test v w p = var_terms v ++ (var_terms w ++ only test p)

two_more : (b c : Bool) (n : ℕ) → Fits n → (b ≡ true → n ≡ 0) → (c ≡ true → n ≡ 0) → Fits (cond b 1 0 + (cond c 1 0 + n))
two_more true true n h e f = omega (arith, e refl)
two_more true false n h e f = omega (arith, e refl)
two_more false true n h e f = omega (arith, f refl)
two_more false false n h e f = omega arith

at_alone : (test : ℕ → Bool) (v : ℕ) (ms : List Part) (p : List Term) → test v ≡ false → same_parts ms (alone v) ≡ true
    → weight ms (only test p) ≡ 0
at_alone test v ms p f e =
    ap (λ (ks : List Part). weight ks (only test p)) ((same_parts_is ms (alone v)).0 e)
    ∙ weight-only test (alone v) p (alone_untested test v f)

weight-two_and : (test : ℕ → Bool) (v w : ℕ) (p : List Term) → IsPolynomial p → test v ≡ false → test w ≡ false
    → (ms : List Part) → Fits (weight ms (two_and test v w p))
unfolding weight
weight-two_and test v w p h f g ms =
    two_more (same_parts ms (alone v)) (same_parts ms (alone w)) (weight ms (only test p))
    (weight-polynomial (only test p) (polynomial-only test p h) ms) (at_alone test v ms p f) (at_alone test w ms p g)

monomials-two_and : (test : ℕ → Bool) (v w : ℕ) (p : List Term) → IsPolynomial p → IsVariable v → IsVariable w
    → AllMonomials (two_and test v w p)
monomials-two_and test v w p h k l =
    (monomial-alone v k, (monomial-alone w l, all_monomials (only test p) (polynomial-only test p h)))

value-two_and : (test : ℕ → Bool) (a : ℕ → ℤ) (v w : ℕ) (p : List Term)
    → value_of a (two_and test v w p) ≡ a v +ℤ (a w +ℤ value_of a (only test p))
value-two_and test a v w p =
    value-append a (var_terms v) (var_terms w ++ only test p) ∙ ap (λ z. z +ℤ value_of a (var_terms w ++ only test p)) (value-var_terms a v)
    ∙ ap (λ z. a v +ℤ z) (value-append a (var_terms w) (only test p) ∙ ap (λ z. z +ℤ value_of a (only test p)) (value-var_terms a w))

-- the terms in variables with the test have the values of what depends on these
value-rest : (test : ℕ → Bool) (v w : ℕ) (g : (ℕ → ℤ) → ℤ) (p : List Term) → IsPolynomial p → test v ≡ false → test w ≡ false
    → DependsOnly test g → ((a : ℕ → ℤ) → value_of a p ≡ a v +ℤ a w +ℤ g a) → (a : ℕ → ℤ) → value_of a (only test p) ≡ g a
value-rest test v w g p h f k d e a =
    value-only test a p (all_monomials p h) ∙ e (masked test a)
    ∙ none (masked test a v) (masked test a w) (g (masked test a)) (masked_elsewhere test a v f) (masked_elsewhere test a w k)
    ∙ d (masked test a) a (masked_there test a)
  where
    none : (x y z : ℤ) → x ≡ pos 0 → y ≡ pos 0 → x +ℤ y +ℤ z ≡ z
    none x y z s t = omega (arith, ints)

same_values : (x y z s t : ℤ) → s ≡ x +ℤ y +ℤ z → t ≡ z → s ≡ x +ℤ (y +ℤ t)
same_values x y z s t e f = omega (arith, ints)

collected-two_and : (test : ℕ → Bool) (v w : ℕ) (g : (ℕ → ℤ) → ℤ) (p : List Term) → IsPolynomial p → IsVariable v → IsVariable w
    → test v ≡ false → test w ≡ false → DependsOnly test g → ((a : ℕ → ℤ) → value_of a p ≡ a v +ℤ a w +ℤ g a)
    → p ≡ collected (two_and test v w p)
collected-two_and test v w g p h k l f m d e =
    unique_form p (collected (two_and test v w p)) h
    (polynomial-collected (two_and test v w p) (monomials-two_and test v w p h k l) (weight-two_and test v w p h f m))
    (λ a. same_values (a v) (a w) (g a) (value_of a p) (value_of a (only test p)) (e a) (value-rest test v w g p h f m d e a)
    ∙ sym (value-collected a (two_and test v w p) ∙ value-two_and test a v w p))

own : (ms : List Part) → same_parts ms ms ≡ true
own ms = (same_parts_is ms ms).1 refl

-- the coefficients at the two variables
coefficient_at-v : (test : ℕ → Bool) (v w : ℕ) (p : List Term) → IsPolynomial p → v ≢ w → test v ≡ false
    → coefficient_at (alone v) (two_and test v w p) ≡ pos 1
unfolding coefficient_at
coefficient_at-v test v w p h d f =
    rw (own (alone v), alone_apart v w d)
    (ap (λ z. pos 1 +ℤ (pos 0 +ℤ z)) (coefficient_at-only test (alone v) p h (alone_untested test v f)))

coefficient_at-w : (test : ℕ → Bool) (v w : ℕ) (p : List Term) → IsPolynomial p → v ≢ w → test w ≡ false
    → coefficient_at (alone w) (two_and test v w p) ≡ pos 1
unfolding coefficient_at
coefficient_at-w test v w p h d f =
    rw (alone_apart w v (λ e. d (sym e)), own (alone w))
    (ap (λ z. pos 0 +ℤ (pos 1 +ℤ z)) (coefficient_at-only test (alone w) p h (alone_untested test w f)))

-- one of the two variables, or a monomial in variables with the test
abbrev IsAllowed : (ℕ → Bool) → ℕ → ℕ → List Part → Type 0
IsAllowed test v w ms = ms ≢ alone v → ms ≢ alone w → HasOnly test ms

all-two_and : (test : ℕ → Bool) (v w : ℕ) (p : List Term) → All (λ t. IsAllowed test v w t.monomial) (two_and test v w p)
all-two_and test v w p =
    All-cons (λ (t : Term). IsAllowed test v w t.monomial) record { monomial = alone v; coefficient = pos 1 } (var_terms w ++ only test p)
    (λ d e. absurd (d refl))
    (All-cons (λ (t : Term). IsAllowed test v w t.monomial) record { monomial = alone w; coefficient = pos 1 } (only test p)
    (λ d e. absurd (e refl))
    (λ k t l d e. all-only test p k t l))

turned : (x y z w : ℤ) → w ≡ x +ℤ y +ℤ z → w ≡ y +ℤ x +ℤ z
turned x y z w e = omega (arith, ints)

-- where the values are those of v + w plus what depends only on variables with the test, p is v + w plus terms in these
pub two_and_tested : (test : ℕ → Bool) (v w : ℕ) (g : (ℕ → ℤ) → ℤ) (p : List Term) → IsPolynomial p → v ≢ w
    → test v ≡ false → test w ≡ false → DependsOnly test g
    → ((a : ℕ → ℤ) → value_of a p ≡ a v +ℤ a w +ℤ g a) → IsTwoAnd test v w p
two_and_tested test v w g p h n f m d e =
    let q = two_and test v w p in
    let k : IsVariable v = variable_added test v w g p h n f d e in
    let l : IsVariable w = variable_added test w v g p h (λ s. n (sym s)) m d (λ a. turned (a v) (a w) (g a) (value_of a p) (e a)) in
    let s : p ≡ collected q = collected-two_and test v w g p h k l f m d e in
    let t : (ms : List Part) → coefficient_at ms p ≡ coefficient_at ms q = λ ms. ap (coefficient_at ms) s ∙ coefficient_at-collected ms q in
    record {
      first = t (alone v) ∙ coefficient_at-v test v w p h n f;
      second = t (alone w) ∙ coefficient_at-w test v w p h n m;
      others = subst (All (λ (u : Term). IsAllowed test v w u.monomial)) (sym s) (all-collected (IsAllowed test v w) q (all-two_and test v w p));
    }
