-- The terms of a polynomial as tails, and as a tree
use Rattle.std.proofs.Common.{◌≡◌, ◌≢◌, ℕ, zero, suc, ◌+◌, ◌<◌, ◌≤◌, List, [], ◌∷◌, ◌++◌, length, take, get_or, ◌^◌, refl, sym, ap, ◌∙◌, subst, arith}
use Rattle.std.specs.Prelude.{unsigned_abs, All}
use Rattle.std.proofs.lemmas.Grind.{take_at_read}
use lib.IntN.{ℤ, pos, ◌+ℤ◌, ◌*ℤ◌, zero-*ℤ, +ℤ_idl, +ℤ_comm}
use Rattle.binom_poly.specs.declared.term.Term.{Term}
use Rattle.std.specs.declared.cmp.Ordering.TheVariants.{Less}
use Rattle.binom_poly.specs.declared.part.Part.{Part}
use Rattle.binom_poly.specs.Monomial.{IsMonomial, IsMonomialAbove, degree, monomial_cmp}
use Rattle.binom_poly.proofs.Unique.{before_irrefl, before_lower}
use Rattle.binom_poly.specs.Polynomial.{monomial_value, value_of, IsPolynomial, IsPolynomialFrom}
use Rattle.binom_poly.specs.Readings.{magnitude_of}
use Rattle.nested_poly.specs.declared.node.Node.{Node}
use Rattle.nested_poly.specs.declared.tail.Tail.{Tail}
use Rattle.nested_poly.specs.declared.weighed.Weighed.{Weighed}
use Rattle.nested_poly.specs.Nodes.{constant_term, IsWeighed, terms_of, IsForest, IsNestOf}
use Rattle.nested_poly.specs.Tails.{tail_terms, HasPart, HaveParts, Nests}
use Rattle.nested_poly.proofs.Branching.{mul-one, sum_swap}
use Rattle.nested_poly.proofs.Adding.{zero_more}
use Rattle.nested_poly.proofs.Joining.{tail_terms-append, All_more}
use Rattle.nested_poly.proofs.Behind.{nest_trans}

-- ---- the terms of a polynomial
nest_same : (ts : List Term) → IsNestOf ts ts
nest_same ts = record { values = λ _. refl; magnitudes = λ _. refl; covers = λ _ h. h }

no_constant : (ts : List Term) → IsNestOf (constant_term (pos 0) ∷ ts) ts
unfolding value_of magnitude_of
no_constant ts = record {
  values = λ a. ap (λ z. z +ℤ value_of a ts) (zero-*ℤ (monomial_value a [])) ∙ +ℤ_idl (value_of a ts);
  magnitudes = λ a. ap (λ z. unsigned_abs z + magnitude_of a ts) (zero-*ℤ (monomial_value a [])) ∙ zero_more (magnitude_of a ts);
  covers = λ _ h. (tt, h);
}

first_is : (c z : ℤ) (t : Term) (ts us : List Term) → ts ≡ t ∷ us → length t.monomial ≡ 0 → z ≡ t.coefficient → constant_term z ∷ us ≡ ts
first_is c z t ts us e l f = ap (λ x. constant_term x ∷ us) f ∙ ap (λ ms. record { monomial = ms; coefficient = t.coefficient } ∷ us) (sym (empty t.monomial l)) ∙ sym e
  where
    empty : (ms : List Part) → length ms ≡ 0 → ms ≡ []
    empty [] l = refl
    empty (p ∷ ps) l = absurd (omega arith)

pub constant_first : (z : ℤ) (t : Term) (ts us : List Term) → ts ≡ t ∷ us → length t.monomial ≡ 0 → z ≡ t.coefficient → IsNestOf (constant_term z ∷ us) ts
constant_first z t ts us e l f = subst (IsNestOf (constant_term z ∷ us)) (first_is z z t ts us e l f) (nest_same (constant_term z ∷ us))

pub no_constant_first : (ts : List Term) → IsNestOf (constant_term (pos 0) ∷ ts) ts
no_constant_first ts = no_constant ts

-- nothing comes before the monomial without parts
part_not_less : (p : Part) (ps : List Part) → IsMonomial (p ∷ ps) → degree (p ∷ ps) ≤ degree [] → ⊥
unfolding degree IsMonomialAbove
part_not_less p ps m l = absurd (let h : 1 ≤ p.exp = m.2 in omega arith)

none_before : (ms ns : List Part) → IsMonomial ms → monomial_cmp ms ns ≡ Less → 0 < length ns
none_before ms (q ∷ qs) m e = omega arith
none_before [] [] m e = absurd (before_irrefl [] e)
none_before (p ∷ ps) [] m e = absurd (part_not_less p ps m (before_lower (p ∷ ps) [] e))

later_parts : (t : Term) (ts : List Term) → IsPolynomialFrom t ts → HaveParts ts
unfolding IsPolynomialFrom HaveParts
later_parts t [] h = tt
later_parts t (u ∷ us) h = (none_before t.monomial u.monomial h.0.monomial h.1, later_parts u us h.2)

pub rest_parts : (t : Term) (ts us : List Term) → ts ≡ t ∷ us → IsPolynomial ts → HaveParts us
unfolding IsPolynomial
rest_parts t ts us e h = later_parts t us (subst IsPolynomial e h)

pub first_parts : (t : Term) (ts us : List Term) → ts ≡ t ∷ us → length t.monomial ≢ 0 → IsPolynomial ts → HaveParts ts
unfolding IsPolynomial HaveParts
first_parts t ts us e l h = subst HaveParts (sym e) (omega arith, later_parts t us (subst IsPolynomial e h))

pub no_parts_asked : (ts : List Term) → length ts ≡ 0 → HaveParts ts
unfolding HaveParts
no_parts_asked [] l = tt
no_parts_asked (t ∷ ts) l = absurd (omega arith)

pub parts_at : (ts : List Term) (i : ℕ) (t : Term) → i < length ts → t ≡ get_or ts i t → HaveParts ts → 0 < length t.monomial
unfolding HaveParts
parts_at [] i t l e h = absurd (omega arith)
parts_at (u ∷ us) zero t l e h = subst (λ (s : Term). 0 < length s.monomial) (sym e) h.0
parts_at (u ∷ us) (suc i) t l e h = parts_at us i t (omega arith) e h.1

pub no_tails : (ts : List Tail) (us : List Term) → ts ≡ [] → (tail_terms ts ≡ take 0 us) × All HasPart ts
unfolding tail_terms
no_tails ts us e = (ap tail_terms e, subst (All HasPart) (sym e) (grind arith))

one_tail : (t : Tail) (u : Term) → t.parts.now ≡ u.monomial → t.coefficient ≡ u.coefficient → tail_terms (t ∷ []) ≡ u ∷ []
unfolding tail_terms
one_tail t u e f = ap (λ ms. record { monomial = ms; coefficient = t.coefficient } ∷ []) e ∙ ap (λ z. record { monomial = u.monomial; coefficient = z } ∷ []) f

pub tails_more : (ts ns : List Tail) (us : List Term) (i : ℕ) (t : Tail) (u : Term) → i < length us → u ≡ get_or us i u → ns ≡ ts ++ t ∷ [] → t.parts.now ≡ u.monomial → t.coefficient ≡ u.coefficient → HaveParts us
    → (tail_terms ts ≡ take i us) × All HasPart ts → (tail_terms ns ≡ take (i + 1) us) × All HasPart ns
tails_more ts ns us i t u l e f g k p h =
    let m : 0 < length u.monomial = parts_at us i u l e p in
    let n : length t.parts.now ≡ length u.monomial = ap length g in (
      ap tail_terms f ∙ tail_terms-append ts (t ∷ []) ∙ ap (λ xs. xs ++ tail_terms (t ∷ [])) h.0 ∙ ap (λ xs. take i us ++ xs) (one_tail t u g k)
          ∙ sym ((take_at_read us i u l).1 ∙ ap (λ (s : Term). take i us ++ s ∷ []) (sym e)),
      All_more ts ns t f h.1 (omega arith),
    )

-- ---- the whole polynomial
nest_constant : (c : ℤ) (ts us : List Term) → IsNestOf ts us → IsNestOf (constant_term c ∷ ts) (constant_term c ∷ us)
unfolding value_of magnitude_of
nest_constant c ts us h = record {
  values = λ a. ap (λ z. c *ℤ monomial_value a [] +ℤ z) (h.values a);
  magnitudes = λ a. ap (λ z. unsigned_abs (c *ℤ monomial_value a []) + z) (h.magnitudes a);
  covers = λ rows k. (tt, h.covers rows k.1);
}

pub nested_whole : (c : ℤ) (none ns : List Node) (ts : List Tail) (us p : List Term) → none ≡ [] → Nests none ns ts → IsNestOf (tail_terms ts) us → IsNestOf (constant_term c ∷ us) p → IsForest ns × IsNestOf (constant_term c ∷ terms_of ns) p
nested_whole c none ns ts us p e h f k =
    let n : ns ≡ h.added = h.behind ∙ ap (λ xs. xs ++ h.added) e in (
      subst IsForest (sym n) h.form,
      nest_trans (constant_term c ∷ terms_of ns) (constant_term c ∷ us) p
          (nest_constant c (terms_of ns) us (subst (λ xs. IsNestOf (terms_of xs) us) (sym n) (nest_trans (terms_of h.added) (tail_terms ts) us h.nest f))) k,
    )

pub value_whole : (a : ℕ → ℤ) (c : ℤ) (ts : List Term) → value_of a (constant_term c ∷ ts) ≡ value_of a ts +ℤ c
unfolding value_of monomial_value
value_whole a c ts = ap (λ z. z +ℤ value_of a ts) (mul-one c) ∙ +ℤ_comm c (value_of a ts)

pub magnitude_whole : (a : ℕ → ℤ) (c : ℤ) (ts : List Term) → magnitude_of a (constant_term c ∷ ts) ≡ magnitude_of a ts + unsigned_abs c
unfolding magnitude_of monomial_value
magnitude_whole a c ts = ap (λ z. unsigned_abs z + magnitude_of a ts) (mul-one c) ∙ sum_swap (unsigned_abs c) (magnitude_of a ts)

pub nodes_overflow : (a : ℕ → ℤ) (c : ℤ) (ts : List Term) → 2 ^ 127 ≤ magnitude_of a ts → 2 ^ 127 ≤ magnitude_of a (constant_term c ∷ ts)
nodes_overflow a c ts h = let m = magnitude_whole a c ts in omega arith

pub whole_overflows : (a : ℕ → ℤ) (c z : ℤ) (ts : List Term) (w : Weighed) → z ≡ c → (w.value ≡ value_of a ts) × (w.magnitude ≡ magnitude_of a ts) × IsWeighed w → 2 ^ 127 ≤ w.magnitude + unsigned_abs z
    → 2 ^ 127 ≤ magnitude_of a (constant_term c ∷ ts)
whole_overflows a c z ts w e h o = let m = magnitude_whole a c ts in let n = h.1 in let k : unsigned_abs z ≡ unsigned_abs c = ap unsigned_abs e in omega arith

pub whole_value : (a : ℕ → ℤ) (c z : ℤ) (ts : List Term) (w v : Weighed) → z ≡ c → (w.value ≡ value_of a ts) × (w.magnitude ≡ magnitude_of a ts) × IsWeighed w
    → (v.value ≡ w.value +ℤ z) × (v.magnitude ≡ w.magnitude + unsigned_abs z) × IsWeighed v
    → (v.value ≡ value_of a (constant_term c ∷ ts)) × (2 ^ 127 ≤ magnitude_of a (constant_term c ∷ ts) → ⊥)
whole_value a c z ts w v e h k =
    let m = magnitude_whole a c ts in
    let n = h.1 in
    let i = k.1 in
    let l : v.magnitude < 2 ^ 127 = k.2.within in
    let j : unsigned_abs z ≡ unsigned_abs c = ap unsigned_abs e in (
      k.0 ∙ ap (λ x. x +ℤ z) h.0 ∙ ap (λ x. value_of a ts +ℤ x) e ∙ sym (value_whole a c ts),
      λ o. omega arith,
    )

pub bits_value : (a : ℕ → ℤ) (y c z : ℤ) (ts p : List Term) (w v : Weighed) → y ≡ v.value → constant_term c ∷ ts ≡ p → z ≡ c → (w.value ≡ value_of a ts) × (w.magnitude ≡ magnitude_of a ts) × IsWeighed w
    → (v.value ≡ w.value +ℤ z) × (v.magnitude ≡ w.magnitude + unsigned_abs z) × IsWeighed v → (y ≡ value_of a p) × (2 ^ 127 ≤ magnitude_of a p → ⊥)
bits_value a y c z ts p w v i f e h k =
    let r = whole_value a c z ts w v e h k in
    subst (λ us. (y ≡ value_of a us) × (2 ^ 127 ≤ magnitude_of a us → ⊥)) f (i ∙ r.0, r.1)
