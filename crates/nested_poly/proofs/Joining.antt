-- Tails one after another, and what one of them adds
use Rattle.std.proofs.Common.{◌≡◌, ℕ, ◌+◌, ◌*◌, ◌<◌, List, [], ◌∷◌, ◌++◌, length, refl, sym, ap, ◌∙◌, subst, arith}
use Rattle.std.specs.Prelude.{unsigned_abs, All}
use Rattle.std.proofs.lemmas.Int.{unsigned_abs-mul}
use Rattle.std.proofs.lemmas.Grind.{common_steps}
use lib.IntN.{ℤ, ◌+ℤ◌, ◌*ℤ◌, *ℤ_comm, +ℤ_idr}
use Rattle.integer.specs.Binomial.{choose}
use Rattle.integer.proofs.Ring.{mul_swap_ℤ}
use Rattle.binom_poly.specs.declared.part.Part.{Part}
use Rattle.binom_poly.specs.Polynomial.{monomial_value, value_of}
use Rattle.binom_poly.specs.Reading.{Reading}
use Rattle.binom_poly.specs.Readings.{width_at, magnitude_of, IsCoveredMonomial, IsCovered}
use Rattle.binom_poly.proofs.Times.{value-append}
use Rattle.nested_poly.specs.declared.tail.Tail.{Tail}
use Rattle.nested_poly.specs.Nodes.{branch_terms}
use Rattle.nested_poly.specs.Tails.{tail_terms, parts_in, HasPart}
use Rattle.nested_poly.specs.Splits.{terms_by}
use Rattle.nested_poly.proofs.Branching.{value_branch, magnitude_branch, magnitude-append, covered-append, covered_left, covered_right, covered-under, covered_below, mul-one}

-- ---- tails one after another
pub tail_terms-append : (ts us : List Tail) → tail_terms (ts ++ us) ≡ tail_terms ts ++ tail_terms us
unfolding tail_terms
tail_terms-append [] us = refl
tail_terms-append (t ∷ ts) us = ap (λ xs. record { monomial = t.parts.now; coefficient = t.coefficient } ∷ xs) (tail_terms-append ts us)

pub parts_in-append : (ts us : List Tail) → parts_in (ts ++ us) ≡ parts_in ts + parts_in us
unfolding parts_in
parts_in-append [] us = omega arith
parts_in-append (t ∷ ts) us = omega (arith, parts_in-append ts us)

pub parts_in-one : (t : Tail) → parts_in (t ∷ []) ≡ length t.parts.now
unfolding parts_in
parts_in-one t = omega arith

pub parts_more : (ts us : List Tail) (t : Tail) → us ≡ ts ++ t ∷ [] → parts_in us ≡ parts_in ts + length t.parts.now
parts_more ts us t e = ap parts_in e ∙ parts_in-append ts (t ∷ []) ∙ ap (λ n. parts_in ts + n) (parts_in-one t)

pub value_more : (a : ℕ → ℤ) (ts us : List Tail) (t : Tail) → us ≡ ts ++ t ∷ [] → value_of a (tail_terms us) ≡ value_of a (tail_terms ts) +ℤ value_of a (tail_terms (t ∷ []))
value_more a ts us t e = ap (λ xs. value_of a (tail_terms xs)) e ∙ ap (value_of a) (tail_terms-append ts (t ∷ [])) ∙ value-append a (tail_terms ts) (tail_terms (t ∷ []))

pub magnitude_more : (a : ℕ → ℤ) (ts us : List Tail) (t : Tail) → us ≡ ts ++ t ∷ [] → magnitude_of a (tail_terms us) ≡ magnitude_of a (tail_terms ts) + magnitude_of a (tail_terms (t ∷ []))
magnitude_more a ts us t e = ap (λ xs. magnitude_of a (tail_terms xs)) e ∙ ap (magnitude_of a) (tail_terms-append ts (t ∷ [])) ∙ magnitude-append a (tail_terms ts) (tail_terms (t ∷ []))

pub covered_more : (rows : List Reading) (ts us : List Tail) (t : Tail) → us ≡ ts ++ t ∷ [] → IsCovered rows (tail_terms ts) → IsCovered rows (tail_terms (t ∷ [])) → IsCovered rows (tail_terms us)
covered_more rows ts us t e h k = subst (IsCovered rows) (sym (ap tail_terms e ∙ tail_terms-append ts (t ∷ []))) (covered-append rows (tail_terms ts) (tail_terms (t ∷ [])) h k)

pub All_more : (ts us : List Tail) (t : Tail) → us ≡ ts ++ t ∷ [] → All HasPart ts → HasPart t → All HasPart us
All_more ts us t e h k = subst (All HasPart) (sym e) (grind (arith, common_steps, h, k))

-- ---- a split from its parts
pub value_by : (a : ℕ → ℤ) (p : Part) (c : ℤ) (bs os : List Tail) → value_of a (terms_by p c bs os) ≡ choose (a p.var) p.exp *ℤ (value_of a (tail_terms bs) +ℤ c) +ℤ value_of a (tail_terms os)
value_by a p c bs os =
    value-append a (branch_terms record { part = p; coefficient = c; below = 0 } (tail_terms bs)) (tail_terms os)
    ∙ ap (λ z. z +ℤ value_of a (tail_terms os)) (value_branch a record { part = p; coefficient = c; below = 0 } (tail_terms bs))

pub magnitude_by : (a : ℕ → ℤ) (p : Part) (c : ℤ) (bs os : List Tail)
    → magnitude_of a (terms_by p c bs os) ≡ unsigned_abs (choose (a p.var) p.exp) * (magnitude_of a (tail_terms bs) + unsigned_abs c) + magnitude_of a (tail_terms os)
magnitude_by a p c bs os =
    magnitude-append a (branch_terms record { part = p; coefficient = c; below = 0 } (tail_terms bs)) (tail_terms os)
    ∙ ap (λ n. n + magnitude_of a (tail_terms os)) (magnitude_branch a record { part = p; coefficient = c; below = 0 } (tail_terms bs))

pub covered_by : (rows : List Reading) (p : Part) (c : ℤ) (bs os : List Tail) → p.exp < width_at rows p.var → IsCovered rows (tail_terms bs) → IsCovered rows (tail_terms os) → IsCovered rows (terms_by p c bs os)
covered_by rows p c bs os l h k =
    covered-append rows (branch_terms record { part = p; coefficient = c; below = 0 } (tail_terms bs)) (tail_terms os) (covered-under rows p (record { monomial = []; coefficient = c } ∷ tail_terms bs) l (tt, h)) k

pub covered_bs : (rows : List Reading) (p : Part) (c : ℤ) (bs os : List Tail) → IsCovered rows (terms_by p c bs os) → IsCovered rows (tail_terms bs)
covered_bs rows p c bs os h =
    (covered_below rows p (record { monomial = []; coefficient = c } ∷ tail_terms bs) (covered_left rows (branch_terms record { part = p; coefficient = c; below = 0 } (tail_terms bs)) (tail_terms os) h)).1

pub covered_os : (rows : List Reading) (p : Part) (c : ℤ) (bs os : List Tail) → IsCovered rows (terms_by p c bs os) → IsCovered rows (tail_terms os)
covered_os rows p c bs os h = covered_right rows (branch_terms record { part = p; coefficient = c; below = 0 } (tail_terms bs)) (tail_terms os) h

-- ---- what one tail adds
value_one : (a : ℕ → ℤ) (t : Tail) → value_of a (tail_terms (t ∷ [])) ≡ t.coefficient *ℤ monomial_value a t.parts.now
unfolding value_of tail_terms
value_one a t = +ℤ_idr (t.coefficient *ℤ monomial_value a t.parts.now)

magnitude_one : (a : ℕ → ℤ) (t : Tail) → magnitude_of a (tail_terms (t ∷ [])) ≡ unsigned_abs (t.coefficient *ℤ monomial_value a t.parts.now)
unfolding magnitude_of tail_terms
magnitude_one a t = omega arith

covered_front : (rows : List Reading) (ms : List Part) (p : Part) → IsCoveredMonomial rows (ms ++ p ∷ []) → IsCoveredMonomial rows ms
covered_front rows [] p h = tt
covered_front rows (q ∷ qs) p h = (h.0, covered_front rows qs p h.1)

pub covered_one : (rows : List Reading) (t u : Tail) (p : Part) → t.parts.now ≡ u.parts.now ++ p ∷ [] → IsCovered rows (tail_terms (t ∷ [])) → IsCovered rows (tail_terms (u ∷ []))
unfolding tail_terms
covered_one rows t u p e h = (covered_front rows u.parts.now p (subst (IsCoveredMonomial rows) e h.0), tt)

monomial_value-last : (a : ℕ → ℤ) (ms : List Part) (p : Part) → monomial_value a (ms ++ p ∷ []) ≡ choose (a p.var) p.exp *ℤ monomial_value a ms
unfolding monomial_value
monomial_value-last a [] p = refl
monomial_value-last a (q ∷ qs) p =
    ap (λ z. choose (a q.var) q.exp *ℤ z) (monomial_value-last a qs p) ∙ mul_swap_ℤ (choose (a q.var) q.exp) (choose (a p.var) p.exp) (monomial_value a qs)

last_factor : (a : ℕ → ℤ) (t u : Tail) (p : Part) → t.parts.now ≡ u.parts.now ++ p ∷ [] → t.coefficient ≡ u.coefficient
    → t.coefficient *ℤ monomial_value a t.parts.now ≡ choose (a p.var) p.exp *ℤ (u.coefficient *ℤ monomial_value a u.parts.now)
last_factor a t u p e f =
    ap (λ ms. t.coefficient *ℤ monomial_value a ms) e ∙ ap (λ z. t.coefficient *ℤ z) (monomial_value-last a u.parts.now p)
    ∙ ap (λ z. z *ℤ (choose (a p.var) p.exp *ℤ monomial_value a u.parts.now)) f ∙ mul_swap_ℤ u.coefficient (choose (a p.var) p.exp) (monomial_value a u.parts.now)

pub value_last : (a : ℕ → ℤ) (t u : Tail) (p : Part) → t.parts.now ≡ u.parts.now ++ p ∷ [] → t.coefficient ≡ u.coefficient → value_of a (tail_terms (t ∷ [])) ≡ choose (a p.var) p.exp *ℤ value_of a (tail_terms (u ∷ []))
value_last a t u p e f = value_one a t ∙ last_factor a t u p e f ∙ ap (λ z. choose (a p.var) p.exp *ℤ z) (sym (value_one a u))

pub magnitude_last : (a : ℕ → ℤ) (t u : Tail) (p : Part) → t.parts.now ≡ u.parts.now ++ p ∷ [] → t.coefficient ≡ u.coefficient
    → magnitude_of a (tail_terms (t ∷ [])) ≡ unsigned_abs (choose (a p.var) p.exp) * magnitude_of a (tail_terms (u ∷ []))
magnitude_last a t u p e f =
    magnitude_one a t ∙ ap unsigned_abs (last_factor a t u p e f) ∙ unsigned_abs-mul (choose (a p.var) p.exp) (u.coefficient *ℤ monomial_value a u.parts.now)
    ∙ ap (λ n. unsigned_abs (choose (a p.var) p.exp) * n) (sym (magnitude_one a u))

one_part : (a : ℕ → ℤ) (p : Part) → monomial_value a (p ∷ []) ≡ choose (a p.var) p.exp
unfolding monomial_value
one_part a p = mul-one (choose (a p.var) p.exp)

own_factor : (a : ℕ → ℤ) (t : Tail) (p : Part) → t.parts.now ≡ p ∷ [] → t.coefficient *ℤ monomial_value a t.parts.now ≡ choose (a p.var) p.exp *ℤ t.coefficient
own_factor a t p e = ap (λ ms. t.coefficient *ℤ monomial_value a ms) e ∙ ap (λ z. t.coefficient *ℤ z) (one_part a p) ∙ *ℤ_comm t.coefficient (choose (a p.var) p.exp)

pub value_own : (a : ℕ → ℤ) (t : Tail) (p : Part) → t.parts.now ≡ p ∷ [] → value_of a (tail_terms (t ∷ [])) ≡ choose (a p.var) p.exp *ℤ t.coefficient
value_own a t p e = value_one a t ∙ own_factor a t p e

pub magnitude_own : (a : ℕ → ℤ) (t : Tail) (p : Part) → t.parts.now ≡ p ∷ [] → magnitude_of a (tail_terms (t ∷ [])) ≡ unsigned_abs (choose (a p.var) p.exp) * unsigned_abs t.coefficient
magnitude_own a t p e = magnitude_one a t ∙ ap unsigned_abs (own_factor a t p e) ∙ unsigned_abs-mul (choose (a p.var) p.exp) t.coefficient
