-- Trees, each once, that all stand in another list: what of them overflows, overflows there.
--   t x y trees · xs ys lists · rest the list without x · f a number of each tree · e exponents
--   ms monomial
use Rattle.std.proofs.Common.{◌≡◌, ℕ, ◌+◌, ◌≤◌, ◌⊎◌, List, [], ◌∷◌, cond, refl, sym, ap, ◌∙◌, subst, arith, inl, inr}
use Rattle.std.specs.Prelude.{sum_by, unsigned_abs}
use Rattle.std.proofs.lemmas.List.Sums.{sum_by-cons}
use Rattle.binom_poly.specs.declared.part.Part.{Part}
use Rattle.binom_poly.specs.Monomial.{same_parts}
use Rattle.binom_poly.specs.Weight.{weight, HasLargePart, HasLargeExponent}
use Rattle.dt_letters.specs.Letters.{Letter}
use Rattle.dt_letters.specs.Allowed.{Exponents}
use Rattle.dt_letters.specs.Listing.{IsIn, AreOnce}
use Rattle.dt_letters.specs.Terms.{constant}
use Rattle.dt_trees.specs.Polynomials.{monomial_of, terms_of, ConstantOverflows, AnyOverflows, TreesOverflow}

abbrev pub AreIn : List Letter → List Letter → Type 0
AreIn ys xs = (t : Letter) → IsIn t xs → IsIn t ys

-- ---- a list without one of its trees
record IsWithout (x : Letter) (ys rest : List Letter) : Type 0 where
  sums : (f : Letter → ℕ) → sum_by f ys ≡ f x + sum_by f rest
  others : (t : Letter) → IsIn t ys → (t ≡ x) ⊎ IsIn t rest

without : (x : Letter) (ys : List Letter) → IsIn x ys → (rest : List Letter) × IsWithout x ys rest
without x [] h = absurd h
without x (y ∷ ys) (inl e) = (
  ys,
  record {
    sums = λ f. sum_by-cons f y ys ∙ ap (λ (z : Letter). f z + sum_by f ys) (sym e);
    others = λ t h. elim h [ inl q ↦ inl (q ∙ sym e) | inr p ↦ inr p ];
  },
)
without x (y ∷ ys) (inr h) =
    let (rest, is) = without x ys h in (
      y ∷ rest,
      record {
        sums = λ f. omega (arith, sum_by-cons f y ys, sum_by-cons f y rest, is.sums f);
        others = λ t p. elim p [
          | inl e ↦ inr (inl e)
          | inr q ↦ elim (is.others t q) [ inl e ↦ inl e | inr r ↦ inr (inr r) ]
        ];
      },
    )

-- ---- sums
sum_by-included : (f : Letter → ℕ) (xs ys : List Letter) → AreOnce xs → AreIn ys xs
    → sum_by f xs ≤ sum_by f ys
sum_by-included f [] ys once h = omega arith
sum_by-included f (x ∷ xs) ys once h =
    let (rest, is) = without x ys (h x (inl refl)) in
    let others : AreIn rest xs = λ t p. elim (is.others t (h t (inr p))) [
      | inl e ↦ absurd (once.0 (subst (λ (y : Letter). IsIn y xs) e p))
      | inr q ↦ q
    ] in
    omega (arith, sum_by-cons f x xs, is.sums f, sum_by-included f xs rest once.1 others)

abbrev weight_in : Exponents → List Part → Letter → ℕ
weight_in e ms t = cond (same_parts ms (monomial_of t)) (unsigned_abs (constant e t)) 0

weight-terms : (e : Exponents) (ms : List Part) (ts : List Letter)
    → weight ms (terms_of e ts) ≡ sum_by (weight_in e ms) ts
unfolding weight
weight-terms e ms [] = refl
weight-terms e ms (t ∷ ts) =
    ap (λ n. weight_in e ms t + n) (weight-terms e ms ts) ∙ sym (sum_by-cons (weight_in e ms) t ts)

-- ---- trees that overflow by themselves
constant-at : (e : Exponents) (ts : List Letter) → AnyOverflows e ts
    → (t : Letter) × IsIn t ts × ConstantOverflows e t
constant-at e [] h = absurd h
constant-at e (t ∷ ts) (inl h) = (t, inl refl, h)
constant-at e (t ∷ ts) (inr h) = let (x, at, o) = constant-at e ts h in (x, inr at, o)

constant-of : (e : Exponents) (x : Letter) (ts : List Letter) → IsIn x ts → ConstantOverflows e x
    → AnyOverflows e ts
constant-of e x [] at o = absurd at
constant-of e x (t ∷ ts) (inl s) o = inl (subst (ConstantOverflows e) s o)
constant-of e x (t ∷ ts) (inr at) o = inr (constant-of e x ts at o)

exponent-at : (e : Exponents) (ts : List Letter) → HasLargeExponent (terms_of e ts)
    → (t : Letter) × IsIn t ts × HasLargePart (monomial_of t)
exponent-at e [] h = absurd h
exponent-at e (t ∷ ts) (inl h) = (t, inl refl, h)
exponent-at e (t ∷ ts) (inr h) = let (x, at, o) = exponent-at e ts h in (x, inr at, o)

exponent-of : (e : Exponents) (x : Letter) (ts : List Letter) → IsIn x ts
    → HasLargePart (monomial_of x) → HasLargeExponent (terms_of e ts)
exponent-of e x [] at o = absurd at
exponent-of e x (t ∷ ts) (inl s) o = inl (subst (λ (y : Letter). HasLargePart (monomial_of y)) s o)
exponent-of e x (t ∷ ts) (inr at) o = inr (exponent-of e x ts at o)

-- ---- all of it
pub overflow-included : (e : Exponents) (xs ys : List Letter) → AreOnce xs → AreIn ys xs
    → TreesOverflow e xs → TreesOverflow e ys
overflow-included e xs ys once h (inl any) =
    let (t, at, o) = constant-at e xs any in inl (constant-of e t ys (h t at) o)
overflow-included e xs ys once h (inr (inl large)) =
    let (t, at, o) = exponent-at e xs large in inr (inl (exponent-of e t ys (h t at) o))
overflow-included e xs ys once h (inr (inr wide)) =
    let (ms, over) = wide in
    inr (inr (
      ms,
      omega (
        arith,
        over,
        weight-terms e ms xs,
        weight-terms e ms ys,
        sum_by-included (weight_in e ms) xs ys once h,
      ),
    ))
