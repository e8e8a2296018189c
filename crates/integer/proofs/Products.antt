-- The product of two binomial coefficients of x as a sum of binomial coefficients of x
use Rattle.std.proofs.Common.{◌≡◌, ℕ, zero, suc, ◌+◌, ◌*◌, ◌-◌, ◌<◌, refl, sym, ap, ◌∙◌, subst, arith, inl, inr, zero-add, max, min, [], ◌∷◌}
use borrow.Author.Differences.{ints}
use lib.IntN.{ℤ, pos, ◌+ℤ◌, ◌*ℤ◌, zero-*ℤ, *ℤ-zero, +ℤ_idr, +ℤ_idl}
use Rattle.std.proofs.lemmas.Bool.{cases_order, cases_lt}
use Rattle.integer.specs.Binomial.{running, below, choose, ways}
use Rattle.integer.specs.Sums.{sum_from}
use Rattle.integer.proofs.Laws.{add-mul, mul-add}
use Rattle.integer.proofs.Ring.{reads, ring_by}
use Rattle.integer.proofs.Sums.{sum_from-zero, sum_from-same, sum_from-add, sum_from-append, sum_from-first}
use Rattle.integer.proofs.Binomial.{agree, choose_none, choose_at_zero, pascal, ways_past, ways_all}

-- The coefficient of x over k in x over a times x over b, by the steps in x
mix : ℕ → ℕ → ℕ → ℕ
mix zero zero zero = 1
mix zero zero (suc b) = 0
mix zero (suc a) b = 0
mix (suc k) zero zero = 0
mix (suc k) zero (suc b) = mix k zero b
mix (suc k) (suc a) zero = mix k a zero
mix (suc k) (suc a) (suc b) = mix k a (suc b) + mix k (suc a) b + mix k a b

series : ℕ → ℕ → ℕ → ℤ → ℤ
series n a b x = sum_from 0 n (λ k. pos (mix k a b) *ℤ choose x k)

-- the step of the series
rise : ℕ → ℕ → ℕ → ℤ → ℤ
rise n a b x = sum_from 0 n (λ k. pos (mix (suc k) a b) *ℤ choose x k)

series_step : (n a b : ℕ) (x : ℤ) → series (suc n) a b (x +ℤ pos 1) ≡ series (suc n) a b x +ℤ rise n a b x
unfolding series rise
series_step n a b x =
    sum_from-first 0 n (λ k. pos (mix k a b) *ℤ choose (x +ℤ pos 1) k)
    ∙ ap (λ z. pos (mix 0 a b) *ℤ choose (x +ℤ pos 1) 0 +ℤ z)
    (sum_from-same 0 n (λ k. pos (mix (suc k) a b) *ℤ choose (x +ℤ pos 1) (suc k)) (λ k. pos (mix (suc k) a b) *ℤ choose x (suc k) +ℤ pos (mix (suc k) a b) *ℤ choose x k)
    (λ k _ _. ap (λ z. pos (mix (suc k) a b) *ℤ z) (pascal x k) ∙ mul-add (pos (mix (suc k) a b)) (choose x (suc k)) (choose x k))
    ∙ sum_from-add 0 n (λ k. pos (mix (suc k) a b) *ℤ choose x (suc k)) (λ k. pos (mix (suc k) a b) *ℤ choose x k))
    ∙ ap (λ z. pos (mix 0 a b) *ℤ z +ℤ (sum_from 0 n (λ k. pos (mix (suc k) a b) *ℤ choose x (suc k)) +ℤ rise n a b x)) (choose_none (x +ℤ pos 1) ∙ sym (choose_none x))
    ∙ regroup (pos (mix 0 a b) *ℤ choose x 0) (sum_from 0 n (λ k. pos (mix (suc k) a b) *ℤ choose x (suc k))) (rise n a b x)
    ∙ ap (λ z. z +ℤ rise n a b x) (sym (sum_from-first 0 n (λ k. pos (mix k a b) *ℤ choose x k)))
  where
    regroup : (p q r : ℤ) → p +ℤ (q +ℤ r) ≡ p +ℤ q +ℤ r
    regroup p q r = omega (arith, ints)

series_start : (n a b : ℕ) → series (suc n) a b (pos 0) ≡ pos (mix 0 a b)
unfolding series
series_start n a b =
    sum_from-first 0 n (λ k. pos (mix k a b) *ℤ choose (pos 0) k)
    ∙ ap (λ z. pos (mix 0 a b) *ℤ choose (pos 0) 0 +ℤ z) (sum_from-zero 0 n (λ k. pos (mix (suc k) a b) *ℤ choose (pos 0) (suc k)) (λ k _ _. ap (λ z. pos (mix (suc k) a b) *ℤ z) (choose_at_zero k) ∙ *ℤ-zero (pos (mix (suc k) a b))))
    ∙ ap (λ z. pos (mix 0 a b) *ℤ z +ℤ pos 0) (choose_none (pos 0)) ∙ ap pos (omega arith)

product_start : (a b : ℕ) → choose (pos 0) a *ℤ choose (pos 0) b ≡ pos (mix 0 a b)
unfolding below running mix
product_start zero zero = refl
product_start zero (suc b) = refl
product_start (suc a) b = zero-*ℤ (choose (pos 0) b)

spread : (p q r s : ℤ) → (p +ℤ q) *ℤ (r +ℤ s) ≡ p *ℤ r +ℤ (q *ℤ r +ℤ p *ℤ s +ℤ q *ℤ s)
spread p q r s = ring_by (p ∷ q ∷ r ∷ s ∷ []) (search reads) (search reads) tt

spread_three : (a b c d : ℤ) → (a +ℤ b +ℤ c) *ℤ d ≡ (a *ℤ d +ℤ b *ℤ d) +ℤ c *ℤ d
spread_three a b c d = ring_by (a ∷ b ∷ c ∷ d ∷ []) (search reads) (search reads) tt

three_series : (n : ℕ) (f g i : ℕ → ℕ) (x u v w : ℤ) → u ≡ sum_from 0 n (λ k. pos (f k) *ℤ choose x k) → v ≡ sum_from 0 n (λ k. pos (g k) *ℤ choose x k) → w ≡ sum_from 0 n (λ k. pos (i k) *ℤ choose x k) → u +ℤ v +ℤ w ≡ sum_from 0 n (λ k. pos (f k + g k + i k) *ℤ choose x k)
three_series n f g i x u v w p q r =
    ap (λ z. z +ℤ v +ℤ w) p ∙ ap (λ z. sum_from 0 n (λ k. pos (f k) *ℤ choose x k) +ℤ z +ℤ w) q ∙ ap (λ z. sum_from 0 n (λ k. pos (f k) *ℤ choose x k) +ℤ sum_from 0 n (λ k. pos (g k) *ℤ choose x k) +ℤ z) r
    ∙ sym (sum_from-same 0 n (λ k. pos (f k + g k + i k) *ℤ choose x k) (λ k. (pos (f k) *ℤ choose x k +ℤ pos (g k) *ℤ choose x k) +ℤ pos (i k) *ℤ choose x k) (λ k _ _. spread_three (pos (f k)) (pos (g k)) (pos (i k)) (choose x k))
    ∙ sum_from-add 0 n (λ k. pos (f k) *ℤ choose x k +ℤ pos (g k) *ℤ choose x k) (λ k. pos (i k) *ℤ choose x k)
    ∙ ap (λ z. z +ℤ sum_from 0 n (λ k. pos (i k) *ℤ choose x k)) (sum_from-add 0 n (λ k. pos (f k) *ℤ choose x k) (λ k. pos (g k) *ℤ choose x k)))

-- the step of the product, by the series of smaller products
product_step : (n a b : ℕ) → ((a b : ℕ) → a + b < n → (x : ℤ) → choose x a *ℤ choose x b ≡ series n a b x) → a + b < suc n → (x : ℤ) → choose (x +ℤ pos 1) a *ℤ choose (x +ℤ pos 1) b ≡ choose x a *ℤ choose x b +ℤ rise n a b x
unfolding series rise mix
product_step n zero zero h p x =
    ap (λ z. z *ℤ choose (x +ℤ pos 1) 0) (choose_none (x +ℤ pos 1) ∙ sym (choose_none x))
    ∙ ap (λ z. choose x 0 *ℤ z) (choose_none (x +ℤ pos 1) ∙ sym (choose_none x))
    ∙ sym (ap (λ z. choose x 0 *ℤ choose x 0 +ℤ z) (sum_from-zero 0 n (λ k. pos 0 *ℤ choose x k) (λ k _ _. zero-*ℤ (choose x k))) ∙ +ℤ_idr (choose x 0 *ℤ choose x 0))
product_step n zero (suc b) h p x =
    ap (λ z. z *ℤ choose (x +ℤ pos 1) (suc b)) (choose_none (x +ℤ pos 1) ∙ sym (choose_none x))
    ∙ ap (λ z. choose x 0 *ℤ z) (pascal x b) ∙ mul-add (choose x 0) (choose x (suc b)) (choose x b)
    ∙ ap (λ z. choose x 0 *ℤ choose x (suc b) +ℤ z) (h 0 b (omega arith) x)
product_step n (suc a) zero h p x =
    ap (λ z. choose (x +ℤ pos 1) (suc a) *ℤ z) (choose_none (x +ℤ pos 1) ∙ sym (choose_none x))
    ∙ ap (λ z. z *ℤ choose x 0) (pascal x a) ∙ add-mul (choose x (suc a)) (choose x a) (choose x 0)
    ∙ ap (λ z. choose x (suc a) *ℤ choose x 0 +ℤ z) (h a 0 (omega arith) x)
product_step n (suc a) (suc b) h p x =
    ap (λ z. z *ℤ choose (x +ℤ pos 1) (suc b)) (pascal x a) ∙ ap (λ z. (choose x (suc a) +ℤ choose x a) *ℤ z) (pascal x b)
    ∙ spread (choose x (suc a)) (choose x a) (choose x (suc b)) (choose x b)
    ∙ ap (λ z. choose x (suc a) *ℤ choose x (suc b) +ℤ z) (three_series n (λ k. mix k a (suc b)) (λ k. mix k (suc a) b) (λ k. mix k a b) x
    (choose x a *ℤ choose x (suc b)) (choose x (suc a) *ℤ choose x b) (choose x a *ℤ choose x b) (h a (suc b) (omega arith) x) (h (suc a) b (omega arith) x) (h a b (omega arith) x))

product_series : (n a b : ℕ) → a + b < n → (x : ℤ) → choose x a *ℤ choose x b ≡ series n a b x
product_series zero a b p x = absurd (omega arith)
product_series (suc n) a b p x =
    agree (λ x. choose x a *ℤ choose x b) (series (suc n) a b) (rise n a b) (product_start a b ∙ sym (series_start n a b))
    (product_step n a b (product_series n) p) (series_step n a b) x

mix_short : (k a b : ℕ) → k < b → mix k a b ≡ 0
unfolding mix
mix_short k a zero h = absurd (omega arith)
mix_short zero zero (suc b) h = refl
mix_short zero (suc a) (suc b) h = refl
mix_short (suc k) zero (suc b) h = mix_short k zero b (omega arith)
mix_short (suc k) (suc a) (suc b) h = omega (arith, mix_short k a (suc b) (omega arith), mix_short k (suc a) b (omega arith), mix_short k a b (omega arith))

-- k over a times a over k is 1 where k is a, and else 0, whichever row they stand in
meet : (k a : ℕ) → ways k a * ways a k ≡ (ways k a + ways k (suc a)) * (ways a k + ways a (suc k))
meet k a =
    elim (cases_order k a) [
      | inl h ↦ at_same k a h
      | inr o ↦ elim o [ inl h ↦ at_less k a h | inr h ↦ at_more k a h ]
    ]
  where
    at_less : (k a : ℕ) → k < a → ways k a * ways a k ≡ (ways k a + ways k (suc a)) * (ways a k + ways a (suc k))
    at_less k a h = rw (ways_past k a h, ways_past k (suc a) (omega arith)) (omega arith)

    at_more : (k a : ℕ) → a < k → ways k a * ways a k ≡ (ways k a + ways k (suc a)) * (ways a k + ways a (suc k))
    at_more k a h = rw (ways_past a k h, ways_past a (suc k) (omega arith)) (omega arith)

    at_same : (k a : ℕ) → k ≡ a → ways k a * ways a k ≡ (ways k a + ways k (suc a)) * (ways a k + ways a (suc k))
    at_same k a h = subst (λ (n : ℕ). ways k n * ways n k ≡ (ways k n + ways k (suc n)) * (ways n k + ways n (suc k))) h
        (rw (ways_all k, ways_past k (suc k) (omega arith)) refl)

mix_is : (k a b j : ℕ) → k ≡ b + j → mix k a b ≡ ways k a * ways a j
unfolding mix ways
mix_is zero zero zero zero e = refl
mix_is zero zero zero (suc j) e = absurd (omega arith)
mix_is zero zero (suc b) j e = absurd (omega arith)
mix_is zero (suc a) b j e = omega arith
mix_is (suc k) zero zero zero e = absurd (omega arith)
mix_is (suc k) zero zero (suc j) e = refl
mix_is (suc k) zero (suc b) j e = mix_is k zero b j (omega arith)
mix_is (suc k) (suc a) zero zero e = absurd (omega arith)
mix_is (suc k) (suc a) zero (suc j) e =
    mix_is k a zero j (omega arith) ∙ (let f : k ≡ j = omega arith in subst (λ (n : ℕ). ways k a * ways a n ≡ (ways k a + ways k (suc a)) * (ways a n + ways a (suc n))) f (meet k a))
mix_is (suc k) (suc a) (suc b) zero e =
    omega (arith, mix_short k a (suc b) (omega arith), mix_is k (suc a) b zero (omega arith), mix_is k a b zero (omega arith))
mix_is (suc k) (suc a) (suc b) (suc j) e =
    omega (arith, mix_is k a (suc b) j (omega arith), mix_is k (suc a) b (suc j) (omega arith), mix_is k a b (suc j) (omega arith))

mix_early : (k a b : ℕ) → k < max a b → mix k a b ≡ 0
mix_early k a b h =
    elim (cases_lt k b) [
      | inl l ↦ mix_short k a b l
      | inr l ↦ mix_is k a b (k - b) (omega arith) ∙ rw (ways_past k a (omega arith)) (omega arith)
    ]

-- The product rule: the summands run from the greater of the two numbers to their sum
pub product_rule_from : (a b : ℕ) (x : ℤ) → choose x a *ℤ choose x b ≡ sum_from (max a b) (min a b + 1) (λ k. pos (ways k a * ways a (k - b)) *ℤ choose x k)
unfolding series
product_rule_from a b x =
    product_series (a + b + 1) a b (omega arith) x
    ∙ ap (λ (n : ℕ). sum_from 0 n term) (let e : a + b + 1 ≡ max a b + (min a b + 1) = omega arith in e)
    ∙ sum_from-append 0 (max a b) (min a b + 1) term
    ∙ ap (λ z. z +ℤ sum_from (0 + max a b) (min a b + 1) term) (sum_from-zero 0 (max a b) term (λ k _ h. ap (λ (n : ℕ). pos n *ℤ choose x k) (mix_early k a b (omega arith)) ∙ zero-*ℤ (choose x k)))
    ∙ +ℤ_idl (sum_from (0 + max a b) (min a b + 1) term)
    ∙ ap (λ (n : ℕ). sum_from n (min a b + 1) term) (zero-add (max a b))
    ∙ sum_from-same (max a b) (min a b + 1) term (λ k. pos (ways k a * ways a (k - b)) *ℤ choose x k) (λ k h _. ap (λ (n : ℕ). pos n *ℤ choose x k) (mix_is k a b (k - b) (omega arith)))
  where
    term : ℕ → ℤ
    term k = pos (mix k a b) *ℤ choose x k
