-- Laws of the binomial coefficients
use Rattle.std.proofs.Common.{◌*◌, ◌≤◌, add-zero, ◌≡◌, ◌≢◌, ℕ, zero, suc, ◌+◌, ◌<◌, refl, sym, ap, ◌∙◌, arith, inl, inr, [], ◌∷◌, add-one}
use borrow.Author.Differences.{ints, up}
use lib.IntN.{ℤ, pos, negsuc, ◌+ℤ◌, ◌-ℤ◌, ◌*ℤ◌, suc_ℤ, +ℤ_one, +ℤ_invl, zero-*ℤ, *ℤ-zero}
use Rattle.integer.specs.Binomial.{running, below, choose, ways}
use Rattle.integer.proofs.Laws.{zero_factor}
use Rattle.integer.proofs.Ring.{reads, ring_by, with_equation}

-- ---- the running sum
running_suc : (f : ℤ → ℤ) (x : ℤ) → running f (suc_ℤ x) ≡ running f x +ℤ f x
unfolding running
running_suc f (pos n) = refl
running_suc f (negsuc zero) = sym (+ℤ_invl (f (negsuc zero)))
running_suc f (negsuc (suc n)) = back (running f (negsuc n)) (f (negsuc (suc n)))
  where
    back : (a b : ℤ) → a ≡ a -ℤ b +ℤ b
    back a b = omega (arith, ints)

pub running_step : (f : ℤ → ℤ) (x : ℤ) → running f (x +ℤ pos 1) ≡ running f x +ℤ f x
running_step f x = ap (running f) (+ℤ_one x) ∙ running_suc f x

up_step : (f g d : ℤ → ℤ) → ((x : ℤ) → f (x +ℤ pos 1) ≡ f x +ℤ d x) → ((x : ℤ) → g (x +ℤ pos 1) ≡ g x +ℤ d x) → (x : ℤ) → f x ≡ g x → f (suc_ℤ x) ≡ g (suc_ℤ x)
up_step f g d p q x e = sym (ap f (+ℤ_one x)) ∙ p x ∙ ap (λ z. z +ℤ d x) e ∙ sym (q x) ∙ ap g (+ℤ_one x)

down_step : (f g d : ℤ → ℤ) → ((x : ℤ) → f (x +ℤ pos 1) ≡ f x +ℤ d x) → ((x : ℤ) → g (x +ℤ pos 1) ≡ g x +ℤ d x) → (x : ℤ) → f (suc_ℤ x) ≡ g (suc_ℤ x) → f x ≡ g x
down_step f g d p q x e = same (f x) (g x) (d x) (sym (p x) ∙ ap f (+ℤ_one x) ∙ e ∙ sym (ap g (+ℤ_one x)) ∙ q x)
  where
    same : (a b c : ℤ) → a +ℤ c ≡ b +ℤ c → a ≡ b
    same a b c k = omega (arith, ints)

-- Two functions with one value at 0 and the same steps are equal
pub agree : (f g d : ℤ → ℤ) → f (pos 0) ≡ g (pos 0) → ((x : ℤ) → f (x +ℤ pos 1) ≡ f x +ℤ d x) → ((x : ℤ) → g (x +ℤ pos 1) ≡ g x +ℤ d x) → (x : ℤ) → f x ≡ g x
agree f g d z p q (pos zero) = z
agree f g d z p q (pos (suc n)) = up_step f g d p q (pos n) (agree f g d z p q (pos n))
agree f g d z p q (negsuc zero) = down_step f g d p q (negsuc zero) z
agree f g d z p q (negsuc (suc n)) = down_step f g d p q (negsuc (suc n)) (agree f g d z p q (negsuc n))

-- ---- x over m
pub choose_none : (x : ℤ) → choose x 0 ≡ pos 1
unfolding below
choose_none x = refl

pub pascal : (x : ℤ) (m : ℕ) → choose (x +ℤ pos 1) (suc m) ≡ choose x (suc m) +ℤ choose x m
unfolding below
pascal x m = running_step (below m) x

pub choose_at_zero : (m : ℕ) → choose (pos 0) (suc m) ≡ pos 0
unfolding below running
choose_at_zero m = refl

-- the steps of both sides of `absorb`
left_step : (x : ℤ) (m : ℕ) → choose (x +ℤ pos 1) (suc m) *ℤ pos (suc m) ≡ choose x (suc m) *ℤ pos (suc m) +ℤ choose x m *ℤ pos (suc m)
left_step x m = ap (λ z. z *ℤ pos (suc m)) (pascal x m) ∙ sum_by (choose x (suc m)) (choose x m) (pos (suc m))
  where
    sum_by : (a b c : ℤ) → (a +ℤ b) *ℤ c ≡ a *ℤ c +ℤ b *ℤ c
    sum_by a b c = ring_by (a ∷ b ∷ c ∷ []) (search reads) (search reads) tt

right_first : (x : ℤ) → choose (x +ℤ pos 1) 0 *ℤ (x +ℤ pos 1 -ℤ pos 0) ≡ choose x 0 *ℤ (x -ℤ pos 0) +ℤ choose x 0 *ℤ pos 1
unfolding below
right_first x = ring_by (x ∷ []) (search reads) (search reads) tt

right_step : (a b x : ℤ) (k : ℕ) → a *ℤ pos (suc k) ≡ b *ℤ (x -ℤ pos k) → (a +ℤ b) *ℤ (x +ℤ pos 1 -ℤ pos (suc k)) ≡ a *ℤ (x -ℤ pos (suc k)) +ℤ a *ℤ pos (suc (suc k))
right_step a b x k e = with_equation e (ring_by (a ∷ b ∷ x ∷ pos k ∷ []) (search reads depth 20) (search reads depth 20) tt)

pub absorb : (m : ℕ) (x : ℤ) → choose x (suc m) *ℤ pos (suc m) ≡ choose x m *ℤ (x -ℤ pos m)
absorb zero = agree (λ x. choose x 1 *ℤ pos 1) (λ x. choose x 0 *ℤ (x -ℤ pos 0)) (λ x. choose x 0 *ℤ pos 1) (ap (λ z. z *ℤ pos 1) (choose_at_zero 0) ∙ sym (*ℤ-zero (choose (pos 0) 0))) (λ x. left_step x 0) right_first
absorb (suc m) = agree (λ x. choose x (suc (suc m)) *ℤ pos (suc (suc m))) (λ x. choose x (suc m) *ℤ (x -ℤ pos (suc m))) (λ x. choose x (suc m) *ℤ pos (suc (suc m)))
    (ap (λ z. z *ℤ pos (suc (suc m))) (choose_at_zero (suc m)) ∙ zero-*ℤ (pos (suc (suc m))) ∙ sym (ap (λ z. z *ℤ (pos 0 -ℤ pos (suc m))) (choose_at_zero m) ∙ zero-*ℤ (pos 0 -ℤ pos (suc m))))
    (λ x. left_step x (suc m)) (λ x. ap (λ z. z *ℤ (x +ℤ pos 1 -ℤ pos (suc m))) (pascal x m) ∙ right_step (choose x (suc m)) (choose x m) x m (absorb m x))

-- ---- natural numbers
pub choose_ways : (n m : ℕ) → choose (pos n) m ≡ pos (ways n m)
unfolding below running ways
choose_ways n zero = refl
choose_ways zero (suc m) = refl
choose_ways (suc n) (suc m) = ap (λ z. z +ℤ choose (pos n) m) (choose_ways n (suc m)) ∙ ap (λ z. pos (ways n (suc m)) +ℤ z) (choose_ways n m) ∙ ap pos (omega arith)

pub ways_none : (n : ℕ) → ways n 0 ≡ 1
unfolding ways
ways_none zero = refl
ways_none (suc n) = refl

pub ways_next : (n m : ℕ) → ways (suc n) (suc m) ≡ ways n m + ways n (suc m)
unfolding ways
ways_next n m = refl

pub ways_past : (n m : ℕ) → n < m → ways n m ≡ 0
unfolding ways
ways_past n zero h = absurd (omega arith)
ways_past zero (suc m) h = refl
ways_past (suc n) (suc m) h = omega (arith, ways_past n m (omega arith), ways_past n (suc m) (omega arith))

pub ways_all : (n : ℕ) → ways n n ≡ 1
unfolding ways
ways_all zero = refl
ways_all (suc n) = omega (arith, ways_all n, ways_past n (suc n) (omega arith))

-- down a diagonal of the triangle each entry follows from the one before
pub ways_diagonal : (n m : ℕ) → ways (suc n) (suc m) * suc m ≡ ways n m * suc n
unfolding ways
ways_diagonal zero zero = refl
ways_diagonal zero (suc m) = omega arith
ways_diagonal (suc n) zero = omega (arith, ways_diagonal n zero, ways_none n, ways_none (suc n))
ways_diagonal (suc n) (suc m) = omega (arith, ways_diagonal n m, ways_diagonal n (suc m))

-- and none is less than an earlier one
pub ways_ascend : (n m d : ℕ) → ways n m ≤ ways (n + d) (m + d)
ways_ascend n m zero = rw (add-zero n, add-zero m) (omega arith)
ways_ascend n m (suc d) =
    let e : ways (n + suc d) (m + suc d) ≡ ways (suc (n + d)) (suc (m + d)) = ap (λ (k : ℕ). ways k (m + suc d)) (omega arith) ∙ ap (λ (k : ℕ). ways (suc (n + d)) k) (omega arith) in
    omega (arith, ways_ascend n m d, ways_next (n + d) (m + d), e)

-- each row reads the same from both ends
pub ways_mirror : (n a b : ℕ) → n ≡ a + b → ways n a ≡ ways n b
ways_mirror zero zero zero e = refl
ways_mirror zero zero (suc b) e = absurd (omega arith)
ways_mirror zero (suc a) b e = absurd (omega arith)
ways_mirror (suc n) zero b e = ways_none (suc n) ∙ sym (ways_all (suc n)) ∙ ap (λ (k : ℕ). ways (suc n) k) (omega arith)
ways_mirror (suc n) (suc a) zero e = ap (λ (k : ℕ). ways (suc n) k) (omega arith) ∙ ways_all (suc n) ∙ sym (ways_none (suc n))
ways_mirror (suc n) (suc a) (suc b) e = omega (arith, ways_next n a, ways_next n b, ways_mirror n a (suc b) (omega arith), ways_mirror n (suc a) b (omega arith))

pub choose_past : (n m : ℕ) → n < m → choose (pos n) m ≡ pos 0
choose_past n m h = choose_ways n m ∙ ap pos (ways_past n m h)

pub choose_all : (n : ℕ) → choose (pos n) n ≡ pos 1
choose_all n = choose_ways n n ∙ ap pos (ways_all n)

-- the same with m + 1, as clauses write it
pub absorb_one : (x : ℤ) (m : ℕ) → choose x (m + 1) *ℤ pos (m + 1) ≡ choose x m *ℤ (x -ℤ pos m)
absorb_one x m = rw add-one (absorb m x)

pub pascal_one : (x : ℤ) (m : ℕ) → choose (x +ℤ pos 1) (m + 1) ≡ choose x m +ℤ choose x (m + 1)
pascal_one x m = rw add-one (pascal x m ∙ omega (arith, ints))

-- below 0 no binomial coefficient is 0
pub choose_not_zero : (n m : ℕ) → choose (negsuc n) m ≢ pos 0
choose_not_zero n zero e = absurd (let h : 1 ≡ 0 = ap up (sym (choose_none (negsuc n)) ∙ e) in omega arith)
choose_not_zero n (suc m) e =
    elim (zero_factor (choose (negsuc n) m) (negsuc n -ℤ pos m) (sym (absorb m (negsuc n)) ∙ ap (λ z. z *ℤ pos (suc m)) e ∙ zero-*ℤ (pos (suc m)))) [
      | inl z ↦ choose_not_zero n m z
      | inr z ↦ below_zero n m z
    ]
  where
    below_zero : (n m : ℕ) → negsuc n -ℤ pos m ≡ pos 0 → ⊥
    below_zero n m z = omega (arith, ints)
