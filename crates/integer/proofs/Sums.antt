-- Finite sums: f and g are summands, c is a factor
use Rattle.std.proofs.Common.{◌≡◌, ◌≢◌, ℕ, zero, suc, ◌+◌, ◌<◌, ◌≤◌, refl, sym, ap, ◌∙◌, arith, add-zero, inl, inr}
use Rattle.std.proofs.lemmas.Bool.{cases_order}
use borrow.Author.Differences.{ints}
use lib.IntN.{ℤ, pos, ◌+ℤ◌, ◌*ℤ◌, neg_ℤ, *ℤ-zero}
use Rattle.integer.specs.Sums.{sum_from}
use Rattle.integer.proofs.Laws.{mul-add}

pub sum_from-zero : (start n : ℕ) (f : ℕ → ℤ) → ((k : ℕ) → start ≤ k → k < start + n → f k ≡ pos 0) → sum_from start n f ≡ pos 0
unfolding sum_from
sum_from-zero start zero f h = refl
sum_from-zero start (suc n) f h = omega (arith, ints, h start (omega arith) (omega arith), sum_from-zero (suc start) n f (λ k l m. h k (omega arith) (omega arith)))

pub sum_from-same : (start n : ℕ) (f g : ℕ → ℤ) → ((k : ℕ) → start ≤ k → k < start + n → f k ≡ g k) → sum_from start n f ≡ sum_from start n g
unfolding sum_from
sum_from-same start zero f g h = refl
sum_from-same start (suc n) f g h = omega (arith, ints, h start (omega arith) (omega arith), sum_from-same (suc start) n f g (λ k l m. h k (omega arith) (omega arith)))

pub sum_from-add : (start n : ℕ) (f g : ℕ → ℤ) → sum_from start n (λ k. f k +ℤ g k) ≡ sum_from start n f +ℤ sum_from start n g
unfolding sum_from
sum_from-add start zero f g = refl
sum_from-add start (suc n) f g = omega (arith, ints, sum_from-add (suc start) n f g)

pub sum_from-neg : (start n : ℕ) (f : ℕ → ℤ) → sum_from start n (λ k. neg_ℤ (f k)) ≡ neg_ℤ (sum_from start n f)
unfolding sum_from
sum_from-neg start zero f = refl
sum_from-neg start (suc n) f = omega (arith, ints, sum_from-neg (suc start) n f)

pub sum_from-scale : (start n : ℕ) (c : ℤ) (f : ℕ → ℤ) → sum_from start n (λ k. c *ℤ f k) ≡ c *ℤ sum_from start n f
unfolding sum_from
sum_from-scale start zero c f = sym (*ℤ-zero c)
sum_from-scale start (suc n) c f = ap (λ z. c *ℤ f start +ℤ z) (sum_from-scale (suc start) n c f) ∙ sym (mul-add c (f start) (sum_from (suc start) n f))

-- each place one further
pub sum_from-shift : (start n : ℕ) (f : ℕ → ℤ) → sum_from (suc start) n f ≡ sum_from start n (λ k. f (suc k))
unfolding sum_from
sum_from-shift start zero f = refl
sum_from-shift start (suc n) f = ap (λ z. f (suc start) +ℤ z) (sum_from-shift (suc start) n f)

pub sum_from-append : (start m n : ℕ) (f : ℕ → ℤ) → sum_from start (m + n) f ≡ sum_from start m f +ℤ sum_from (start + m) n f
unfolding sum_from
sum_from-append start zero n f =
    ap (λ (k : ℕ). sum_from start k f) (let e : zero + n ≡ n = omega arith in e)
    ∙ (let e : (z : ℤ) → z ≡ pos 0 +ℤ z = λ z. omega (arith, ints) in e (sum_from start n f))
    ∙ ap (λ (k : ℕ). pos 0 +ℤ sum_from k n f) (sym (add-zero start))
sum_from-append start (suc m) n f =
    ap (λ (k : ℕ). sum_from start k f) (let e : suc m + n ≡ suc (m + n) = omega arith in e)
    ∙ ap (λ z. f start +ℤ z) (sum_from-append (suc start) m n f ∙ ap (λ (k : ℕ). sum_from (suc start) m f +ℤ sum_from k n f) (omega arith))
    ∙ (let e : (a b c : ℤ) → a +ℤ (b +ℤ c) ≡ (a +ℤ b) +ℤ c = λ a b c. omega (arith, ints) in e (f start) (sum_from (suc start) m f) (sum_from (start + suc m) n f))

pub sum_from-one : (start : ℕ) (f : ℕ → ℤ) → sum_from start 1 f ≡ f start
unfolding sum_from
sum_from-one start f = omega (arith, ints)

-- the first summand, and the others each one place further
pub sum_from-first : (start n : ℕ) (f : ℕ → ℤ) → sum_from start (suc n) f ≡ f start +ℤ sum_from start n (λ k. f (suc k))
unfolding sum_from
sum_from-first start n f = ap (λ z. f start +ℤ z) (sum_from-shift start n f)

pub sum_from-last : (start n : ℕ) (f : ℕ → ℤ) → sum_from start (suc n) f ≡ sum_from start n f +ℤ f (start + n)
sum_from-last start n f =
    ap (λ (k : ℕ). sum_from start k f) (let e : suc n ≡ n + 1 = omega arith in e)
    ∙ sum_from-append start n 1 f ∙ ap (λ z. sum_from start n f +ℤ z) (sum_from-one (start + n) f)

-- all summands but one are 0
pub sum_from-only : (start n place : ℕ) (f : ℕ → ℤ) → start ≤ place → place < start + n → ((k : ℕ) → start ≤ k → k < start + n → k ≢ place → f k ≡ pos 0) → sum_from start n f ≡ f place
unfolding sum_from
sum_from-only start zero place f l m h = absurd (omega arith)
sum_from-only start (suc n) place f l m h =
    elim (cases_order start place) [
      | inl e ↦ omega (arith, ints, ap f e, sum_from-zero (suc start) n f (λ k p q. h k (omega arith) (omega arith) (λ s. let z : suc start ≤ k = p in absurd (omega arith))))
      | inr d ↦ omega (arith, ints, h start (omega arith) (omega arith) (λ e. elim d [ inl p ↦ omega arith | inr p ↦ omega arith ]), sum_from-only (suc start) n place f (elim d [ inl p ↦ omega arith | inr p ↦ absurd (omega arith) ]) (omega arith) (λ k p q. h k (omega arith) (omega arith)))
    ]
