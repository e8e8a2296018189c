-- Sums over all pairs i < j, by rows and by columns.
--   n how many generators · f a summand for each pair
use Rattle.std.proofs.Common.{◌≡◌, ℕ, zero, suc, ◌+◌, ◌-◌, ◌≤◌, ℤ, pos, ◌+ℤ◌, refl, sym, ap, ◌∙◌, arith}
use Rattle.std.proofs.lemmas.Int.{ints}
use Rattle.integer.specs.Sums.{sum_from}
use Rattle.integer.proofs.Sums.{sum_from-same, sum_from-add, sum_from-last}

-- for each j the pairs with lower i
abbrev pub by_second : ℕ → (ℕ → ℕ → ℤ) → ℤ
by_second n f = sum_from 1 n (λ j. sum_from 1 (j - 1) (λ i. f i j))

-- for each i the pairs with higher j
abbrev pub by_first : ℕ → (ℕ → ℕ → ℤ) → ℤ
by_first n f = sum_from 1 n (λ i. sum_from (suc i) (n - i) (f i))

later : (n i : ℕ) (f : ℕ → ℕ → ℤ) → i ≤ n
    → sum_from (suc i) (suc n - i) (f i) ≡ sum_from (suc i) (n - i) (f i) +ℤ f i (suc n)
later n i f h =
    let one : suc n - i ≡ suc (n - i) = omega arith in
    let last : suc i + (n - i) ≡ suc n = omega arith in
    ap (λ (d : ℕ). sum_from (suc i) d (f i)) one
    ∙ sum_from-last (suc i) (n - i) (f i)
    ∙ ap (λ (j : ℕ). sum_from (suc i) (n - i) (f i) +ℤ f i j) last

none : (n : ℕ) (f : ℕ → ℕ → ℤ) → sum_from (suc (suc n)) (suc n - suc n) (f (suc n)) ≡ pos 0
unfolding sum_from
none n f =
    let e : suc n - suc n ≡ 0 = omega arith in
    ap (λ (d : ℕ). sum_from (suc (suc n)) d (f (suc n))) e

by_second-next : (n : ℕ) (f : ℕ → ℕ → ℤ)
    → by_second (suc n) f ≡ by_second n f +ℤ sum_from 1 n (λ i. f i (suc n))
by_second-next n f =
    let e : suc n - 1 ≡ n = omega arith in
    let s : 1 + n ≡ suc n = omega arith in
    sum_from-last 1 n (λ j. sum_from 1 (j - 1) (λ i. f i j))
    ∙ ap (λ (j : ℕ). by_second n f +ℤ sum_from 1 (j - 1) (λ i. f i j)) s
    ∙ ap (λ (d : ℕ). by_second n f +ℤ sum_from 1 d (λ i. f i (suc n))) e

by_first-next : (n : ℕ) (f : ℕ → ℕ → ℤ)
    → by_first (suc n) f ≡ by_first n f +ℤ sum_from 1 n (λ i. f i (suc n))
by_first-next n f =
    let s : 1 + n ≡ suc n = omega arith in
    let at_last : sum_from (suc (1 + n)) (suc n - (1 + n)) (f (1 + n)) ≡ pos 0 =
    ap (λ (k : ℕ). sum_from (suc k) (suc n - k) (f k)) s ∙ none n f in
    let rows = sum_from-same 1 n (λ i. sum_from (suc i) (suc n - i) (f i))
    (λ i. sum_from (suc i) (n - i) (f i) +ℤ f i (suc n)) (λ i a b. later n i f (omega arith)) in
    let sums = sum_from-add 1 n (λ i. sum_from (suc i) (n - i) (f i)) (λ i. f i (suc n)) in
    let last = sum_from-last 1 n (λ i. sum_from (suc i) (suc n - i) (f i)) in
    omega (arith, ints, at_last, rows, sums, last)

pub by_second-first : (n : ℕ) (f : ℕ → ℕ → ℤ) → by_second n f ≡ by_first n f
unfolding sum_from
by_second-first zero f = refl
by_second-first (suc n) f =
    by_second-next n f
    ∙ ap (λ z. z +ℤ sum_from 1 n (λ i. f i (suc n))) (by_second-first n f)
    ∙ sym (by_first-next n f)
