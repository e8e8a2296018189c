-- Quotients of wide products, and the entries on a diagonal of Pascal's triangle times a number
use Rattle.std.proofs.Common.{◌≡◌, ℕ, suc, ◌+◌, ◌*◌, ◌-◌, ◌/◌, ◌%◌, ◌^◌, ◌<◌, ◌≤◌, sym, ap, ◌∙◌, subst, arith}
use Rattle.std.proofs.Math.Nat.{mul-add-div_right, div-add-mod, mul-div_cancel, mul-le-mul_left}
use Rattle.integer.specs.Binomial.{ways}
use Rattle.integer.proofs.Binomial.{ways_diagonal, ways_ascend, ways_mirror, ways_none}

-- the quotient of a product, by the quotient and the remainder of its first factor
pub mul-div_parts : (x f d : ℕ) → 0 < d → x * f / d ≡ x / d * f + x % d * f / d
mul-div_parts x f d h =
    ap (λ (y : ℕ). y / d) (ap (λ (y : ℕ). y * f) (sym (div-add-mod x d)) ∙ (let e : (d * (x / d) + x % d) * f ≡ x / d * f * d + x % d * f = omega arith in e))
    ∙ mul-add-div_right h (x / d * f) (x % d * f)

-- the next entry down the diagonal
diagonal_next : (n j : ℕ) → ways (n + (j + 1)) (j + 1) * (j + 1) ≡ ways (n + j) j * (n + j + 1)
diagonal_next n j =
    ap (λ (k : ℕ). ways k (j + 1) * (j + 1)) (let e : n + (j + 1) ≡ suc (n + j) = omega arith in e)
    ∙ ap (λ (k : ℕ). ways (suc (n + j)) k * k) (let e : j + 1 ≡ suc j = omega arith in e)
    ∙ ways_diagonal (n + j) j ∙ ap (λ (k : ℕ). ways (n + j) j * k) (let e : suc (n + j) ≡ n + j + 1 = omega arith in e)

pub diagonal_step : (start n j : ℕ) → start * ways (n + j) j * (n + j + 1) / (j + 1) ≡ start * ways (n + (j + 1)) (j + 1)
diagonal_step start n j =
    ap (λ (y : ℕ). y / (j + 1)) (group start (ways (n + j) j) (n + j + 1) ∙ ap (λ (y : ℕ). start * y) (sym (diagonal_next n j)) ∙ sym (group start (ways (n + (j + 1)) (j + 1)) (j + 1)))
    ∙ mul-div_cancel (start * ways (n + (j + 1)) (j + 1)) (omega arith)
  where
    group : (a b c : ℕ) → a * b * c ≡ a * (b * c)
    group a b c = omega arith

-- no entry of the diagonal is greater than a later one
diagonal_ascends : (start n j m : ℕ) → j ≤ m → start * ways (n + j) j ≤ start * ways (n + m) m
diagonal_ascends start n j m l =
    mul-le-mul_left start (subst (λ (k : ℕ). ways (n + j) j ≤ ways k m) (let e : n + j + (m - j) ≡ n + m = omega arith in e)
    (subst (λ (k : ℕ). ways (n + j) j ≤ ways (n + j + (m - j)) k) (let e : j + (m - j) ≡ m = omega arith in e) (ways_ascend (n + j) j (m - j))))

-- an entry that overflows shows that the last one overflows
pub diagonal_overflows : (start n j m : ℕ) → j ≤ m → 2 ^ 127 ≤ start * ways (n + j) j → 2 ^ 127 ≤ start * ways (n + m) m
diagonal_overflows start n j m l h = omega (arith, diagonal_ascends start n j m l)

-- the inner and the outer factor of a coefficient as entries on diagonals
pub inner_is : (a b k : ℕ) → b ≤ k → k ≤ a + b → 1 * ways (a + b - k + (k - b)) (k - b) ≡ ways a (k - b)
inner_is a b k q r = omega (arith, ap (λ (n : ℕ). ways n (k - b)) (let e : a + b - k + (k - b) ≡ a = omega arith in e))

pub outer_is : (a k : ℕ) → a ≤ k → ways (a + (k - a)) (k - a) ≡ ways k a
outer_is a k p = ap (λ (n : ℕ). ways n (k - a)) (let e : a + (k - a) ≡ k = omega arith in e) ∙ ways_mirror k (k - a) a (omega arith)

-- an inner factor that overflows shows that the coefficient overflows
pub inner_overflows : (inner a k : ℕ) → a ≤ k → 2 ^ 127 ≤ inner → 2 ^ 127 ≤ ways k a * inner
inner_overflows inner a k p h =
    let d : inner * 1 ≤ inner * ways k a = subst (λ (n : ℕ). inner * n ≤ inner * ways k a) (ways_none (a + 0)) (subst (λ (n : ℕ). inner * ways (a + 0) 0 ≤ inner * n) (outer_is a k p) (diagonal_ascends inner a 0 (k - a) (omega arith))) in
    omega (arith, d)
