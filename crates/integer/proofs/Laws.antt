-- The integers are a commutative ring with no zero divisors
use Rattle.std.proofs.Common.{◌≡◌, ◌≢◌, ℕ, zero, suc, ◌*◌, ◌/◌, refl, sym, ap, ◌∙◌, arith, ◌⊎◌, inl, inr}
use borrow.Author.Differences.{ints, up}
use Rattle.std.specs.Int.RustNames.{int_div}
use Rattle.std.proofs.Math.Nat.{mul-div_cancel, zero-div}
use lib.IntN.{ℤ, pos, negsuc, ◌+ℤ◌, ◌-ℤ◌, ◌*ℤ◌, neg_ℤ, suc_ℤ, pred_ℤ, +ℤ_idl, suc_ℤ-+ℤ, pred_ℤ-+ℤ, suc_ℤ-*ℤ, pred_ℤ-*ℤ, zero-*ℤ, *ℤ_comm, neg_ℤ-neg_ℤ}
use Rattle.integer.specs.Divides.{Divides}

pub neg-mul_left : (a b : ℤ) → neg_ℤ a *ℤ b ≡ neg_ℤ (a *ℤ b)
neg-mul_left (pos zero) b = zero-*ℤ b ∙ sym (ap neg_ℤ (zero-*ℤ b))
neg-mul_left (pos (suc n)) (pos m) = refl
neg-mul_left (pos (suc n)) (negsuc m) = sym (neg_ℤ-neg_ℤ (pos (suc n * suc m)))
neg-mul_left (negsuc n) (pos m) = sym (neg_ℤ-neg_ℤ (pos (suc n * m)))
neg-mul_left (negsuc n) (negsuc m) = refl

-- a step of the induction on the left factor
up_one : (a b c : ℤ) → (a +ℤ b) *ℤ c ≡ a *ℤ c +ℤ b *ℤ c → (suc_ℤ a +ℤ b) *ℤ c ≡ suc_ℤ a *ℤ c +ℤ b *ℤ c
up_one a b c e =
    ap (λ x. x *ℤ c) (suc_ℤ-+ℤ a b) ∙ suc_ℤ-*ℤ (a +ℤ b) c ∙ ap (λ x. x +ℤ c) e
    ∙ (let s : a *ℤ c +ℤ b *ℤ c +ℤ c ≡ a *ℤ c +ℤ c +ℤ b *ℤ c = omega (arith, ints) in s)
    ∙ ap (λ x. x +ℤ b *ℤ c) (sym (suc_ℤ-*ℤ a c))

down_one : (a b c : ℤ) → (a +ℤ b) *ℤ c ≡ a *ℤ c +ℤ b *ℤ c → (pred_ℤ a +ℤ b) *ℤ c ≡ pred_ℤ a *ℤ c +ℤ b *ℤ c
down_one a b c e =
    ap (λ x. x *ℤ c) (pred_ℤ-+ℤ a b) ∙ pred_ℤ-*ℤ (a +ℤ b) c ∙ ap (λ x. x -ℤ c) e
    ∙ (let s : a *ℤ c +ℤ b *ℤ c -ℤ c ≡ a *ℤ c -ℤ c +ℤ b *ℤ c = omega (arith, ints) in s)
    ∙ ap (λ x. x +ℤ b *ℤ c) (sym (pred_ℤ-*ℤ a c))

zero_add-mul : (b c : ℤ) → (pos zero +ℤ b) *ℤ c ≡ pos zero *ℤ c +ℤ b *ℤ c
zero_add-mul b c = ap (λ x. x *ℤ c) (+ℤ_idl b) ∙ sym (ap (λ x. x +ℤ b *ℤ c) (zero-*ℤ c) ∙ +ℤ_idl (b *ℤ c))

pub add-mul : (a b c : ℤ) → (a +ℤ b) *ℤ c ≡ a *ℤ c +ℤ b *ℤ c
add-mul (pos zero) b c = zero_add-mul b c
add-mul (pos (suc n)) b c = up_one (pos n) b c (add-mul (pos n) b c)
add-mul (negsuc zero) b c = down_one (pos zero) b c (zero_add-mul b c)
add-mul (negsuc (suc n)) b c = down_one (negsuc n) b c (add-mul (negsuc n) b c)

pub mul-add : (a b c : ℤ) → a *ℤ (b +ℤ c) ≡ a *ℤ b +ℤ a *ℤ c
mul-add a b c =
    *ℤ_comm a (b +ℤ c) ∙ add-mul b c a ∙ ap (λ x. x +ℤ c *ℤ a) (*ℤ_comm b a) ∙ ap (λ x. a *ℤ b +ℤ x) (*ℤ_comm c a)

pub mul-neg_right : (a b : ℤ) → a *ℤ neg_ℤ b ≡ neg_ℤ (a *ℤ b)
mul-neg_right a b = *ℤ_comm a (neg_ℤ b) ∙ neg-mul_left b a ∙ ap neg_ℤ (*ℤ_comm b a)

pub sub-mul : (a b c : ℤ) → (a -ℤ b) *ℤ c ≡ a *ℤ c -ℤ b *ℤ c
sub-mul a b c = add-mul a (neg_ℤ b) c ∙ ap (λ x. a *ℤ c +ℤ x) (neg-mul_left b c)

zero_mul_assoc : (b c : ℤ) → (pos zero *ℤ b) *ℤ c ≡ pos zero *ℤ (b *ℤ c)
zero_mul_assoc b c = ap (λ x. x *ℤ c) (zero-*ℤ b) ∙ zero-*ℤ c ∙ sym (zero-*ℤ (b *ℤ c))

pub mul_assoc_ℤ : (a b c : ℤ) → (a *ℤ b) *ℤ c ≡ a *ℤ (b *ℤ c)
mul_assoc_ℤ (pos zero) b c = zero_mul_assoc b c
mul_assoc_ℤ (pos (suc n)) b c =
    ap (λ x. x *ℤ c) (suc_ℤ-*ℤ (pos n) b) ∙ add-mul (pos n *ℤ b) b c ∙ ap (λ x. x +ℤ b *ℤ c) (mul_assoc_ℤ (pos n) b c) ∙ sym (suc_ℤ-*ℤ (pos n) (b *ℤ c))
mul_assoc_ℤ (negsuc zero) b c =
    ap (λ x. x *ℤ c) (pred_ℤ-*ℤ (pos zero) b) ∙ sub-mul (pos zero *ℤ b) b c ∙ ap (λ x. x -ℤ b *ℤ c) (zero_mul_assoc b c) ∙ sym (pred_ℤ-*ℤ (pos zero) (b *ℤ c))
mul_assoc_ℤ (negsuc (suc n)) b c =
    ap (λ x. x *ℤ c) (pred_ℤ-*ℤ (negsuc n) b) ∙ sub-mul (negsuc n *ℤ b) b c ∙ ap (λ x. x -ℤ b *ℤ c) (mul_assoc_ℤ (negsuc n) b c) ∙ sym (pred_ℤ-*ℤ (negsuc n) (b *ℤ c))

pub one-mul_ℤ : (a : ℤ) → pos 1 *ℤ a ≡ a
one-mul_ℤ (pos n) = ap pos (omega arith)
one-mul_ℤ (negsuc n) = ap neg_ℤ (let e : pos (1 * suc n) ≡ pos (suc n) = ap pos (omega arith) in e)

-- no product of two numbers other than 0 is 0
pub zero_factor : (a b : ℤ) → a *ℤ b ≡ pos 0 → (a ≡ pos 0) ⊎ (b ≡ pos 0)
zero_factor (pos zero) b e = inl refl
zero_factor (pos (suc m)) (pos zero) e = inr refl
zero_factor (pos (suc m)) (pos (suc n)) e = absurd (let h : suc m * suc n ≡ 0 = ap up e in omega arith)
zero_factor (pos (suc m)) (negsuc n) e = absurd (let h : suc m * suc n ≡ 0 = ap up (sym (neg_ℤ-neg_ℤ (pos (suc m * suc n))) ∙ ap neg_ℤ e) in omega arith)
zero_factor (negsuc m) (pos zero) e = inr refl
zero_factor (negsuc m) (pos (suc n)) e = absurd (let h : suc m * suc n ≡ 0 = ap up (sym (neg_ℤ-neg_ℤ (pos (suc m * suc n))) ∙ ap neg_ℤ e) in omega arith)
zero_factor (negsuc m) (negsuc n) e = absurd (let h : suc m * suc n ≡ 0 = ap up e in omega arith)

-- a factor other than 0 is cancelled
pub cancel : (k a b : ℤ) → k ≢ pos 0 → a *ℤ k ≡ b *ℤ k → a ≡ b
cancel k a b h e =
    elim (zero_factor (a -ℤ b) k (sub-mul a b k ∙ (let s : a *ℤ k -ℤ b *ℤ k ≡ pos 0 = omega (arith, ints) in s))) [
      | inl z ↦ omega (arith, ints)
      | inr z ↦ absurd (h z)
    ]

pub cancel_suc : (n : ℕ) (a b : ℤ) → a *ℤ pos (suc n) ≡ b *ℤ pos (suc n) → a ≡ b
cancel_suc n a b e = cancel (pos (suc n)) a b (λ z. let h : suc n ≡ 0 = ap up z in absurd (omega arith)) e

pub divides_difference : (d x y : ℤ) → Divides d x → Divides d y → Divides d (x -ℤ y)
divides_difference d x y p q = (p.0 -ℤ q.0, sub-mul p.0 q.0 d ∙ ap (λ z. z -ℤ q.0 *ℤ d) p.1 ∙ ap (λ z. x -ℤ z) q.1)

pub divides_product : (d k x : ℤ) → Divides d x → Divides d (k *ℤ x)
divides_product d k x p = (k *ℤ p.0, mul_assoc_ℤ k p.0 d ∙ ap (λ z. k *ℤ z) p.1)

quotient_of_negative : (m n : ℕ) → int_div (neg_ℤ (pos m)) (pos n) ≡ neg_ℤ (pos (m / n))
quotient_of_negative zero n = ap pos (zero-div n) ∙ sym (ap (λ (k : ℕ). neg_ℤ (pos k)) (zero-div n))
quotient_of_negative (suc m) n = refl

pub exact_quotient : (q : ℤ) (n : ℕ) → int_div (q *ℤ pos (suc n)) (pos (suc n)) ≡ q
exact_quotient (pos q) n = ap pos (mul-div_cancel q (omega arith))
exact_quotient (negsuc q) n = quotient_of_negative (suc q * suc n) (suc n) ∙ ap (λ (k : ℕ). neg_ℤ (pos k)) (mul-div_cancel (suc q) (omega arith))

pub quotient_is : (x q : ℤ) (n : ℕ) → x ≡ q *ℤ pos (suc n) → int_div x (pos (suc n)) ≡ q
quotient_is x q n e = ap (λ z. int_div z (pos (suc n))) e ∙ exact_quotient q n
