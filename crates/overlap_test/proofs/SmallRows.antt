-- Rows of 0 and of 1 never overflow.
--   z integer · k place · n number of places
use Rattle.std.proofs.Common.{◌≡◌, ℕ, zero, suc, ◌^◌, false, refl, sym, subst, ap, ◌∙◌, arith, ◌⊎◌, inl, inr}
use Rattle.std.specs.Prelude.{unsigned_abs, ◌||◌}
use Rattle.std.proofs.lemmas.Bool.{lt-leb}
use lib.IntN.{ℤ, pos, ◌-ℤ◌, ◌*ℤ◌, zero-*ℤ, *ℤ-zero}
use Rattle.integer.specs.Binomial.{choose}
use Rattle.integer.proofs.Binomial.{choose_none, choose_past}
use Rattle.nil_num.specs.Bound.{overflows}
use Rattle.nil_num.specs.Row.{written_product}
use Rattle.hall_table.specs.Order.{overflows_below, row_overflows}

abbrev pub IsBit : ℤ → Type 0
IsBit z = (z ≡ pos 0) ⊎ (z ≡ pos 1)

bit_fits : (z : ℤ) → IsBit z → overflows (unsigned_abs z) ≡ false
bit_fits z (inl e) = ap (λ y. overflows (unsigned_abs y)) e ∙ lt-leb (2 ^ 127) 0 (omega arith)
bit_fits z (inr e) = ap (λ y. overflows (unsigned_abs y)) e ∙ lt-leb (2 ^ 127) 1 (omega arith)

product-zero : (k : ℕ) → written_product (pos 0) k ≡ pos 0
product-zero zero = *ℤ-zero (choose (pos 0) 0)
product-zero (suc k) =
    ap (λ z. z *ℤ (pos 0 -ℤ pos (suc k))) (choose_past 0 (suc k) (omega arith))
    ∙ zero-*ℤ (pos 0 -ℤ pos (suc k))

product-one : (k : ℕ) → IsBit (written_product (pos 1) k)
product-one zero = inr (ap (λ z. z *ℤ (pos 1 -ℤ pos 0)) (choose_none (pos 1)))
product-one (suc zero) = inl (*ℤ-zero (choose (pos 1) 1))
product-one (suc (suc k)) =
    inl (ap (λ z. z *ℤ (pos 1 -ℤ pos (suc (suc k)))) (choose_past 1 (suc (suc k)) (omega arith))
    ∙ zero-*ℤ (pos 1 -ℤ pos (suc (suc k))))

product-bit : (z : ℤ) (k : ℕ) → IsBit z → IsBit (written_product z k)
product-bit z k (inl e) = inl (ap (λ y. written_product y k) e ∙ product-zero k)
product-bit z k (inr e) = subst (λ y. IsBit (written_product y k)) (sym e) (product-one k)

overflows_below-bit : (z : ℤ) (n : ℕ) → IsBit z → overflows_below z n ≡ false
overflows_below-bit z zero h = refl
overflows_below-bit z (suc n) h =
    ap (λ b. b || overflows_below z n) (bit_fits (written_product z n) (product-bit z n h))
    ∙ overflows_below-bit z n h

pub row_overflows-bit : (z : ℤ) (n : ℕ) → IsBit z → row_overflows z n ≡ false
row_overflows-bit z zero h = refl
row_overflows-bit z (suc n) h = overflows_below-bit z n h
