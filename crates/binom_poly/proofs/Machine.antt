-- Products of numbers that fit 64 bits.
--   a b x y integers
use Rattle.std.proofs.Common.{◌≡◌, ◌∙◌, ◌<◌, ◌^◌, ◌*ℤ◌, sym, ap, subst, arith, FitsSigned, to_z, of_z}
use Rattle.std.specs.Prelude.{unsigned_abs}
use Rattle.std.specs.Int.{w64, w128}
use Rattle.std.proofs.lemmas.Int.{to_z-of_z, unsigned_abs-mul, fits_signed_from_abs}
use Rattle.std.proofs.lemmas.Nat.{mul-lt}
use lib.IntN.{ℤ, pos, negsuc}

abs-fits : (a : ℤ) → FitsSigned w64 a → unsigned_abs a < 9223372036854775809
abs-fits (pos n) h = omega (arith, h)
abs-fits (negsuc n) h = omega (arith, h)

small_product : (a b : ℤ) → FitsSigned w64 a → FitsSigned w64 b
    → unsigned_abs (a *ℤ b) < 2 ^ 127
small_product a b f g =
    let p = mul-lt (unsigned_abs a) (unsigned_abs b) 9223372036854775809 9223372036854775809 (abs-fits a f)
    (abs-fits b g) in
    let e = unsigned_abs-mul a b in
    omega (arith, p, e)

-- the numbers go to their bits and back
pub product_there : (a b x y : ℤ) → x ≡ a → y ≡ b → FitsSigned w64 (to_z w128 (of_z w128 a))
    → FitsSigned w64 (to_z w128 (of_z w128 b)) → FitsSigned w128 a → FitsSigned w128 b
    → (to_z w128 (of_z w128 (to_z w128 (of_z w128 (to_z w64 (of_z w64 x)))
    *ℤ to_z w128 (of_z w128 (to_z w64 (of_z w64 y))))) ≡ a *ℤ b) × (unsigned_abs (a *ℤ b) < 2 ^ 127)
product_there a b x y p q f g fa fb =
    let r = to_z-of_z w128 a fa in
    let s = to_z-of_z w128 b fb in
    let fx : FitsSigned w64 x = subst (FitsSigned w64) (r ∙ sym p) f in
    let fy : FitsSigned w64 y = subst (FitsSigned w64) (s ∙ sym q) g in
    let ax : FitsSigned w128 x = subst (FitsSigned w128) (sym p) fa in
    let ay : FitsSigned w128 y = subst (FitsSigned w128) (sym q) fb in
    let l : unsigned_abs (x *ℤ y) < 2 ^ 127 = small_product x y fx fy in
    let fp : FitsSigned w128 (x *ℤ y) = fits_signed_from_abs w128 (x *ℤ y) l in (
      ap (λ z. to_z w128 (of_z w128 (to_z w128 (of_z w128 z) *ℤ to_z w128 (of_z w128 (to_z w64 (of_z w64 y)))))) (to_z-of_z w64 x fx)
          ∙ ap (λ z. to_z w128 (of_z w128 (to_z w128 (of_z w128 x) *ℤ to_z w128 (of_z w128 z)))) (to_z-of_z w64 y fy)
          ∙ ap (λ z. to_z w128 (of_z w128 (z *ℤ to_z w128 (of_z w128 y)))) (to_z-of_z w128 x ax)
          ∙ ap (λ z. to_z w128 (of_z w128 (x *ℤ z))) (to_z-of_z w128 y ay)
          ∙ to_z-of_z w128 (x *ℤ y) fp
          ∙ ap (λ z. z *ℤ y) p ∙ ap (λ z. a *ℤ z) q,
      subst (λ z. unsigned_abs z < 2 ^ 127) (ap (λ z. z *ℤ y) p ∙ ap (λ z. a *ℤ z) q) l,
    )
