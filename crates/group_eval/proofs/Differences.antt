-- Differences that overflow 128 bits.
--   b minuend · v its subtrahend as the code has it, and value by its meaning · e difference
use Rattle.std.proofs.Common.{◌≡◌, suc, ◌<◌, ◌^◌, Bool, true, false, ◌||◌, ℤ, pos, negsuc, ◌-ℤ◌, FitsSigned, of_z, to_z, refl, ap, ◌∙◌, subst, arith, inl, inr}
use Rattle.std.specs.Prelude.{unsigned_abs}
use Rattle.std.specs.Int.{w128}
use Rattle.std.proofs.lemmas.Bool.{le-leb, cases_lt}
use Rattle.std.proofs.lemmas.Int.{fits_signed_from_abs, to_z-of_z}
use Rattle.group_eval.specs.Order.{is_wide}

is_wide-unfit : (e : ℤ) → (FitsSigned w128 e → ⊥) → is_wide e ≡ true
is_wide-unfit e h =
    elim (cases_lt (unsigned_abs e) (2 ^ 127)) [
      | inl l ↦ absurd (h (fits_signed_from_abs w128 e l))
      | inr l ↦ le-leb (2 ^ 127) (unsigned_abs e) l
    ]

-- the least number of 128 bits
is_wide-least : (e : ℤ) → FitsSigned w128 e → of_z w128 e ≡ 2 ^ 127 → is_wide e ≡ true
is_wide-least (pos n) f h = le-leb (2 ^ 127) n (omega arith)
is_wide-least (negsuc n) f h =
    let fits : n < 2 ^ 127 = f.sfits in le-leb (2 ^ 127) (suc n) (omega arith)

overflows_second : (s p : Bool) → p ≡ true → (s || p) ≡ true
overflows_second true p h = refl
overflows_second false p h = h

-- the difference of two numbers as the code overflows them
abbrev overflowed : ℤ → ℤ → ℤ
overflowed b v = to_z w128 (of_z w128 b) -ℤ to_z w128 (of_z w128 v)

same_difference : (b v value : ℤ) → FitsSigned w128 b → FitsSigned w128 v → v ≡ value
    → overflowed b v ≡ b -ℤ value
same_difference b v value f g e =
    ap (λ z. z -ℤ to_z w128 (of_z w128 v)) (to_z-of_z w128 b f)
    ∙ ap (λ z. b -ℤ z) (to_z-of_z w128 v g ∙ e)

pub wide_unfit : (s : Bool) (b v value : ℤ) → FitsSigned w128 b → FitsSigned w128 v → v ≡ value
    → (FitsSigned w128 (overflowed b v) → ⊥) → (s || is_wide (b -ℤ value)) ≡ true
wide_unfit s b v value f g e h =
    overflows_second s (is_wide (b -ℤ value))
    (subst (λ z. is_wide z ≡ true) (same_difference b v value f g e)
    (is_wide-unfit (overflowed b v) h))

pub wide_least : (s : Bool) (b v value e : ℤ) → FitsSigned w128 b → FitsSigned w128 v → v ≡ value
    → FitsSigned w128 e → e ≡ overflowed b v → of_z w128 e ≡ 2 ^ 127
    → (s || is_wide (b -ℤ value)) ≡ true
wide_least s b v value e f g h i j k =
    overflows_second s (is_wide (b -ℤ value))
    (subst (λ z. is_wide z ≡ true) (j ∙ same_difference b v value f g h) (is_wide-least e i k))

pub difference_is : (b v value e : ℤ) → FitsSigned w128 b → FitsSigned w128 v → v ≡ value
    → FitsSigned w128 e → e ≡ overflowed b v → to_z w128 (of_z w128 e) ≡ b -ℤ value
difference_is b v value e f g h i j = to_z-of_z w128 e i ∙ j ∙ same_difference b v value f g h
