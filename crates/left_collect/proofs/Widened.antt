-- Exponents and letters as the code reads them.
--   z x exponents · k generator · b sign
use Rattle.std.proofs.Common.{◌≡◌, ℕ, zero, suc, ℤ, pos, negsuc, ◌-ℤ◌, neg_ℤ, Bool, true, false, [], ◌∷◌, to_z, of_z, refl, ◌∙◌, ap, arith}
use mir.Syntax.{w64, w128}
use mir.Val.{SFits}
use Rattle.std.proofs.lemmas.Int.{ints, to_z-of_z}
use Rattle.nil_word.specs.declared.letter.Letter.{Letter}
use Rattle.nil_word.specs.Words.{up}
use Rattle.left_collect.specs.Pieces.{turned}

-- an exponent widened, and turned
wider : (z : ℤ) → SFits w64 z → SFits w128 z
wider z h = record { sfits = omega (arith, h.sfits) }

pub wide_exponent : (z : ℤ) → SFits w64 z → to_z w128 (of_z w128 (to_z w64 (of_z w64 z))) ≡ z
wide_exponent z h =
    ap (λ (x : ℤ). to_z w128 (of_z w128 x)) (to_z-of_z w64 z h) ∙ to_z-of_z w128 z (wider z h)

turned_fits : (z : ℤ) → SFits w64 z → SFits w128 (neg_ℤ z)
turned_fits (pos zero) h = record { sfits = omega (arith, h.sfits) }
turned_fits (pos (suc n)) h = record { sfits = omega (arith, h.sfits) }
turned_fits (negsuc n) h = record { sfits = omega (arith, h.sfits) }

pub turned_exponent : (z : ℤ) → SFits w64 z
    → to_z w128 (of_z w128 (pos 0 -ℤ to_z w128 (of_z w128 (to_z w64 (of_z w64 z))))) ≡ neg_ℤ z
turned_exponent z h =
    let e : pos 0 -ℤ z ≡ neg_ℤ z = omega (arith, ints) in
    ap (λ (x : ℤ). to_z w128 (of_z w128 (pos 0 -ℤ x))) (wide_exponent z h)
    ∙ (ap (λ (x : ℤ). to_z w128 (of_z w128 x)) e ∙ to_z-of_z w128 (neg_ℤ z) (turned_fits z h))

-- an entry that was kept
pub saved_is : (z x : ℤ) → z ≡ x → SFits w128 x → to_z w128 (of_z w128 z) ≡ x
saved_is z x e h = ap (λ (y : ℤ). to_z w128 (of_z w128 y)) e ∙ to_z-of_z w128 x h

-- a letter by its sign
pub signed_letter : (k : ℕ) (b : Bool) → let x : Letter = record { number = k; up = b } in
    turned b (up k ∷ []) ≡ x ∷ []
signed_letter k true = refl
signed_letter k false = refl
