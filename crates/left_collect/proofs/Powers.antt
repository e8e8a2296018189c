-- Powers of words by repeating a word, and their inverses.
--   x word · e exponent · n i counts · b sign
use Rattle.std.proofs.Common.{◌≡◌, ℕ, zero, suc, ◌<◌, ◌-◌, ◌+◌, Bool, true, false, not, ℤ, pos, negsuc, neg_ℤ, int_lt, unsigned_abs, List, ◌++◌, refl, sym, ◌∙◌, ap, arith}
use Rattle.std.proofs.lemmas.Bool.{lt-ltb}
use Rattle.nil_word.specs.declared.letter.Letter.{Letter}
use Rattle.nil_word.specs.Words.{inverse}
use Rattle.nil_word.specs.Expressions.{repeated, raised}
use Rattle.nil_word.proofs.Inverses.{inverse-append, inverse-inverse}
use Rattle.nil_word.proofs.Expanding.{repeated-append}
use Rattle.left_collect.specs.Pieces.{turned}

inverse-repeated : (n : ℕ) (x : List Letter) → inverse (repeated n x) ≡ repeated n (inverse x)
inverse-repeated zero x = refl
inverse-repeated (suc n) x =
    inverse-append x (repeated n x)
    ∙ (ap (λ (w : List Letter). w ++ inverse x) (inverse-repeated n x)
    ∙ repeated-append n (inverse x))

pub inverse-raised : (x : List Letter) (e : ℤ) → inverse (raised x e) ≡ raised x (neg_ℤ e)
inverse-raised x (pos zero) = refl
inverse-raised x (pos (suc n)) = inverse-repeated (suc n) x
inverse-raised x (negsuc n) =
    inverse-repeated (suc n) (inverse x) ∙ ap (repeated (suc n)) (inverse-inverse x)

pub inverse-turned : (b : Bool) (x : List Letter) → inverse (turned b x) ≡ turned (not b) x
inverse-turned true x = refl
inverse-turned false x = inverse-inverse x

pub raised-repeated : (x : List Letter) (e : ℤ)
    → raised x e ≡ repeated (unsigned_abs e) (turned (int_lt (pos 0) e) x)
raised-repeated x (pos zero) = refl
raised-repeated x (pos (suc n)) =
    ap (λ (b : Bool). repeated (suc n) (turned b x)) (sym (lt-ltb 0 (suc n) (omega arith)))
raised-repeated x (negsuc n) = refl

pub repeated_more : (n i : ℕ) (x : List Letter) → i < n
    → repeated (n - i) x ≡ x ++ repeated (n - (i + 1)) x
repeated_more n i x h =
    let e : n - i ≡ suc (n - (i + 1)) = omega arith in ap (λ (m : ℕ). repeated m x) e
