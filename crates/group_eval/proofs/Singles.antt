-- Powers of one generator: their words, and their vectors.
--   n generators · k generator · a letter · e exponent
use Rattle.std.proofs.Common.{◌≡◌, ℕ, zero, suc, ◌-◌, ℤ, pos, negsuc, ◌+ℤ◌, [], ◌∷◌, replicate, set, refl, ◌∙◌, ap, arith}
use Rattle.std.proofs.lemmas.Int.{ints}
use Rattle.std.proofs.lemmas.List.{set-get_or}
use Rattle.nil_word.specs.declared.letter.Letter.{Letter}
use Rattle.nil_word.specs.Words.{up, down, power}
use Rattle.nil_word.specs.Expressions.{repeated, raised}
use Rattle.nil_word.specs.Exponents.{entry}
use Rattle.hall_law.specs.Table.{zeros, single}
use Rattle.hall_law.proofs.Vectors.{entry-zeros}

repeated-letter : (n : ℕ) (a : Letter) → repeated n (a ∷ []) ≡ replicate n a
repeated-letter zero a = refl
repeated-letter (suc n) a = ap (λ w. a ∷ w) (repeated-letter n a)

pub raised-up : (k : ℕ) (e : ℤ) → raised (up k ∷ []) e ≡ power k e
raised-up k (pos n) = repeated-letter n (up k)
raised-up k (negsuc n) = repeated-letter (suc n) (down k)

pub single-zero : (n k : ℕ) → single n k (pos 0) ≡ zeros n
single-zero n k =
    let e : entry (zeros n) k +ℤ pos 0 ≡ entry (zeros n) k = omega (arith, ints) in
    ap (λ z. set (zeros n) (k - 1) z) e ∙ set-get_or (zeros n) (k - 1) (pos 0)

pub set-zeros : (n k : ℕ) (e : ℤ) → set (zeros n) (k - 1) e ≡ single n k e
set-zeros n k e =
    let f : e ≡ entry (zeros n) k +ℤ e = omega (arith, ints, entry-zeros n k) in
    ap (λ z. set (zeros n) (k - 1) z) f
