-- The words of expressions, piece by piece.
use Rattle.std.proofs.Common.{◌≡◌, ℕ, zero, suc, ◌+◌, ◌*◌, min, List, [], ◌∷◌, ◌++◌, length, refl, eqb, true, sym, ap, ◌∙◌, append_assoc, append-nil, length-append, ℤ, pos, negsuc, inl, inr, arith}
use Rattle.std.proofs.lemmas.Bool.{cases_lt}
use Rattle.std.proofs.lemmas.Bool.Decides.{nat_tests}
use Rattle.std.specs.Prelude.{unsigned_abs}
use Rattle.nil_word.specs.declared.letter.Letter.{Letter}
use Rattle.nil_word.specs.declared.expr.Expr.{Expr, fold-roll-Expr}
use Rattle.nil_word.specs.declared.expr.Expr.TheOpen as level
use Rattle.nil_word.specs.declared.expr.Expr.TheVariants.{Pow, Conj, Comm, rolls-Pow, rolls-Conj, rolls-Comm}
use Rattle.nil_word.specs.Words.{opposite, inverse}
use Rattle.nil_word.specs.Expressions.{word_of_level, repeated, raised, conjugate, commutator, unrolled}

pub length-inverse : (w : List Letter) → length (inverse w) ≡ length w
length-inverse [] = refl
length-inverse (x ∷ w) = let h = length-inverse w in omega (arith, length-append (inverse w) (opposite x ∷ []))

pub length-repeated : (n : ℕ) (w : List Letter) → length (repeated n w) ≡ n * length w
length-repeated zero w = omega arith
length-repeated (suc n) w = let h = length-repeated n w in grind (arith, length-append w (repeated n w))

repeated-nil : (n : ℕ) → repeated n [] ≡ []
repeated-nil zero = refl
repeated-nil (suc n) = repeated-nil n

pub repeated-none : (n : ℕ) (w : List Letter) → eqb (length w) 0 ≡ true → repeated n w ≡ []
repeated-none n [] h = repeated-nil n
repeated-none n (x ∷ w) h = absurd (grind (arith, nat_tests))

-- a repeated word goes on as it began
pub repeated-append : (n : ℕ) (w : List Letter) → repeated n w ++ w ≡ repeated (suc n) w
repeated-append zero w = sym (append-nil w)
repeated-append (suc n) w = append_assoc w (repeated n w) w ∙ ap (λ x. w ++ x) (repeated-append n w)

-- a bound on a part of a product shows only where the product is above it too
min-mul : (most t a : ℕ) → min most (t * min most a) ≡ min most (t * a)
min-mul most zero a = omega arith
min-mul most (suc t) a =
    elim (cases_lt most a) [
      | inl h ↦ let e : min most a ≡ most = omega arith in rw e (omega arith)
      | inr h ↦ let e : min most a ≡ a = omega arith in rw e refl
    ]

-- the letters of a power
pub min-length-raised : (most : ℕ) (w : List Letter) (z : ℤ) → min most (unsigned_abs z * min most (length w)) ≡ min most (length (raised w z))
min-length-raised most w (pos n) = min-mul most n (length w) ∙ ap (min most) (sym (length-repeated n w))
min-length-raised most w (negsuc n) =
    min-mul most (suc n) (length w) ∙ ap (λ k. min most (suc n * k)) (sym (length-inverse w)) ∙ ap (min most) (sym (length-repeated (suc n) (inverse w)))

length-conjugate : (u v : List Letter) → length (conjugate u v) ≡ length u + 2 * length v
length-conjugate u v =
    let joins : length (conjugate u v) ≡ length (inverse v ++ u) + length v = length-append (inverse v ++ u) v in
    omega (arith, length-append (inverse v) u, length-inverse v)

length-commutator : (u v : List Letter) → length (commutator u v) ≡ 2 * (length u + length v)
length-commutator u v =
    let joins : length (commutator u v) ≡ length (inverse u ++ inverse v ++ u) + length v = length-append (inverse u ++ inverse v ++ u) v in
    omega (arith, length-append (inverse u ++ inverse v) u, length-append (inverse u) (inverse v), length-inverse u, length-inverse v)

unrolled-Pow : (base : Expr) (z : ℤ) → unrolled (Pow base z) ≡ raised (unrolled base) z
unrolled-Pow base z = ap unrolled (sym (rolls-Pow base z)) ∙ fold-roll-Expr (List Letter) word_of_level (level.Pow base z)

unrolled-Conj : (u v : Expr) → unrolled (Conj u v) ≡ conjugate (unrolled u) (unrolled v)
unrolled-Conj u v = ap unrolled (sym (rolls-Conj u v)) ∙ fold-roll-Expr (List Letter) word_of_level (level.Conj u v)

unrolled-Comm : (u v : Expr) → unrolled (Comm u v) ≡ commutator (unrolled u) (unrolled v)
unrolled-Comm u v = ap unrolled (sym (rolls-Comm u v)) ∙ fold-roll-Expr (List Letter) word_of_level (level.Comm u v)

-- the letters of each kind of expression, up to a bound, from the letters of its parts
pub letters_of-Pow : (most : ℕ) (e base : Expr) (z : ℤ) (letters times n : ℕ) → e ≡ Pow base z → letters ≡ min most (length (unrolled base)) → times ≡ unsigned_abs z
    → n ≡ min most (times * letters) → n ≡ min most (length (unrolled e))
letters_of-Pow most e base z letters times n is of_base of_power total =
    total ∙ ap (λ t. min most (t * letters)) of_power ∙ ap (λ l. min most (unsigned_abs z * l)) of_base ∙ min-length-raised most (unrolled base) z
    ∙ ap (λ w. min most (length w)) (sym (unrolled-Pow base z)) ∙ ap (λ x. min most (length (unrolled x))) (sym is)

pub letters_of-Conj : (most : ℕ) (e u v : Expr) (l m n : ℕ) → e ≡ Conj u v → l ≡ min most (length (unrolled u)) → m ≡ min most (length (unrolled v)) → n ≡ min most (l + 2 * m)
    → n ≡ min most (length (unrolled e))
letters_of-Conj most e u v l m n is of_u of_v total =
    let whole = ap length (ap unrolled is ∙ unrolled-Conj u v) ∙ length-conjugate (unrolled u) (unrolled v) in omega arith

pub letters_of-Comm : (most : ℕ) (e u v : Expr) (l m n : ℕ) → e ≡ Comm u v → l ≡ min most (length (unrolled u)) → m ≡ min most (length (unrolled v)) → n ≡ min most (2 * (l + m))
    → n ≡ min most (length (unrolled e))
letters_of-Comm most e u v l m n is of_u of_v total =
    let whole = ap length (ap unrolled is ∙ unrolled-Comm u v) ∙ length-commutator (unrolled u) (unrolled v) in omega arith
