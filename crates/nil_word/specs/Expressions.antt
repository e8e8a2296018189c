-- Expressions: the word of one, and the shape that each call on one asks for.
--   repeated n w         w, n times
--   raised w z           w to the power z: z times w, or - z times its inverse
--   joined ws            words, one behind another
--   conjugate u v        v^-1 u v
--   commutator u v       u^-1 v^-1 u v
--   word_of_level e      the word of one level of an expression, by the words of its parts
--   unrolled e           the word that an expression stands for
--   joined_words es      the words of expressions, one behind another
--   is_within z          the test of IsNumber
--   is_shaped_level n e  a level of an expression is well shaped, by the tests of its parts
--   IsShaped n e         products of two and more, generators from 1 to n, exponents are numbers
-- n a count · z exponent · e expression · u v w words
use Rattle.std.specs.Prelude.{◌≡◌, ℕ, zero, suc, nat_le, Bool, true, not, ◌&&◌, ℤ, pos, negsuc, List, [], ◌∷◌, ◌++◌, length, map}
use Rattle.std.specs.List.{list_all}
use Rattle.nil_num.specs.Bound.{overflows}
use Rattle.nil_word.specs.declared.letter.Letter.{Letter}
use Rattle.nil_word.specs.Words.{up, inverse}
use Rattle.nil_word.specs.declared.expr.Expr.{Expr, fold-Expr}
use Rattle.nil_word.specs.declared.expr.Expr.TheOpen.{Expr-F, One, Gen, Product, Pow, Conj, Comm}

abbrev pub repeated : ℕ → List Letter → List Letter
repeated zero w = []
repeated (suc n) w = w ++ repeated n w

abbrev pub raised : List Letter → ℤ → List Letter
raised w (pos n) = repeated n w
raised w (negsuc n) = repeated (suc n) (inverse w)

abbrev pub joined : List (List Letter) → List Letter
joined [] = []
joined (w ∷ ws) = w ++ joined ws

abbrev pub conjugate : List Letter → List Letter → List Letter
conjugate u v = inverse v ++ u ++ v

abbrev pub commutator : List Letter → List Letter → List Letter
commutator u v = inverse u ++ inverse v ++ u ++ v

abbrev pub word_of_level : Expr-F (List Letter) → List Letter
word_of_level One = []
word_of_level (Gen k) = up k ∷ []
word_of_level (Product words) = joined words
word_of_level (Pow w e) = raised w e
word_of_level (Conj u v) = conjugate u v
word_of_level (Comm u v) = commutator u v

abbrev pub unrolled : Expr → List Letter
unrolled e = fold-Expr (List Letter) word_of_level e

abbrev pub joined_words : List Expr → List Letter
joined_words es = joined (map unrolled es)

abbrev pub is_within : ℤ → Bool
is_within (pos n) = not (overflows n)
is_within (negsuc n) = not (overflows (suc n))

abbrev pub is_shaped_level : ℕ → Expr-F Bool → Bool
is_shaped_level n One = true
is_shaped_level n (Gen g) = nat_le 1 g && nat_le g n
is_shaped_level n (Product items) = nat_le 2 (length items) && list_all (λ b. b) items
is_shaped_level n (Pow b e) = b && is_within e
is_shaped_level n (Conj u v) = u && v
is_shaped_level n (Comm u v) = u && v

abbrev pub IsShaped : ℕ → Expr → Type 0
IsShaped n e = fold-Expr Bool (is_shaped_level n) e ≡ true
