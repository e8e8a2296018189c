-- The word of a well-shaped expression is over its generators.
--   is_shaped n e   the test of the shape
--   Known n         an expression whose word is over n generators if it is well shaped
-- n k counts · e expression · u v w words · x y z one level of an expression
use Rattle.std.proofs.Common.{◌≡◌, ℕ, zero, suc, nat_le, Bool, true, ℤ, pos, negsuc, List, [], ◌∷◌, ◌++◌, length, map, sym, ◌∙◌, subst}
use Rattle.std.specs.List.{list_all}
use Rattle.std.proofs.lemmas.Bool.{leb-true, and_parts}
use Rattle.std.proofs.lemmas.List.Elements.{All-nil, All-cons, All-append}
use Rattle.nil_word.specs.declared.letter.Letter.{Letter}
use Rattle.nil_word.specs.declared.expr.Expr.{Expr, Expr-F, fold-Expr, fold-roll-Expr, ind-Expr, map-Expr, roll-Expr}
use Rattle.nil_word.specs.declared.expr.Expr.TheOpen as level
use Rattle.nil_word.specs.Words.{up, inverse, IsIn, IsWordIn}
use Rattle.nil_word.specs.Expressions.{repeated, raised, joined, conjugate, commutator, word_of_level, unrolled, is_within, is_shaped_level, IsShaped}
use Rattle.nil_word.proofs.Inverses.{IsWordIn-inverse}

abbrev is_shaped : ℕ → Expr → Bool
is_shaped n e = fold-Expr Bool (is_shaped_level n) e

abbrev Known : ℕ → Type 0
Known n = (e : Expr) × (is_shaped n e ≡ true → IsWordIn 1 n (unrolled e))

abbrev known : (n : ℕ) → List (Known n) → List Expr
known n ys = map (λ e. e.0) ys

-- words that are joined
module _ (n : ℕ) where
  join_in : (u v : List Letter) → IsWordIn 1 n u → IsWordIn 1 n v → IsWordIn 1 n (u ++ v)
  join_in u v = All-append (IsIn 1 n) u v

  repeated_in : (k : ℕ) (w : List Letter) → IsWordIn 1 n w → IsWordIn 1 n (repeated k w)
  repeated_in zero w h = All-nil (IsIn 1 n)
  repeated_in (suc k) w h = join_in w (repeated k w) h (repeated_in k w h)

  raised_in : (w : List Letter) (z : ℤ) → IsWordIn 1 n w → IsWordIn 1 n (raised w z)
  raised_in w (pos k) h = repeated_in k w h
  raised_in w (negsuc k) h = repeated_in (suc k) (inverse w) (IsWordIn-inverse 1 n w h)

  conjugate_in : (u v : List Letter) → IsWordIn 1 n u → IsWordIn 1 n v
      → IsWordIn 1 n (conjugate u v)
  conjugate_in u v g h =
      join_in (inverse v ++ u) v (join_in (inverse v) u (IsWordIn-inverse 1 n v h) g) h

  commutator_in : (u v : List Letter) → IsWordIn 1 n u → IsWordIn 1 n v
      → IsWordIn 1 n (commutator u v)
  commutator_in u v g h =
      let both = join_in (inverse u) (inverse v) (IsWordIn-inverse 1 n u g)
      (IsWordIn-inverse 1 n v h) in
      join_in (inverse u ++ inverse v ++ u) v (join_in (inverse u ++ inverse v) u both g) h

-- one level, from its parts
module _ (n : ℕ) where
  all_in : (ys : List (Known n)) → list_all (λ b. b) (map (is_shaped n) (known n ys)) ≡ true
      → IsWordIn 1 n (joined (map unrolled (known n ys)))
  all_in [] h = All-nil (IsIn 1 n)
  all_in (y ∷ ys) h =
      let rest = list_all (λ b. b) (map (is_shaped n) (known n ys)) in
      let both = and_parts (is_shaped n y.0) rest h in
      join_in n (unrolled y.0) (joined (map unrolled (known n ys))) (y.1 both.0)
      (all_in ys both.1)

  abbrev parts : Expr-F (Known n) → Expr-F Expr
  parts y = map-Expr (Known n) Expr (λ e. e.0) y

  level_in : (y : Expr-F (Known n))
      → is_shaped_level n (map-Expr Expr Bool (is_shaped n) (parts y)) ≡ true
      → IsWordIn 1 n (word_of_level (map-Expr Expr (List Letter) unrolled (parts y)))
  level_in level.One h = All-nil (IsIn 1 n)
  level_in (level.Gen k) h =
      let both = and_parts (nat_le 1 k) (nat_le k n) h in
      All-cons (IsIn 1 n) (up k) [] (leb-true 1 k both.0, leb-true k n both.1) (All-nil (IsIn 1 n))
  level_in (level.Product ys) h =
      all_in ys
      (and_parts (nat_le 2 (length (map (is_shaped n) (known n ys))))
      (list_all (λ b. b) (map (is_shaped n) (known n ys))) h).1
  level_in (level.Pow y z) h =
      raised_in n (unrolled y.0) z (y.1 (and_parts (is_shaped n y.0) (is_within z) h).0)
  level_in (level.Conj u v) h =
      let both = and_parts (is_shaped n u.0) (is_shaped n v.0) h in
      conjugate_in n (unrolled u.0) (unrolled v.0) (u.1 both.0) (v.1 both.1)
  level_in (level.Comm u v) h =
      let both = and_parts (is_shaped n u.0) (is_shaped n v.0) h in
      commutator_in n (unrolled u.0) (unrolled v.0) (u.1 both.0) (v.1 both.1)

  rolled_in : (y : Expr-F (Known n)) → is_shaped n (roll-Expr (parts y)) ≡ true
      → IsWordIn 1 n (unrolled (roll-Expr (parts y)))
  rolled_in y h =
      subst (IsWordIn 1 n) (sym (fold-roll-Expr (List Letter) word_of_level (parts y)))
      (level_in y (sym (fold-roll-Expr Bool (is_shaped_level n) (parts y)) ∙ h))

  pub unrolled_in : (e : Expr) → IsShaped n e → IsWordIn 1 n (unrolled e)
  unrolled_in =
      ind-Expr (λ e. is_shaped n e ≡ true → IsWordIn 1 n (unrolled e))
      (λ x y is. subst (λ z. is_shaped n (roll-Expr z) ≡ true → IsWordIn 1 n (unrolled (roll-Expr z))) is
      (rolled_in y))
