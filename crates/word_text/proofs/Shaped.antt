-- What is in the grammar is well shaped, where its generators are known and its integers within bounds.
--   is_good n k    a generator from 1 to n, an integer within bounds or without a value, or anything else
--   AreGood n ks   all of them are
use Rattle.std.proofs.Common.{◌≡◌, ℕ, suc, nat_le, Bool, true, false, ◌&&◌, ℤ, pos, Some, None, Option, unwrap_or, List, [], ◌∷◌, length, map, refl, sym, ◌∙◌, ap, arith}
use Rattle.std.specs.List.{list_all}
use Rattle.std.proofs.lemmas.List.{length-map}
use Rattle.std.proofs.lemmas.Bool.Decides.{nat_tests}
use Rattle.nil_word.specs.declared.expr.Expr.{Expr, fold-Expr, fold-roll-Expr}
use Rattle.nil_word.specs.declared.expr.Expr.TheOpen as level
use Rattle.nil_word.specs.declared.expr.Expr.TheVariants.{One, Gen, Product, Pow, Conj, Comm, rolls-One, rolls-Gen, rolls-Product, rolls-Pow, rolls-Conj, rolls-Comm}
use Rattle.nil_word.specs.declared.query.Query.{Query}
use Rattle.nil_word.specs.Expressions.{is_within, is_shaped_level, IsShaped}
use Rattle.line_tokens.specs.declared.kind.Kind.{Kind}
use Rattle.line_tokens.specs.declared.kind.Kind.TheVariants as k
use Rattle.word_text.specs.Products.{product_of}
use Rattle.word_text.specs.Grammar.{IsAtom, IsFactor, IsProduct, IsExpr, IsLine, name, one, square, round, plain, power, conjugate, last, times, whole, value, same, solve, quotient}
use Rattle.word_text.specs.Shaping.{IsShapedQuery}

abbrev pub is_good : ℕ → Kind → Bool
is_good n (k.Name g) = nat_le 1 g && nat_le g n
is_good n (k.Integer is_one None) = true
is_good n (k.Integer is_one (Some z)) = is_within z
is_good n _ = true

abbrev pub AreGood : ℕ → List Kind → Type 0
AreGood n [] = Unit {0}
AreGood n (k ∷ ks) = (is_good n k ≡ true) × AreGood n ks

abbrev AreShaped : ℕ → List Expr → Type 0
AreShaped n [] = Unit {0}
AreShaped n (e ∷ es) = IsShaped n e × AreShaped n es

-- there is a factor, and all are well shaped
abbrev AreFactors : ℕ → List Expr → Type 0
AreFactors n [] = ⊥
AreFactors n (e ∷ es) = IsShaped n e × AreShaped n es

abbrev is_shaped : ℕ → Expr → Bool
is_shaped n e = fold-Expr Bool (is_shaped_level n) e

pub both_true : (a b : Bool) → a ≡ true → b ≡ true → (a && b) ≡ true
both_true true b e f = f
both_true false b e f = e

shaped_one : (n : ℕ) → IsShaped n One
shaped_one n = ap (is_shaped n) (sym rolls-One) ∙ fold-roll-Expr Bool (is_shaped_level n) level.One

shaped_generator : (n g : ℕ) → (nat_le 1 g && nat_le g n) ≡ true → IsShaped n (Gen g)
shaped_generator n g h = ap (is_shaped n) (sym (rolls-Gen g)) ∙ fold-roll-Expr Bool (is_shaped_level n) (level.Gen g) ∙ h

shaped_power : (n : ℕ) (b : Expr) (z : ℤ) → IsShaped n b → is_within z ≡ true → IsShaped n (Pow b z)
shaped_power n b z h w =
    ap (is_shaped n) (sym (rolls-Pow b z)) ∙ fold-roll-Expr Bool (is_shaped_level n) (level.Pow b z) ∙ both_true (is_shaped n b) (is_within z) h w

shaped_conjugate : (n : ℕ) (u v : Expr) → IsShaped n u → IsShaped n v → IsShaped n (Conj u v)
shaped_conjugate n u v g h =
    ap (is_shaped n) (sym (rolls-Conj u v)) ∙ fold-roll-Expr Bool (is_shaped_level n) (level.Conj u v) ∙ both_true (is_shaped n u) (is_shaped n v) g h

shaped_commutator : (n : ℕ) (u v : Expr) → IsShaped n u → IsShaped n v → IsShaped n (Comm u v)
shaped_commutator n u v g h =
    ap (is_shaped n) (sym (rolls-Comm u v)) ∙ fold-roll-Expr Bool (is_shaped_level n) (level.Comm u v) ∙ both_true (is_shaped n u) (is_shaped n v) g h

all_shaped : (n : ℕ) (es : List Expr) → AreShaped n es → list_all (λ b. b) (map (is_shaped n) es) ≡ true
all_shaped n [] h = refl
all_shaped n (e ∷ es) h = both_true (is_shaped n e) (list_all (λ b. b) (map (is_shaped n) es)) h.0 (all_shaped n es h.1)

two_more : (m : ℕ) → nat_le 2 (suc (suc m)) ≡ true
two_more m = grind (arith, nat_tests)

shaped_product : (n : ℕ) (es : List Expr) → nat_le 2 (length es) ≡ true → AreShaped n es → IsShaped n (Product es)
shaped_product n es two h =
    ap (is_shaped n) (sym (rolls-Product es)) ∙ fold-roll-Expr Bool (is_shaped_level n) (level.Product es)
    ∙ both_true (nat_le 2 (length (map (is_shaped n) es))) (list_all (λ b. b) (map (is_shaped n) es))
    (ap (nat_le 2) (length-map es (is_shaped n)) ∙ two) (all_shaped n es h)

shaped_factors : (n : ℕ) (es : List Expr) → AreFactors n es → IsShaped n (product_of es)
shaped_factors n [] h = absurd h
shaped_factors n (e ∷ []) h = h.0
shaped_factors n (e ∷ f ∷ es) h = shaped_product n (e ∷ f ∷ es) (two_more (length es)) h

factors_shaped : (n : ℕ) (es : List Expr) → AreFactors n es → AreShaped n es
factors_shaped n [] h = absurd h
factors_shaped n (e ∷ es) h = h

exponent_within : (n : ℕ) (is_one : Bool) (m : Option ℤ) → is_good n (k.Integer is_one m) ≡ true → is_within (unwrap_or m (pos 0)) ≡ true
exponent_within n is_one None h = refl
exponent_within n is_one (Some z) h = h

mutual
  atom_shaped : (n : ℕ) (ks rest : List Kind) (e : Expr) → IsAtom ks rest e → AreGood n ks → IsShaped n e × AreGood n rest
  atom_shaped n _ _ _ (name g rest) h = (shaped_generator n g h.0, h.1)
  atom_shaped n _ _ _ (one m rest) h = (shaped_one n, h.1)
  atom_shaped n _ _ _ (round ks rest e d) h = let r = expr_shaped n ks (k.Close ∷ rest) e d h.1 in (r.0, r.1.1)
  atom_shaped n _ _ _ (square ks more rest u v d c) h =
      let r = expr_shaped n ks (k.Comma ∷ more) u d h.1 in
      let s = expr_shaped n more (k.SquareClose ∷ rest) v c r.1.1 in
      (shaped_commutator n u v r.0 s.0, s.1.1)

  factor_shaped : (n : ℕ) (ks rest : List Kind) (e : Expr) → IsFactor ks rest e → AreGood n ks → IsShaped n e × AreGood n rest
  factor_shaped n _ _ _ (plain ks rest e d) h = atom_shaped n ks rest e d h
  factor_shaped n _ _ _ (power ks rest base is_one m d) h =
      let r = atom_shaped n ks (k.Caret ∷ k.Integer is_one m ∷ rest) base d h in
      (shaped_power n base (unwrap_or m (pos 0)) r.0 (exponent_within n is_one m r.1.1.0), r.1.1.1)
  factor_shaped n _ _ _ (conjugate ks more rest u v d i c) h =
      let r = atom_shaped n ks (k.Caret ∷ more) u d h in
      let s = atom_shaped n more rest v c r.1.1 in
      (shaped_conjugate n u v r.0 s.0, s.1)

  product_shaped : (n : ℕ) (ks rest : List Kind) (es : List Expr) → IsProduct ks rest es → AreGood n ks → AreFactors n es × AreGood n rest
  product_shaped n _ _ _ (last ks rest e d) h = let r = factor_shaped n ks rest e d h in ((r.0, tt), r.1)
  product_shaped n _ _ _ (times ks more rest e es d c) h =
      let r = factor_shaped n ks (k.Star ∷ more) e d h in
      let s = product_shaped n more rest es c r.1.1 in
      ((r.0, factors_shaped n es s.0), s.1)

  expr_shaped : (n : ℕ) (ks rest : List Kind) (e : Expr) → IsExpr ks rest e → AreGood n ks → IsShaped n e × AreGood n rest
  expr_shaped n _ _ _ (whole ks rest es d) h = let r = product_shaped n ks rest es d h in (shaped_factors n es r.0, r.1)

-- the query of good tokens is well shaped
pub line_shaped : (n : ℕ) (ks : List Kind) (q : Query) → IsLine ks q → AreGood n ks → IsShapedQuery n q
line_shaped n _ _ (value ks e d) h = (expr_shaped n ks [] e d h).0
line_shaped n _ _ (same ks more u v d c) h =
    let r = expr_shaped n ks (k.Equal ∷ more) u d h in
    (r.0, (expr_shaped n more [] v c r.1.1).0)
line_shaped n _ _ (solve ks more u v d c) h =
    let r = expr_shaped n ks (k.Bar ∷ more) u d h.1 in
    (r.0, (expr_shaped n more [] v c r.1.1).0)
line_shaped n _ _ (quotient ks more u v d c) h =
    let r = expr_shaped n ks (k.Bar ∷ more) u d h.1 in
    (r.0, (expr_shaped n more [] v c r.1.1).0)
