-- From behind an item to the end of its product.
--   IsRest raised item ks rest es   tokens that go on behind an item, and the factors from it on
use Rattle.std.proofs.Common.{◌≡◌, ℤ, pos, Bool, true, false, List, [], ◌∷◌, Option, unwrap_or}
use Rattle.nil_word.specs.declared.expr.Expr.{Expr}
use Rattle.nil_word.specs.declared.expr.Expr.TheVariants.{Pow, Conj}
use Rattle.line_tokens.specs.declared.kind.Kind.{Kind}
use Rattle.line_tokens.specs.declared.kind.Kind.TheVariants as k
use Rattle.word_text.specs.Grammar.{is_integer_next, IsAtom, IsFactor, IsProduct, plain, power, conjugate, last, times}

-- from behind an item (whole or not) to the end of its product, with the product's factors from the item on
pub data IsRest : Bool → Expr → List Kind → List Kind → List Expr → Type 0 where
  nothing : (raised : Bool) (item : Expr) (ks : List Kind) → IsRest raised item ks ks (item ∷ [])
  star : (raised : Bool) (item : Expr) (ks rest : List Kind) (es : List Expr) → IsProduct ks rest es → IsRest raised item (k.Star ∷ ks) rest (item ∷ es)
  raise : (item : Expr) (ks rest : List Kind) (is_one : Bool) (n : Option ℤ) (es : List Expr) → IsRest true (Pow item (unwrap_or n (pos 0))) ks rest es
      → IsRest false item (k.Caret ∷ k.Integer is_one n ∷ ks) rest es
  twist : (item v : Expr) (ks more rest : List Kind) (es : List Expr) → is_integer_next ks ≡ false → IsAtom ks more v → IsRest true (Conj item v) more rest es
      → IsRest false item (k.Caret ∷ ks) rest es

factor_rest : (ks more : List Kind) (f : Expr) → IsFactor ks more f → (rest : List Kind) (es : List Expr) → IsRest true f more rest es → IsProduct ks rest es
factor_rest ks _ f d _ _ (nothing _ _ more) = last ks more f d
factor_rest ks _ f d _ _ (star _ _ more rest es p) = times ks more rest f es d p

pub atom_rest : (ks more : List Kind) (a : Expr) → IsAtom ks more a → (rest : List Kind) (es : List Expr) → IsRest false a more rest es → IsProduct ks rest es
atom_rest ks _ a d _ _ (nothing _ _ more) = last ks more a (plain ks more a d)
atom_rest ks _ a d _ _ (star _ _ more rest es p) = times ks more rest a es (plain ks _ a d) p
atom_rest ks _ a d _ _ (raise _ more rest is_one n es r) = factor_rest ks more _ (power ks more a is_one n d) rest es r
atom_rest ks _ a d _ _ (twist _ v ks' more rest es n c r) = factor_rest ks more _ (conjugate ks ks' more a v d n c) rest es r
