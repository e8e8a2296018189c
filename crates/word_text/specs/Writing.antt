-- The tokens of a query that is written, with brackets only where the grammar needs them.
--   Written              what an expression is, as far as brackets around it go, and its tokens
--   enclosed b ks        in round brackets where b is true; bracketed ks where it is
--   breaks_item s, as_item s ks    a product inside a product stands in brackets
--   breaks_base s, as_base s ks    before a `^` so does a power and a conjugate
--   breaks_conjugator s, as_conjugator s ks   behind a `^` so does `1` too, which would be an
--                        exponent
--   joined_by_star kss   tokens with a `*` between them
--   star_before i        what stands before the factor at a place, from 0
--   item_tokens w        the tokens of a factor
--   exponent_token e     the token of an exponent
--   written_level, written e       one level of an expression, and the expression
--   written_query q      the tokens of a query
-- e expression · s its shape · w what is written of it · ks tokens
use Rattle.std.specs.Prelude.{ℕ, zero, suc, ℤ, pos, Bool, true, false, List, [], ◌∷◌, ◌++◌, map, Some}
use Rattle.std.specs.Ordering.{int_eq}
use Rattle.nil_word.specs.declared.expr.Expr.{Expr, fold-Expr}
use Rattle.nil_word.specs.declared.expr.Expr.TheOpen.{Expr-F, One, Gen, Product, Pow, Conj, Comm}
use Rattle.nil_word.specs.declared.query.Query.{Query}
use Rattle.nil_word.specs.declared.query.Query.TheVariants as query
use Rattle.line_tokens.specs.declared.kind.Kind.{Kind}
use Rattle.line_tokens.specs.declared.kind.Kind.TheVariants as k
use Rattle.word_text.specs.declared.shape.Shape.{Shape}
use Rattle.word_text.specs.declared.shape.Shape.TheVariants as shape

pub record Written : Type 0 where
  pub shape : Shape
  pub tokens : List Kind

abbrev pub enclosed : Bool → List Kind → List Kind
enclosed true ks = k.Open ∷ ks ++ k.Close ∷ []
enclosed false ks = ks

abbrev pub breaks_item : Shape → Bool
breaks_item shape.Many = true
breaks_item _ = false

abbrev pub breaks_base : Shape → Bool
breaks_base shape.Many = true
breaks_base shape.Raised = true
breaks_base _ = false

abbrev pub breaks_conjugator : Shape → Bool
breaks_conjugator shape.Atom = false
breaks_conjugator _ = true

abbrev pub bracketed : List Kind → List Kind
bracketed ks = enclosed true ks

abbrev pub as_item : Shape → List Kind → List Kind
as_item s ks = enclosed (breaks_item s) ks

abbrev pub as_base : Shape → List Kind → List Kind
as_base s ks = enclosed (breaks_base s) ks

abbrev pub as_conjugator : Shape → List Kind → List Kind
as_conjugator s ks = enclosed (breaks_conjugator s) ks

abbrev pub joined_by_star : List (List Kind) → List Kind
joined_by_star [] = []
joined_by_star (ks ∷ []) = ks
joined_by_star (ks ∷ rest) = ks ++ k.Star ∷ joined_by_star rest

abbrev pub star_before : ℕ → List Kind
star_before zero = []
star_before (suc i) = k.Star ∷ []

abbrev pub item_tokens : Written → List Kind
item_tokens w = as_item w.shape w.tokens

abbrev pub exponent_token : ℤ → Kind
exponent_token e = k.Integer (int_eq e (pos 1)) (Some e)

abbrev pub written_level : Expr-F Written → Written
written_level One = record { shape = shape.One; tokens = k.Integer true (Some (pos 1)) ∷ [] }
written_level (Gen g) = record { shape = shape.Atom; tokens = k.Name g ∷ [] }
written_level (Product ws) = record {
  shape = shape.Many;
  tokens = joined_by_star (map item_tokens ws);
}
written_level (Pow w e) = record {
  shape = shape.Raised;
  tokens = as_base w.shape w.tokens ++ k.Caret ∷ exponent_token e ∷ [];
}
written_level (Conj u v) = record {
  shape = shape.Raised;
  tokens = as_base u.shape u.tokens ++ k.Caret ∷ as_conjugator v.shape v.tokens;
}
written_level (Comm u v) = record {
  shape = shape.Atom;
  tokens = k.SquareOpen ∷ (u.tokens ++ k.Comma ∷ (v.tokens ++ k.SquareClose ∷ []));
}

abbrev pub written : Expr → Written
written e = fold-Expr Written written_level e

abbrev pub written_query : Query → List Kind
written_query (query.Value e) = (written e).tokens
written_query (query.Same u v) = (written u).tokens ++ k.Equal ∷ (written v).tokens
written_query (query.Solve u v) =
    k.Solve ∷ ((written u).tokens ++ k.Bar ∷ (written v).tokens)
written_query (query.Quotient u v) =
    k.Quotient ∷ ((written u).tokens ++ k.Bar ∷ (written v).tokens)
written_query query.Blank = []
