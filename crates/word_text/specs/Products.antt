-- The expression of a list of factors.
--   product_of es   the product, and the factor itself where it is alone
use Rattle.std.specs.Prelude.{List, [], ◌∷◌}
use Rattle.nil_word.specs.declared.expr.Expr.{Expr}
use Rattle.nil_word.specs.declared.expr.Expr.TheVariants.{Product}

abbrev pub product_of : List Expr → Expr
product_of (e ∷ []) = e
product_of es = Product es
