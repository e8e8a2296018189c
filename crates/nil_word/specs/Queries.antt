-- The shape of a query.
--   IsShapedQuery n q   both expressions of the query are well shaped over n generators
use Rattle.std.specs.Prelude.{ℕ}
use Rattle.nil_word.specs.declared.query.Query.{Query}
use Rattle.nil_word.specs.declared.query.Query.TheVariants as query
use Rattle.nil_word.specs.Expressions.{IsShaped}

abbrev pub IsShapedQuery : ℕ → Query → Type 0
IsShapedQuery n (query.Value e) = IsShaped n e
IsShapedQuery n (query.Same u v) = IsShaped n u × IsShaped n v
IsShapedQuery n (query.Solve u v) = IsShaped n u × IsShaped n v
IsShapedQuery n (query.Quotient u v) = IsShaped n u × IsShaped n v
IsShapedQuery n query.Blank = Unit {0}
