-- The text of a query.
--   fixed k             the text of a token that is always written alike, with the blanks around
--                       it; [] for any other
--   kind_text names k   the text of a token
--   text_of names ks    the text of tokens
--   query_text names q  the text of a query
use Rattle.std.specs.Prelude.{ℕ, ◌-◌, List, [], slice_index_or, Some, None, codes}
use Rattle.std.specs.List.{flat_map}
use Rattle.std.specs.Fmt.{signed_decimal}
use Rattle.nil_word.specs.declared.query.Query.{Query}
use Rattle.line_tokens.specs.declared.kind.Kind.{Kind}
use Rattle.line_tokens.specs.declared.kind.Kind.TheVariants as k
use Rattle.word_text.specs.Writing.{written_query}

abbrev pub fixed : Kind → List ℕ
fixed k.Star = codes "*"
fixed k.Caret = codes "^"
fixed k.Open = codes "("
fixed k.Close = codes ")"
fixed k.SquareOpen = codes "["
fixed k.SquareClose = codes "]"
fixed k.Comma = codes ","
fixed k.Equal = codes " = "
fixed k.Bar = codes " | "
fixed k.Solve = codes "solve "
fixed k.Quotient = codes "quotient "
fixed _ = []

abbrev pub kind_text : List (List ℕ) → Kind → List ℕ
kind_text names (k.Name g) = slice_index_or names (g - 1) []
kind_text names (k.Integer one (Some n)) = signed_decimal n
kind_text names (k.Integer one None) = fixed (k.Integer one None)
kind_text names k.Star = fixed k.Star
kind_text names k.Caret = fixed k.Caret
kind_text names k.Open = fixed k.Open
kind_text names k.Close = fixed k.Close
kind_text names k.SquareOpen = fixed k.SquareOpen
kind_text names k.SquareClose = fixed k.SquareClose
kind_text names k.Comma = fixed k.Comma
kind_text names k.Equal = fixed k.Equal
kind_text names k.Bar = fixed k.Bar
kind_text names k.Solve = fixed k.Solve
kind_text names k.Quotient = fixed k.Quotient
kind_text names k.Other = fixed k.Other

abbrev pub text_of : List (List ℕ) → List Kind → List ℕ
text_of names ks = flat_map (kind_text names) ks

abbrev pub query_text : List (List ℕ) → Query → List ℕ
query_text names q = text_of names (written_query q)
