-- What a word means in a query line.
--   query_word names w        a keyword, a reserved word (no token), or a name: the generator's
--                             number or 0
--   query_tokens names line   the tokens of a query line
use Rattle.std.specs.Prelude.{ℕ, ◌||◌, cond, List, codes}
use Rattle.std.specs.Str.{bytes_eq}
use Rattle.line_tokens.specs.declared.kind.Kind.{Kind}
use Rattle.line_tokens.specs.declared.kind.Kind.TheVariants as k
use Rattle.line_tokens.specs.declared.token.Token.{Token}
use Rattle.line_tokens.specs.Tokens.{generator_of, tokens}

abbrev pub query_word : List (List ℕ) → List ℕ → Kind
query_word names w =
    cond (bytes_eq w (codes "solve")) k.Solve
    (cond (bytes_eq w (codes "quotient")) k.Quotient
    (cond (bytes_eq w (codes "root") || bytes_eq w (codes "image")) k.Other
    (k.Name (generator_of names w))))

abbrev pub query_tokens : List (List ℕ) → List ℕ → List Token
query_tokens names line = tokens (query_word names) line
