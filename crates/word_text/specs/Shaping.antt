-- Which queries can be written.
--   IsShapedQuery n q   both expressions of the query are well shaped over n generators
--   most_open_from d ks, most_open ks   how many brackets are open at once, at most, behind d open
--                       ones, and on a whole line
use Rattle.std.specs.Prelude.{ℕ, max, List, [], ◌∷◌}
pub use Rattle.nil_word.specs.Queries.{IsShapedQuery}
use Rattle.line_tokens.specs.declared.kind.Kind.{Kind}
use Rattle.word_text.specs.Faults.{deeper}

abbrev pub most_open_from : ℕ → List Kind → ℕ
most_open_from d [] = d
most_open_from d (k ∷ ks) = max d (most_open_from (deeper d k) ks)

abbrev pub most_open : List Kind → ℕ
most_open ks = most_open_from 0 ks
