-- Lines of bytes.
--   line_feed                the byte that ends a line
--   but_last lines           the lines without the last one
--   whole_lines bytes        the lines that end with a line feed: an empty last one says nothing
--   as_line text             a text and a line feed
--   as_lines texts           each of the texts as a line
--   EndsAtLine bytes         none, or the last one is a line feed
use Rattle.std.specs.Prelude.{◌≡◌, ℕ, ◌⊎◌, List, [], ◌∷◌, ◌++◌}
use Rattle.line_tokens.specs.Lines.{lines_of}

abbrev pub line_feed : ℕ
line_feed = 10

abbrev pub but_last : List (List ℕ) → List (List ℕ)
but_last [] = []
but_last (line ∷ []) = []
but_last (line ∷ next ∷ lines) = line ∷ but_last (next ∷ lines)

abbrev pub whole_lines : List ℕ → List (List ℕ)
whole_lines bytes = but_last (lines_of bytes)

abbrev pub as_line : List ℕ → List ℕ
as_line text = text ++ line_feed ∷ []

abbrev pub as_lines : List (List ℕ) → List ℕ
as_lines [] = []
as_lines (text ∷ texts) = as_line text ++ as_lines texts

abbrev pub EndsAtLine : List ℕ → Type 0
EndsAtLine bytes = (bytes ≡ []) ⊎ ((text : List ℕ) × (bytes ≡ as_line text))
