-- The lines of a presentation file that say something, and their words.
--   without_empty_end ls   the lines but the last one, where that is empty
--   lines file             the pieces between line feeds; an empty last one is no line
--   Line                   a line with its number, from 1, without a carriage return at its end
--   content_from n ls      the lines that say something among those from the number n on
--   content file           the lines that say something: the others are blank or begin with a #
--   words text             the longest runs of bytes that aren't blanks
--   is_text_byte b         b is a tab or 32 to 126
--   is_text text           each byte is one of these
use Rattle.std.specs.Prelude.{ℕ, ◌+◌, ◌==◌, ◌&&◌, ◌||◌, nat_le, Bool, List, [], ◌∷◌, length, filter, if◌then◌else◌}
use Rattle.std.specs.List.{list_all, slice_split}
use Rattle.std.specs.Str.Lines.{strip_carriage_return}
use Rattle.line_tokens.specs.Tokens.{is_blank, is_silent}
use Rattle.line_tokens.specs.Lines.{lines_of}

abbrev pub without_empty_end : List (List ℕ) → List (List ℕ)
without_empty_end [] = []
without_empty_end (piece ∷ []) = if length piece == 0 then [] else piece ∷ []
without_empty_end (piece ∷ next ∷ more) = piece ∷ without_empty_end (next ∷ more)

abbrev pub lines : List ℕ → List (List ℕ)
lines file = without_empty_end (lines_of file)

pub record Line : Type 0 where
  pub number : ℕ
  pub text : List ℕ

abbrev pub content_from : ℕ → List (List ℕ) → List Line
content_from n [] = []
content_from n (l ∷ ls) =
    if is_silent (strip_carriage_return l) then content_from (n + 1) ls
    else record { number = n; text = strip_carriage_return l } ∷ content_from (n + 1) ls

abbrev pub content : List ℕ → List Line
content file = content_from 1 (lines file)

abbrev pub words : List ℕ → List (List ℕ)
words text = filter (λ w. nat_le 1 (length w)) (slice_split is_blank text)

abbrev pub is_text_byte : ℕ → Bool
is_text_byte b = (b == 9) || (nat_le 32 b && nat_le b 126)

abbrev pub is_text : List ℕ → Bool
is_text text = list_all is_text_byte text
