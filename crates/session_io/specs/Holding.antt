-- The line that has no line feed yet, and how much of it is held.
--   held line                    the bytes of a line that are held: up to one above the limit, so
--                                that a long line is seen to be one
--   IsHeld line bytes            these bytes are held of a line that has no line feed yet
--   AreAnswered reply bytes ..   the lines of the bytes that end with a line feed are answered, and
--                                the piece behind them is held
use Rattle.std.specs.Prelude.{◌≡◌, ℕ, ◌+◌, List, [], ◌∷◌, ◌++◌, take, Option}
use Rattle.std.specs.Io.KnownBytes.{Appends}
use Rattle.line_tokens.specs.Lines.{lines_of}
use Rattle.session_io.specs.Limits.{line_limit}
use Rattle.session_io.specs.Lines.{whole_lines, EndsAtLine}
use Rattle.session_io.specs.Answers.{replies_by}

abbrev pub held : List ℕ → List ℕ
held line = take (line_limit + 1) line

pub record IsHeld (line bytes : List ℕ) : Type 0 where
  pub front : bytes ≡ held line
  pub unended : lines_of line ≡ line ∷ []

pub record AreAnswered (reply : List ℕ → List ℕ) (bytes held_bytes : List ℕ)
    (old new : Option (List ℕ)) : Type 0 where
  pub line : List ℕ
  pub last : lines_of bytes ≡ whole_lines bytes ++ line ∷ []
  pub is_held : IsHeld line held_bytes
  pub written : Appends old new (replies_by reply (whole_lines bytes))
  pub at_line : EndsAtLine (replies_by reply (whole_lines bytes))
