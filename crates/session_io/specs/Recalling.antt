-- What is recalled of the lines of a source.
--   RecallsNothing lines        nothing is recalled, whatever the lines are
--   last_line rest e            the line that an end adds to those that end with a line feed: the
--                               piece behind the last one, only where all was read
--   IsRecalled recalls limit f  all that is recalled is of the lines of bytes that were taken
-- recalls lines   all that is recalled is of these lines · e end · f what is fed
use Rattle.std.specs.Prelude.{ℕ, List, [], ◌∷◌}
use Rattle.line_tokens.specs.Lines.{lines_of}
use Rattle.session_io.specs.declared.end.End.{End}
use Rattle.session_io.specs.declared.end.End.TheVariants as end
use Rattle.session_io.specs.Asked.{Fed}
use Rattle.session_io.specs.Taking.{IsTaken}

abbrev pub RecallsNothing : List (List ℕ) → Type 0
RecallsNothing lines = Unit {0}

abbrev pub last_line : List ℕ → End → List (List ℕ)
last_line rest end.Finished = rest ∷ []
last_line rest end.Failed = []
last_line rest end.Long = []

pub record IsRecalled (recalls : List (List ℕ) → Type 0) (limit : ℕ) (f : Fed) : Type 0 where
  pub taken : List ℕ
  pub more : List ℕ
  pub took : IsTaken limit f taken more
  pub of_lines : recalls (lines_of taken)
