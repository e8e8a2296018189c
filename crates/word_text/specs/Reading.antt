-- What a line reads as, computed from its tokens.
--   reading names line   the query of the line, or its first fault from the left
use Rattle.std.specs.Prelude.{ℕ, List, length, Result, Ok, if◌then◌else◌}
use Rattle.nil_word.specs.declared.query.Query.{Query}
use Rattle.nil_word.specs.declared.query.Query.TheVariants as query
use Rattle.line_tokens.specs.Tokens.{is_silent}
use Rattle.word_text.specs.declared.query_fault.QueryFault.{QueryFault}
use Rattle.word_text.specs.Words.{query_tokens}
use Rattle.word_text.specs.Verdict.{verdict}

abbrev pub reading : List (List ℕ) → List ℕ → Result Query QueryFault
reading names line =
    if is_silent line then Ok query.Blank else verdict (length line) (query_tokens names line)
