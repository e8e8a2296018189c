-- A line and what it says.
--   ReadsAs names line q     the line is blank, or in the grammar with this query, and no token has
--                            a fault
--   FailsWith names line f   the first fault of the line from the left
use Rattle.std.specs.Prelude.{◌≡◌, ℕ, true, false, List, length}
use Rattle.nil_word.specs.declared.query.Query.{Query}
use Rattle.nil_word.specs.declared.query.Query.TheVariants as query
use Rattle.line_tokens.specs.Tokens.{is_silent}
use Rattle.word_text.specs.declared.query_fault.QueryFault.{QueryFault}
use Rattle.word_text.specs.Words.{query_tokens}
use Rattle.word_text.specs.Faults.{IsRead, IsFirstFault}

pub data ReadsAs (names : List (List ℕ)) (line : List ℕ) : Query → Type 0 where
  blank : is_silent line ≡ true → ReadsAs names line query.Blank
  says : (q : Query) → is_silent line ≡ false → IsRead (query_tokens names line) q
      → ReadsAs names line q

pub record FailsWith (names : List (List ℕ)) (line : List ℕ) (f : QueryFault) : Type 0 where
  pub says : is_silent line ≡ false
  pub first : IsFirstFault (query_tokens names line) (length line) f
