-- Replies that are kept for when their lines are asked again.
--   Memoized               a presentation with its table, and the kept pairs
--   memoized c pairs       these
--   Asks line asked        the line asks so: it isn't long, and without a carriage return at its end
--                          it is this one, which says something
--   AsksOneOf lines asked  one of the lines asks so
--   AreOf lines pairs      each pair is of one of the lines
--   IsComputed c asked t   t is the computed reply to each line that asks so
--   IsKept R lines asked t one of the lines asks so, and t is a reply to it
-- c a presentation with its table · R which texts are replies to a line · t a text
use Rattle.std.specs.Prelude.{◌≡◌, ℕ, ◌≤◌, List, length, Contains, false}
use Rattle.std.specs.Str.Lines.{strip_carriage_return}
use Rattle.line_tokens.specs.Tokens.{is_silent}
use Rattle.word_text.specs.Reading.{reading}
use Rattle.hall_table.specs.Multiplies.{Paired}
use Rattle.reply_memo.specs.Kept.{Kept, AllKept}
use Rattle.session_io.specs.Limits.{line_limit}
use Rattle.query_replies.specs.Replies.{reply_to}

pub record Memoized : Type 0 where
  pub by : Paired
  pub pairs : List Kept

abbrev pub memoized : Paired → List Kept → Memoized
memoized c pairs = record { by = c; pairs = pairs }

pub record Asks (line asked : List ℕ) : Type 0 where
  pub within : length line ≤ line_limit
  pub without_return : asked ≡ strip_carriage_return line
  pub says : is_silent asked ≡ false

abbrev pub AsksOneOf : List (List ℕ) → List ℕ → Type 0
AsksOneOf lines asked = (line : List ℕ) × Contains lines line × Asks line asked

abbrev pub AreOf : List (List ℕ) → List Kept → Type 0
AreOf lines pairs = AllKept (λ asked t. AsksOneOf lines asked) pairs

abbrev pub IsComputed : Paired → List ℕ → List ℕ → Type 0
IsComputed c asked t = t ≡ reply_to c (reading c.pres.names asked)

abbrev pub IsKept : (List ℕ → List ℕ → Type 0) → List (List ℕ) → List ℕ → List ℕ → Type 0
IsKept R lines asked t = (line : List ℕ) × Contains lines line × Asks line asked × R line t
