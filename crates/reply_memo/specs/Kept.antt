-- Lines with the replies that are kept for them, the most recently used first.
--   Kept                    a line with its reply
--   kept line reply         the pair of these
--   lines_of pairs          the lines
--   is_of line k            the pair has this line
--   kept_for line pairs     the reply of the first pair of the line; None where no pair has it
--   of_line line pairs      the pairs of the line, in their order
--   without line pairs      the pairs of other lines, in their order
--   in_front line pairs     the pairs of the line, then the others
--   first_of n pairs        the first n pairs; all of them where there are fewer
--   AreApart pairs          different pairs have different lines
--   AllKept R pairs         the line and the reply of each pair are related by R
-- k a pair · n a number · R a relation between lines and replies
use Rattle.std.specs.Prelude.{ℕ, Bool, not, List, [], ◌∷◌, ◌++◌, map, filter, take, All, bytes_eq, Option, Some, None, if◌then◌else◌}
use Rattle.std.specs.List.{IsDistinct}

pub record Kept : Type 0 where
  pub line : List ℕ
  pub reply : List ℕ

abbrev pub kept : List ℕ → List ℕ → Kept
kept line reply = record { line = line; reply = reply }

abbrev pub lines_of : List Kept → List (List ℕ)
lines_of pairs = map (λ k. k.line) pairs

abbrev pub is_of : List ℕ → Kept → Bool
is_of line k = bytes_eq line k.line

abbrev pub kept_for : List ℕ → List Kept → Option (List ℕ)
kept_for line [] = None
kept_for line (k ∷ pairs) = if is_of line k then Some k.reply else kept_for line pairs

abbrev pub of_line : List ℕ → List Kept → List Kept
of_line line pairs = filter (is_of line) pairs

abbrev pub without : List ℕ → List Kept → List Kept
without line pairs = filter (λ k. not (is_of line k)) pairs

abbrev pub in_front : List ℕ → List Kept → List Kept
in_front line pairs = of_line line pairs ++ without line pairs

abbrev pub first_of : ℕ → List Kept → List Kept
first_of n pairs = take n pairs

abbrev pub AreApart : List Kept → Type 0
AreApart pairs = IsDistinct bytes_eq (lines_of pairs)

abbrev pub AllKept : (List ℕ → List ℕ → Type 0) → List Kept → Type 0
AllKept R pairs = All (λ k. R k.line k.reply) pairs
