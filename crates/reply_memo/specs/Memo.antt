-- What is kept of the replies to lines.
--   after_keeping line reply pairs   the pair of line and reply, then the pairs of other lines; of
--                                    them all the first 256
--   IsMemo pairs                     there are at most 256 pairs, of different lines
use Rattle.std.specs.Prelude.{ℕ, ◌≤◌, List, ◌∷◌, length}
use Rattle.reply_memo.specs.Room.{room}
use Rattle.reply_memo.specs.Kept.{Kept, kept, without, first_of, AreApart}

abbrev pub after_keeping : List ℕ → List ℕ → List Kept → List Kept
after_keeping line reply pairs = first_of room (kept line reply ∷ without line pairs)

pub record IsMemo (pairs : List Kept) : Type 0 where
  pub few : length pairs ≤ room
  pub apart : AreApart pairs
