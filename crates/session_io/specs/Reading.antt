-- What was read of a source, before its end is answered.
--   IsRead reply recalls limit f held old new e   the reading ended so; the lines that end with a
--                                                 line feed among the bytes that count are answered
--                                                 and alone recalled, and the piece behind them is
--                                                 held
-- recalls lines   all that is recalled is of these lines · f what is fed · e end
use Rattle.std.specs.Prelude.{ℕ, List, Option}
use Rattle.session_io.specs.declared.end.End.{End}
use Rattle.session_io.specs.Asked.{Fed}
use Rattle.session_io.specs.Lines.{whole_lines}
use Rattle.session_io.specs.Taking.{IsTaken, IsEnd}
use Rattle.session_io.specs.Answers.{kept}
use Rattle.session_io.specs.Holding.{AreAnswered}

pub record IsRead (reply : List ℕ → List ℕ) (recalls : List (List ℕ) → Type 0) (limit : ℕ) (f : Fed)
    (held_bytes : List ℕ) (old new : Option (List ℕ)) (e : End) : Type 0 where
  pub taken : List ℕ
  pub more : List ℕ
  pub took : IsTaken limit f taken more
  pub ended : IsEnd limit f taken more e
  pub answered : AreAnswered reply (kept limit e taken) held_bytes old new
  pub of_lines : recalls (whole_lines (kept limit e taken))
