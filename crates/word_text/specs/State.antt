-- The reader's state.
--   State      what the line is so far, the open brackets, the innermost first, and what may stand
--              next
--   at h fs n  the state of these three
--   moved h fs n   the state that stands at n, if the line goes on
--   empty      the level behind an opening bracket
-- h head of the line · fs open brackets · n where the reader stands
use Rattle.std.specs.Prelude.{List, [], Option, Some, None}
use Rattle.word_text.specs.declared.level.Level.{Level}
use Rattle.word_text.specs.declared.frame.Frame.{Frame}
use Rattle.word_text.specs.declared.head.Head.{Head}
use Rattle.word_text.specs.declared.now.Now.{Now}

pub record State : Type 0 where
  pub head : Head
  pub frames : List Frame
  pub now : Now

abbrev pub at : Head → List Frame → Now → State
at h fs n = record { head = h; frames = fs; now = n }

abbrev pub moved : Head → List Frame → Option Now → Option State
moved h fs None = None
moved h fs (Some n) = Some (at h fs n)

abbrev pub empty : Level
empty = record { done = []; base = None }
