-- What is answered to the bytes of a source.
--   replies_by reply lines     the replies of a function to lines, in their order
--   by_reply reply line text   the text is the function's
--   AreReplies R lines out     the replies to the lines, in their order
--   end_text e                 the lines that an end adds
--   kept limit e bytes         the bytes whose lines are answered: the first ones up to the limit
--                              where there are more
--   ended_lines e bytes        the lines of these that are answered: the last one, which has no
--                              line feed, only where all was read
--   answer_by reply e bytes    the replies to these, and the text of the end
--   last_piece reply rest e    what is written last of it: the reply to the piece behind the last
--                              line feed, or the text of the end
--   IsAnswer R limit bytes e out              the whole output that bytes determine, where their
--                                             reading ends so
--   IsDetermined limit f taken more e bytes   these of the bytes taken and left are read, with
--                                             this end, if nothing else stops the reading
--   IsPromised R limit f taken more out       the whole output that they determine
--   IsOutput R limit f taken more r old new   what was written: a whole output with the cause of
--                                             its end, or a front of the promised one
--   IsAnswered R limit f r old new            bytes of the source were taken and answered so
-- R which texts are replies to a line · f what is fed · e end · r end or stop
use Rattle.std.specs.Prelude.{◌≡◌, ℕ, ◌<◌, ◌≤◌, List, [], ◌∷◌, ◌++◌, length, take, codes, Option, Result, Ok, Err}
use Rattle.std.specs.Io.KnownBytes.{Appends}
use Rattle.nil_io.specs.Causes.{Rose}
use Rattle.session_io.specs.declared.end.End.{End}
use Rattle.session_io.specs.declared.end.End.TheVariants as end
use Rattle.session_io.specs.declared.stop.Stop.{Stop}
use Rattle.session_io.specs.declared.stop.Stop.TheVariants as stop
use Rattle.session_io.specs.Asked.{Fed}
use Rattle.line_tokens.specs.Lines.{lines_of}
use Rattle.session_io.specs.Lines.{whole_lines, as_lines}
use Rattle.session_io.specs.Taking.{IsTaken, IsEnd}
use Rattle.session_io.specs.Stops.{IsFront, IsCut}

abbrev pub replies_by : (List ℕ → List ℕ) → List (List ℕ) → List ℕ
replies_by reply [] = []
replies_by reply (line ∷ lines) = reply line ++ replies_by reply lines

abbrev pub by_reply : (List ℕ → List ℕ) → List ℕ → List ℕ → Type 0
by_reply reply line text = text ≡ reply line

abbrev pub AreReplies : (List ℕ → List ℕ → Type 0) → List (List ℕ) → List ℕ → Type 0
AreReplies R [] out = out ≡ []
AreReplies R (line ∷ lines) out =
    (text rest : List ℕ) × R line text × AreReplies R lines rest × (out ≡ text ++ rest)

abbrev pub end_text : End → List (List ℕ)
end_text end.Finished = []
end_text end.Failed = codes "read fault" ∷ []
end_text end.Long = codes "long input" ∷ []

abbrev pub kept : ℕ → End → List ℕ → List ℕ
kept limit end.Finished bytes = bytes
kept limit end.Failed bytes = bytes
kept limit end.Long bytes = take limit bytes

abbrev pub ended_lines : End → List ℕ → List (List ℕ)
ended_lines end.Finished bytes = lines_of bytes
ended_lines end.Failed bytes = whole_lines bytes
ended_lines end.Long bytes = whole_lines bytes

abbrev pub answer_by : (List ℕ → List ℕ) → End → List ℕ → List ℕ
answer_by reply e bytes = replies_by reply (ended_lines e bytes) ++ as_lines (end_text e)

abbrev pub last_piece : (List ℕ → List ℕ) → List ℕ → End → List ℕ
last_piece reply rest end.Finished = reply rest
last_piece reply rest end.Failed = as_lines (end_text end.Failed)
last_piece reply rest end.Long = as_lines (end_text end.Long)

pub record IsAnswer (R : List ℕ → List ℕ → Type 0) (limit : ℕ) (bytes : List ℕ) (e : End)
    (out : List ℕ) : Type 0 where
  pub replies : List ℕ
  pub are : AreReplies R (ended_lines e (kept limit e bytes)) replies
  pub whole : out ≡ replies ++ as_lines (end_text e)

pub data IsDetermined (limit : ℕ) (f : Fed) (taken more : List ℕ) : End → List ℕ → Type 0 where
  within : length (taken ++ more) ≤ limit
      → IsDetermined limit f taken more end.Finished (taken ++ more)
  above : limit < length (taken ++ more)
      → IsDetermined limit f taken more end.Long (taken ++ more)
  failed : Rose f.faults f.faults' → length taken ≤ limit
      → IsDetermined limit f taken more end.Failed taken

pub record IsPromised (R : List ℕ → List ℕ → Type 0) (limit : ℕ) (f : Fed) (taken more : List ℕ)
    (out : List ℕ) : Type 0 where
  pub e : End
  pub bytes : List ℕ
  pub determined : IsDetermined limit f taken more e bytes
  pub answer : IsAnswer R limit bytes e out

abbrev pub IsOutput : (List ℕ → List ℕ → Type 0) → ℕ → Fed → List ℕ → List ℕ → Result End Stop
    → Option (List ℕ) → Option (List ℕ) → Type 0
IsOutput R limit f taken more (Ok e) old new =
    (out : List ℕ) × IsEnd limit f taken more e × IsAnswer R limit taken e out × Appends old new out
IsOutput R limit f taken more (Err stop.Failed) old new =
    (front : List ℕ) × IsFront (IsPromised R limit f taken more) front × Appends old new front
IsOutput R limit f taken more (Err stop.Memory) old new =
    (front : List ℕ) × IsCut (IsPromised R limit f taken more) front × Appends old new front

pub record IsAnswered (R : List ℕ → List ℕ → Type 0) (limit : ℕ) (f : Fed) (r : Result End Stop)
    (old new : Option (List ℕ)) : Type 0 where
  pub taken : List ℕ
  pub more : List ℕ
  pub took : IsTaken limit f taken more
  pub wrote : IsOutput R limit f taken more r old new
