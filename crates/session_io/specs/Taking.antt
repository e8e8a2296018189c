-- What is taken of a source, up to a limit of bytes.
--   piece                        the greatest number of bytes that are read at once
--   IsTaken limit f taken more   these bytes were taken and those are left, where that is known; so
--                                many were given, and at most a piece above the limit
--   IsEnd limit f taken more e   so the taking ended, with its cause
-- f what is fed · e end
use Rattle.std.specs.Prelude.{◌≡◌, ℕ, ◌+◌, ◌<◌, ◌≤◌, List, [], length, IfSome}
use Rattle.std.specs.Io.KnownBytes.{Consumes, IsAtEnd}
use Rattle.nil_io.specs.Causes.{Rose, RoseBy, RoseAbove}
use Rattle.session_io.specs.declared.end.End.{End}
use Rattle.session_io.specs.declared.end.End.TheVariants as end
use Rattle.session_io.specs.Asked.{Fed}

abbrev pub piece : ℕ
piece = 4096

pub record IsTaken (limit : ℕ) (f : Fed) (taken more : List ℕ) : Type 0 where
  pub took : Consumes f.left f.left' taken
  pub left : IfSome f.left' (λ left. more ≡ left)
  -- of unknown sources too
  pub given : RoseBy (length taken) f.given f.given'
  pub bound : length taken ≤ limit + piece

pub data IsEnd (limit : ℕ) (f : Fed) (taken more : List ℕ) : End → Type 0 where
  finished : IsAtEnd f.left' → more ≡ [] → length taken ≤ limit
      → IsEnd limit f taken more end.Finished
  failed : Rose f.faults f.faults' → length taken ≤ limit → IsEnd limit f taken more end.Failed
  long : RoseAbove limit f.given f.given' → limit < length taken
      → IsEnd limit f taken more end.Long
