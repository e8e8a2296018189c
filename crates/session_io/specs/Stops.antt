-- Where writing stops.
--   IsStopped text old new s   a front of the text was written; where memory is wanting it ends at
--                              a line's end
--   IsFront P front            a front of a text with P
--   IsCut P front              one that is empty or ends at a line's end
-- s stop · P which texts are meant
use Rattle.std.specs.Prelude.{◌≡◌, ℕ, List, ◌++◌, Option}
use Rattle.std.specs.Io.KnownBytes.{Appends}
use Rattle.session_io.specs.declared.stop.Stop.{Stop}
use Rattle.session_io.specs.declared.stop.Stop.TheVariants as stop
use Rattle.session_io.specs.Lines.{EndsAtLine}

pub data IsStopped (text : List ℕ) (old new : Option (List ℕ)) : Stop → Type 0 where
  failed : (front rest : List ℕ) → text ≡ front ++ rest → Appends old new front
      → IsStopped text old new stop.Failed
  short : (front rest : List ℕ) → text ≡ front ++ rest → Appends old new front → EndsAtLine front
      → IsStopped text old new stop.Memory

pub record IsFront (P : List ℕ → Type 0) (front : List ℕ) : Type 0 where
  pub whole : List ℕ
  pub rest : List ℕ
  pub promised : P whole
  pub split : whole ≡ front ++ rest

pub record IsCut (P : List ℕ → Type 0) (front : List ℕ) : Type 0 where
  pub is_front : IsFront P front
  pub at_line : EndsAtLine front
