-- Replies that are also replies in another sense.
use Rattle.std.proofs.Common.{ℕ, List, [], ◌∷◌, Option, Result, Ok, Err}
use Rattle.session_io.specs.declared.end.End.{End}
use Rattle.session_io.specs.declared.stop.Stop.{Stop}
use Rattle.session_io.specs.declared.stop.Stop.TheVariants as stop
use Rattle.session_io.specs.Asked.{Fed}
use Rattle.session_io.specs.Answers.{AreReplies, kept, ended_lines, IsAnswer, IsPromised, IsOutput, IsAnswered}
use Rattle.session_io.specs.Stops.{IsFront}

module _ (R S : List ℕ → List ℕ → Type 0)
    (weaker : (line text : List ℕ) → R line text → S line text) where
  AreReplies-weaker : (lines : List (List ℕ)) (out : List ℕ) → AreReplies R lines out
      → AreReplies S lines out
  AreReplies-weaker [] out h = h
  AreReplies-weaker (line ∷ lines) out h =
      (h.0, h.1, weaker line h.0 h.2, AreReplies-weaker lines h.1 h.3, h.4)

  IsAnswer-weaker : (limit : ℕ) (bytes : List ℕ) (e : End) (out : List ℕ)
      → IsAnswer R limit bytes e out → IsAnswer S limit bytes e out
  IsAnswer-weaker limit bytes e out h = record {
    replies = h.replies;
    are = AreReplies-weaker (ended_lines e (kept limit e bytes)) h.replies h.are;
    whole = h.whole;
  }

  module _ (limit : ℕ) (f : Fed) (taken more : List ℕ) where
    IsFront-weaker : (front : List ℕ) → IsFront (IsPromised R limit f taken more) front
        → IsFront (IsPromised S limit f taken more) front
    IsFront-weaker front h = record {
      whole = h.whole;
      rest = h.rest;
      promised = record {
        e = h.promised.e;
        bytes = h.promised.bytes;
        determined = h.promised.determined;
        answer =
            IsAnswer-weaker limit h.promised.bytes h.promised.e h.whole h.promised.answer;
      };
      split = h.split;
    }

    IsOutput-weaker : (r : Result End Stop) (old new : Option (List ℕ))
        → IsOutput R limit f taken more r old new → IsOutput S limit f taken more r old new
    IsOutput-weaker (Ok e) old new h = (h.0, h.1, IsAnswer-weaker limit taken e h.0 h.2, h.3)
    IsOutput-weaker (Err stop.Failed) old new h = (h.0, IsFront-weaker h.0 h.1, h.2)
    IsOutput-weaker (Err stop.Memory) old new h =
        (h.0, record { is_front = IsFront-weaker h.0 h.1.is_front; at_line = h.1.at_line }, h.2)

  pub IsAnswered-weaker : (limit : ℕ) (f : Fed) (r : Result End Stop) (old new : Option (List ℕ))
      → IsAnswered R limit f r old new → IsAnswered S limit f r old new
  IsAnswered-weaker limit f r old new h = record {
    taken = h.taken;
    more = h.more;
    took = h.took;
    wrote = IsOutput-weaker limit f h.taken h.more r old new h.wrote;
  }
