-- As far as the lines of a piece are answered.
--   IsWithin reply P bytes rest held ..   the lines before the rest were answered and meet P, but for
--                                         the bytes that are held of the line that goes on with the
--                                         rest
use Rattle.std.proofs.Common.{◌≡◌, ℕ, List, [], ◌∷◌, ◌++◌, Option, inl, refl, sym, ◌∙◌, ap, subst, append_assoc}
use Rattle.std.specs.Io.KnownBytes.{Appends}
use Rattle.session_io.specs.declared.stop.Stop.{Stop}
use Rattle.line_tokens.specs.Lines.{lines_of}
use Rattle.session_io.specs.Lines.{whole_lines, EndsAtLine}
use Rattle.session_io.specs.Answers.{replies_by}
use Rattle.session_io.specs.Holding.{held, IsHeld, AreAnswered}
use Rattle.session_io.specs.Stops.{IsStopped}
use Rattle.session_io.proofs.Answered.{HasAnswered, HasAnswered-none, HasAnswered-more, HasAnswered-stop, HasAnswered-all, HasAnswered-at_line, HasAnswered-meet, HasAnswered-rest, HasAnswered-wider, replies_by-append}
use Rattle.session_io.proofs.Appending.{Appends-none, Appends-both}
use Rattle.session_io.proofs.Holding.{held-add, reply-add}
use Rattle.session_io.proofs.Lines.{whole_lines-append}
use Rattle.session_io.proofs.Stopping.{EndsAtLine-append, IsStopped-behind}
use Rattle.session_io.proofs.Unended.{lines_of-append, lines_of-behind}

pub record IsWithin (reply : List ℕ → List ℕ) (P : List (List ℕ) → Type 0)
    (bytes rest held_bytes : List ℕ) (old new : Option (List ℕ)) : Type 0 where
  pub line : List ℕ
  pub is_held : IsHeld line held_bytes
  pub answered : HasAnswered reply P bytes (line ++ rest) old new

pub IsWithin-first : (reply : List ℕ → List ℕ) (P : List (List ℕ) → Type 0)
    (begun piece h : List ℕ) (o : Option (List ℕ)) → P [] → IsHeld begun h
    → IsWithin reply P (begun ++ piece) piece h o o
IsWithin-first reply P begun piece h o none k = record {
  line = begun;
  is_held = k;
  answered = HasAnswered-none reply P (begun ++ piece) o none;
}

module _ (reply : List ℕ → List ℕ) (settled : (line : List ℕ) → reply (held line) ≡ reply line)
    (P : List (List ℕ) → Type 0) (bytes rest h : List ℕ) (o q : Option (List ℕ))
    (w : IsWithin reply P bytes rest h o q)
    (front added : List ℕ) (e : added ≡ held (h ++ front)) where
  module _ (next : List ℕ) (cut : lines_of rest ≡ front ∷ lines_of next) (r : Option (List ℕ)) where
    -- what holds of the lines before a line that is held so holds of it too
    abbrev Adds : (List (List ℕ) → Type 0) → Type 0
    Adds Q =
        (lines : List (List ℕ)) (whole : List ℕ) → added ≡ held whole → P lines
        → Q (lines ++ whole ∷ [])

    add-one : (Q : List (List ℕ) → Type 0) → Adds Q → (lines : List (List ℕ)) → P lines
        → Q (lines ++ (w.line ++ front) ∷ [])
    add-one Q one lines = one lines (w.line ++ front) (held-add w.line h front added w.is_held e)

    pub IsWithin-more : (Q : List (List ℕ) → Type 0) → Adds Q
        → Appends q r (reply added) → EndsAtLine (reply added)
        → IsWithin reply Q bytes next [] o r
    IsWithin-more Q one a m =
        let same = reply-add w.line h front added w.is_held e reply settled in
        record {
          line = [];
          is_held = record { front = refl; unended = refl };
          answered =
              HasAnswered-more reply P bytes (w.line ++ rest) o q w.answered (w.line ++ front) next
              (lines_of-behind w.line rest front (lines_of next) w.is_held.unended cut) r Q
              (add-one Q one) (subst (Appends q r) same a) (subst EndsAtLine same m);
        }

    pub IsWithin-stop : (stop : Stop) → IsStopped (reply added) q r stop
        → IsStopped (replies_by reply (whole_lines bytes)) o r stop
    IsWithin-stop stop s =
        HasAnswered-stop reply P bytes (w.line ++ rest) o q w.answered (w.line ++ front) next
        (lines_of-behind w.line rest front (lines_of next) w.is_held.unended cut) r stop
        (subst (λ (t : List ℕ). IsStopped t q r stop)
        (reply-add w.line h front added w.is_held e reply settled) s)

    pub IsWithin-wider : (Q : List (List ℕ) → Type 0) → Adds Q
        → ((lines more : List (List ℕ)) → Q lines → Q (lines ++ more)) → Q (whole_lines bytes)
    IsWithin-wider Q one wider =
        HasAnswered-wider reply P bytes (w.line ++ rest) o q w.answered (w.line ++ front) next
        (lines_of-behind w.line rest front (lines_of next) w.is_held.unended cut) r Q
        (add-one Q one) wider

  pub IsWithin-meet : lines_of rest ≡ front ∷ [] → P (whole_lines bytes)
  IsWithin-meet cut =
      HasAnswered-meet reply P bytes (w.line ++ rest) o q w.answered (w.line ++ front)
      (lines_of-behind w.line rest front [] w.is_held.unended cut)

  pub IsWithin-last : lines_of rest ≡ front ∷ [] → front ≡ rest → AreAnswered reply bytes added o q
  IsWithin-last cut all =
      let whole : lines_of (w.line ++ rest) ≡ (w.line ++ front) ∷ [] =
      lines_of-behind w.line rest front [] w.is_held.unended cut in
      record {
        line = w.line ++ front;
        last = HasAnswered-rest reply P bytes (w.line ++ rest) o q w.answered (w.line ++ front) whole;
        is_held = record {
          front = held-add w.line h front added w.is_held e;
          unended =
              lines_of-behind w.line front front [] w.is_held.unended (ap lines_of all ∙ cut);
        };
        written = HasAnswered-all reply P bytes (w.line ++ rest) o q w.answered (w.line ++ front) whole;
        at_line =
            HasAnswered-at_line reply P bytes (w.line ++ rest) o q w.answered (w.line ++ front) whole;
      }

pub AreAnswered-none : (reply : List ℕ → List ℕ) (o : Option (List ℕ)) → AreAnswered reply [] [] o o
AreAnswered-none reply o = record {
  line = [];
  last = refl;
  is_held = record { front = refl; unended = refl };
  written = Appends-none o;
  at_line = inl refl;
}

-- the lines of a piece behind those that were answered
module _ (reply : List ℕ → List ℕ) (a h : List ℕ) (o p : Option (List ℕ))
    (first : AreAnswered reply a h o p) (b : List ℕ) (q : Option (List ℕ)) where
  pub whole_lines-more : whole_lines (a ++ b) ≡ whole_lines a ++ whole_lines (first.line ++ b)
  whole_lines-more =
      whole_lines-append (a ++ b) (first.line ++ b) (whole_lines a)
      (lines_of-append a b first.line (whole_lines a) first.last)

  replies-more : replies_by reply (whole_lines (a ++ b))
      ≡ replies_by reply (whole_lines a) ++ replies_by reply (whole_lines (first.line ++ b))
  replies-more =
      ap (replies_by reply) whole_lines-more
      ∙ replies_by-append reply (whole_lines a) (whole_lines (first.line ++ b))

  pub AreAnswered-append : (k : List ℕ) → AreAnswered reply (first.line ++ b) k p q
      → AreAnswered reply (a ++ b) k o q
  AreAnswered-append k next = record {
    line = next.line;
    last = lines_of-append a b first.line (whole_lines a) first.last
        ∙ ap (λ (ls : List (List ℕ)). whole_lines a ++ ls) next.last
        ∙ sym (append_assoc (whole_lines a) (whole_lines (first.line ++ b)) (next.line ∷ []))
        ∙ ap (λ (ls : List (List ℕ)). ls ++ next.line ∷ []) (sym whole_lines-more);
    is_held = next.is_held;
    written =
        subst (Appends o q) (sym replies-more)
        (Appends-both o p q (replies_by reply (whole_lines a))
        (replies_by reply (whole_lines (first.line ++ b))) first.written next.written);
    at_line =
        subst EndsAtLine (sym replies-more)
        (EndsAtLine-append (replies_by reply (whole_lines a))
        (replies_by reply (whole_lines (first.line ++ b))) first.at_line next.at_line);
  }

  pub IsStopped-append : (stop : Stop)
      → IsStopped (replies_by reply (whole_lines (first.line ++ b))) p q stop
      → IsStopped (replies_by reply (whole_lines (a ++ b))) o q stop
  IsStopped-append stop s =
      subst (λ (t : List ℕ). IsStopped t o q stop) (sym replies-more)
      (IsStopped-behind (replies_by reply (whole_lines a))
      (replies_by reply (whole_lines (first.line ++ b))) o p q stop first.written first.at_line s)
