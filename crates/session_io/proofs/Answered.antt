-- As far as the lines are answered.
--   HasAnswered reply P bytes rest old new   the lines before the rest were answered, and meet P
use Rattle.std.proofs.Common.{◌≡◌, ℕ, List, [], ◌∷◌, ◌++◌, Option, inl, refl, sym, ◌∙◌, ap, subst, append_assoc, append-nil}
use Rattle.std.specs.Io.KnownBytes.{Appends}
use Rattle.session_io.specs.declared.end.End.{End}
use Rattle.session_io.specs.declared.end.End.TheVariants as end
use Rattle.session_io.specs.declared.stop.Stop.{Stop}
use Rattle.line_tokens.specs.Lines.{lines_of}
use Rattle.session_io.specs.Lines.{whole_lines, as_lines, EndsAtLine}
use Rattle.session_io.specs.Answers.{replies_by, end_text, answer_by, last_piece}
use Rattle.session_io.specs.Stops.{IsStopped}
use Rattle.session_io.proofs.Appending.{Appends-none, Appends-both}
use Rattle.session_io.proofs.Lines.{whole_lines-append, whole_lines-first, whole_lines-last, lines_of-split}
use Rattle.session_io.proofs.Stopping.{EndsAtLine-append, IsStopped-front, IsStopped-behind}

pub replies_by-append : (reply : List ℕ → List ℕ) (ls ms : List (List ℕ))
    → replies_by reply (ls ++ ms) ≡ replies_by reply ls ++ replies_by reply ms
replies_by-append reply [] ms = refl
replies_by-append reply (l ∷ ls) ms =
    ap (λ (t : List ℕ). reply l ++ t) (replies_by-append reply ls ms)
    ∙ sym (append_assoc (reply l) (replies_by reply ls) (replies_by reply ms))

replies_by-one : (reply : List ℕ → List ℕ) (ls : List (List ℕ)) (l : List ℕ)
    → replies_by reply (ls ++ l ∷ []) ≡ replies_by reply ls ++ reply l
replies_by-one reply ls l =
    replies_by-append reply ls (l ∷ [])
    ∙ ap (λ (t : List ℕ). replies_by reply ls ++ t) (append-nil (reply l))

pub record HasAnswered (reply : List ℕ → List ℕ) (P : List (List ℕ) → Type 0) (bytes rest : List ℕ)
    (old new : Option (List ℕ)) : Type 0 where
  pub lines : List (List ℕ)
  pub split : lines_of bytes ≡ lines ++ lines_of rest
  pub written : Appends old new (replies_by reply lines)
  pub at_line : EndsAtLine (replies_by reply lines)
  pub meet : P lines

pub HasAnswered-none : (reply : List ℕ → List ℕ) (P : List (List ℕ) → Type 0) (bytes : List ℕ)
    (o : Option (List ℕ)) → P [] → HasAnswered reply P bytes bytes o o
HasAnswered-none reply P bytes o none =
    record { lines = []; split = refl; written = Appends-none o; at_line = inl refl; meet = none }

module _ (reply : List ℕ → List ℕ) (P : List (List ℕ) → Type 0) (bytes rest : List ℕ)
    (o q : Option (List ℕ)) (h : HasAnswered reply P bytes rest o q) where
  module _ (line next : List ℕ) (e : lines_of rest ≡ line ∷ lines_of next) (r : Option (List ℕ)) where
    whole_lines-more : whole_lines bytes ≡ h.lines ++ line ∷ whole_lines next
    whole_lines-more =
        whole_lines-append bytes rest h.lines h.split
        ∙ ap (λ (ls : List (List ℕ)). h.lines ++ ls) (whole_lines-first rest line next e)

    pub HasAnswered-more : (Q : List (List ℕ) → Type 0)
        → ((lines : List (List ℕ)) → P lines → Q (lines ++ line ∷ []))
        → Appends q r (reply line) → EndsAtLine (reply line)
        → HasAnswered reply Q bytes next o r
    HasAnswered-more Q one w m =
        let both : replies_by reply (h.lines ++ line ∷ []) ≡ replies_by reply h.lines ++ reply line =
        replies_by-one reply h.lines line in
        record {
          lines = h.lines ++ line ∷ [];
          split = h.split ∙ ap (λ (ls : List (List ℕ)). h.lines ++ ls) e
              ∙ sym (append_assoc h.lines (line ∷ []) (lines_of next));
          written =
              subst (Appends o r) (sym both)
              (Appends-both o q r (replies_by reply h.lines) (reply line) h.written w);
          at_line =
              subst EndsAtLine (sym both)
              (EndsAtLine-append (replies_by reply h.lines) (reply line) h.at_line m);
          meet = one h.lines h.meet;
        }

    pub HasAnswered-stop : (stop : Stop) → IsStopped (reply line) q r stop
        → IsStopped (replies_by reply (whole_lines bytes)) o r stop
    HasAnswered-stop stop s =
        subst (λ (t : List ℕ). IsStopped t o r stop)
        (sym (ap (replies_by reply) whole_lines-more ∙ replies_by-append reply h.lines (line ∷ whole_lines next)))
        (IsStopped-behind (replies_by reply h.lines)
        (reply line ++ replies_by reply (whole_lines next)) o q r stop h.written h.at_line
        (IsStopped-front (reply line) (replies_by reply (whole_lines next)) q r stop s))

    -- what holds of the lines up to a stop holds of all where it holds of more
    pub HasAnswered-wider : (Q : List (List ℕ) → Type 0)
        → ((lines : List (List ℕ)) → P lines → Q (lines ++ line ∷ []))
        → ((lines more : List (List ℕ)) → Q lines → Q (lines ++ more))
        → Q (whole_lines bytes)
    HasAnswered-wider Q one wider =
        subst Q
        (append_assoc h.lines (line ∷ []) (whole_lines next) ∙ sym whole_lines-more)
        (wider (h.lines ++ line ∷ []) (whole_lines next) (one h.lines h.meet))

  module _ (line : List ℕ) (e : lines_of rest ≡ line ∷ []) where
    whole_lines-done : whole_lines bytes ≡ h.lines
    whole_lines-done =
        whole_lines-append bytes rest h.lines h.split
        ∙ ap (λ (ls : List (List ℕ)). h.lines ++ ls) (whole_lines-last rest line e) ∙ append-nil h.lines

    pub HasAnswered-all : Appends o q (replies_by reply (whole_lines bytes))
    HasAnswered-all =
        subst (λ (ls : List (List ℕ)). Appends o q (replies_by reply ls)) (sym whole_lines-done)
        h.written

    pub HasAnswered-at_line : EndsAtLine (replies_by reply (whole_lines bytes))
    HasAnswered-at_line =
        subst (λ (ls : List (List ℕ)). EndsAtLine (replies_by reply ls)) (sym whole_lines-done)
        h.at_line

    pub HasAnswered-meet : P (whole_lines bytes)
    HasAnswered-meet = subst P (sym whole_lines-done) h.meet

    pub HasAnswered-rest : lines_of bytes ≡ whole_lines bytes ++ line ∷ []
    HasAnswered-rest =
        h.split ∙ ap (λ (ls : List (List ℕ)). h.lines ++ ls) e
        ∙ ap (λ (ls : List (List ℕ)). ls ++ line ∷ []) (sym whole_lines-done)

-- the whole answer begins with the replies to the whole lines
pub answer_by-finished : (reply : List ℕ → List ℕ) (bytes rest : List ℕ)
    → lines_of bytes ≡ whole_lines bytes ++ rest ∷ []
    → answer_by reply end.Finished bytes ≡ replies_by reply (whole_lines bytes) ++ reply rest
answer_by-finished reply bytes rest h =
    append-nil (replies_by reply (lines_of bytes)) ∙ ap (replies_by reply) h
    ∙ replies_by-one reply (whole_lines bytes) rest

-- a stop among the replies to the whole lines
pub IsStopped-whole : (reply : List ℕ → List ℕ) (e : End) (bytes : List ℕ) (o n : Option (List ℕ))
    (stop : Stop) → IsStopped (replies_by reply (whole_lines bytes)) o n stop
    → IsStopped (answer_by reply e bytes) o n stop
IsStopped-whole reply end.Finished bytes o n stop h =
    let s = lines_of-split bytes in
    subst (λ (t : List ℕ). IsStopped t o n stop) (sym (answer_by-finished reply bytes s.0 s.1))
    (IsStopped-front (replies_by reply (whole_lines bytes)) (reply s.0) o n stop h)
IsStopped-whole reply end.Failed bytes o n stop h =
    IsStopped-front (replies_by reply (whole_lines bytes)) (as_lines (end_text end.Failed)) o n stop h
IsStopped-whole reply end.Long bytes o n stop h =
    IsStopped-front (replies_by reply (whole_lines bytes)) (as_lines (end_text end.Long)) o n stop h

answer_by-split : (reply : List ℕ → List ℕ) (e : End) (bytes rest : List ℕ)
    → lines_of bytes ≡ whole_lines bytes ++ rest ∷ []
    → answer_by reply e bytes ≡ replies_by reply (whole_lines bytes) ++ last_piece reply rest e
answer_by-split reply end.Finished bytes rest h = answer_by-finished reply bytes rest h
answer_by-split reply end.Failed bytes rest h = refl
answer_by-split reply end.Long bytes rest h = refl

module _ (reply : List ℕ → List ℕ) (e : End) (bytes rest : List ℕ) (o m : Option (List ℕ))
    (h : lines_of bytes ≡ whole_lines bytes ++ rest ∷ [])
    (w : Appends o m (replies_by reply (whole_lines bytes))) (n : Option (List ℕ)) where
  pub Appends-last : Appends m n (last_piece reply rest e) → Appends o n (answer_by reply e bytes)
  Appends-last k =
      subst (Appends o n) (sym (answer_by-split reply e bytes rest h))
      (Appends-both o m n (replies_by reply (whole_lines bytes)) (last_piece reply rest e) w k)

  pub IsStopped-last : (stop : Stop) → EndsAtLine (replies_by reply (whole_lines bytes))
      → IsStopped (last_piece reply rest e) m n stop → IsStopped (answer_by reply e bytes) o n stop
  IsStopped-last stop line k =
      subst (λ (t : List ℕ). IsStopped t o n stop) (sym (answer_by-split reply e bytes rest h))
      (IsStopped-behind (replies_by reply (whole_lines bytes)) (last_piece reply rest e) o m n stop w
      line k)
