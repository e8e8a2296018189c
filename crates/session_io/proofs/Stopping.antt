-- Stops in front of bytes and behind them.
use Rattle.std.proofs.Common.{ℕ, List, [], ◌∷◌, ◌++◌, Option, inl, inr, sym, ◌∙◌, ap, subst, append_assoc, append-nil}
use Rattle.std.specs.Io.KnownBytes.{Appends}
use Rattle.session_io.specs.declared.stop.Stop.{Stop}
use Rattle.session_io.specs.Lines.{EndsAtLine}
use Rattle.session_io.specs.Stops.{IsStopped, failed, short}
use Rattle.session_io.proofs.Appending.{Appends-both}

-- what ends at a line's end, behind any bytes that do
pub EndsAtLine-append : (a b : List ℕ) → EndsAtLine a → EndsAtLine b → EndsAtLine (a ++ b)
EndsAtLine-append a b h (inl e) =
    subst EndsAtLine (sym (ap (λ (t : List ℕ). a ++ t) e ∙ append-nil a)) h
EndsAtLine-append a b h (inr (t, e)) =
    inr (a ++ t, ap (λ (x : List ℕ). a ++ x) e ∙ sym (append_assoc a t (10 ∷ [])))

-- a stop before bytes that weren't written
pub IsStopped-front : (a b : List ℕ) (o p : Option (List ℕ)) (stop : Stop) → IsStopped a o p stop
    → IsStopped (a ++ b) o p stop
IsStopped-front a b o p stop (failed front rest e w) =
    failed front (rest ++ b) (ap (λ (t : List ℕ). t ++ b) e ∙ append_assoc front rest b) w
IsStopped-front a b o p stop (short front rest e w m) =
    short front (rest ++ b) (ap (λ (t : List ℕ). t ++ b) e ∙ append_assoc front rest b) w m

-- and one behind bytes that were
pub IsStopped-behind : (a b : List ℕ) (o p q : Option (List ℕ)) (stop : Stop) → Appends o p a
    → EndsAtLine a → IsStopped b p q stop → IsStopped (a ++ b) o q stop
IsStopped-behind a b o p q stop h k (failed front rest e w) =
    failed (a ++ front) rest (ap (λ (t : List ℕ). a ++ t) e ∙ sym (append_assoc a front rest))
    (Appends-both o p q a front h w)
IsStopped-behind a b o p q stop h k (short front rest e w m) =
    short (a ++ front) rest (ap (λ (t : List ℕ). a ++ t) e ∙ sym (append_assoc a front rest))
    (Appends-both o p q a front h w) (EndsAtLine-append a front k m)
