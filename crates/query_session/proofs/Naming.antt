-- A word that names no command.
use Rattle.std.proofs.Common.{◌≡◌, ℕ, List, Bool, cond, true, false, Option, None, refl, sym, ap, ◌∙◌, codes}
use Rattle.std.specs.Str.{bytes_eq}
use Rattle.std.proofs.lemmas.Slice.Eq.{bytes_eq-Decides}
use Rattle.query_session.specs.Commands.{Command, named_by}

not_eq : (word name : List ℕ) → (word ≡ name → ⊥) → bytes_eq word name ≡ false
not_eq word name other = by (bytes_eq word name) refl
  where
    by : (b : Bool) → bytes_eq word name ≡ b → bytes_eq word name ≡ false
    by true e = absurd (other ((bytes_eq-Decides word name).0 e))
    by false e = e

otherwise : (b : Bool) (x y : Option Command) → b ≡ false → None ≡ y → None ≡ cond b x y
otherwise b x y fails rest = rest ∙ sym (ap (λ (t : Bool). cond t x y) fails)

pub named_by-none : (word : List ℕ) (names : List (List ℕ)) → (word ≡ codes "run" → ⊥)
    → (word ≡ codes "check" → ⊥) → (word ≡ codes "compile" → ⊥) → (word ≡ codes "trees" → ⊥)
    → (word ≡ codes "collect" → ⊥) → (word ≡ codes "example" → ⊥) → (word ≡ codes "load" → ⊥)
    → None ≡ named_by word names
named_by-none word names run check compile trees collect example load =
    otherwise (bytes_eq word (codes "run")) _ _ (not_eq word (codes "run") run)
    (otherwise (bytes_eq word (codes "check")) _ _ (not_eq word (codes "check") check)
    (otherwise (bytes_eq word (codes "compile")) _ _ (not_eq word (codes "compile") compile)
    (otherwise (bytes_eq word (codes "trees")) _ _ (not_eq word (codes "trees") trees)
    (otherwise (bytes_eq word (codes "collect")) _ _ (not_eq word (codes "collect") collect)
    (otherwise (bytes_eq word (codes "example")) _ _ (not_eq word (codes "example") example)
    (otherwise (bytes_eq word (codes "load")) _ _ (not_eq word (codes "load") load) refl))))))
