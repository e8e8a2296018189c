-- What a call answers that follows a written order: an outcome of it, unless memory ran out.
--   Unless O value r         the outcome r is the value, and a refusal exactly where O holds
--   Refuses O r              the outcome r is a refusal exactly where O holds
--   Gives place result P     P holds of the value that is answered, or of the place that the fault
--                            names; a fault that names none is want of memory, and says nothing
--   Writes result new r      a call wrote what the written order gives, or answered its refusal
-- r outcome of a written order · P what holds of it
use Rattle.std.specs.Prelude.{◌≡◌, Option, IfSome, Result, Ok, Err, MatchResult}

abbrev pub Unless : {A E : Type 0} → Type 0 → A → Result A E → Type 0
Unless O value (Ok x) = (x ≡ value) × ¬ O
Unless O value (Err place) = O

abbrev pub Refuses : {A E : Type 0} → Type 0 → Result A E → Type 0
Refuses O (Ok x) = ¬ O
Refuses O (Err place) = O

abbrev pub Gives : {A E F : Type 0} → (F → Option E) → Result A F → (Result A E → Type 0) → Type 0
Gives place (Ok x) P = P (Ok x)
Gives place (Err fault) P = IfSome (place fault) (λ at. P (Err at))

abbrev pub Writes : {A E : Type 0} → Result (Unit {0}) E → A → Result A E → Type 0
Writes result new r = MatchResult result (λ _. r ≡ Ok new) (λ at. r ≡ Err at)
