-- The first of some numbers with a property.
--   first_from low d p     the first of the d numbers from low on with p, None where none has it
--   IsFirstFrom low d P k  k is one of the d numbers from low on, the first with P
use Rattle.std.specs.Prelude.{ℕ, zero, suc, ◌+◌, ◌<◌, ◌≤◌, Bool, Option, Some, None, if◌then◌else◌}

abbrev pub first_from : ℕ → ℕ → (ℕ → Bool) → Option ℕ
first_from low zero p = None
first_from low (suc d) p = if p low then Some low else first_from (suc low) d p

pub record IsFirstFrom (low d : ℕ) (P : ℕ → Type 0) (k : ℕ) : Type 0 where
  pub from : low ≤ k
  pub to : k < low + d
  pub holds : P k
  pub before : (j : ℕ) → low ≤ j → j < k → ¬ P j
