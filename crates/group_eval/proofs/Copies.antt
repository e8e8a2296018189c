-- Vectors whose entries are written one after another.
--   n how many entries · k j generators · a x vectors
use Rattle.std.proofs.Common.{◌≡◌, ℕ, ◌+◌, ◌<◌, ◌≤◌, List, length, arith}
use lib.IntN.{ℤ}
use Rattle.nil_word.specs.Exponents.{entry}
use Rattle.hall_law.proofs.Entries.{same_entries}

-- the entries below k are those of a
pub record CopiedSoFar (a : List ℤ) (n : ℕ) (x : List ℤ) (k : ℕ) : Type 0 where
  pub size : length x ≡ n
  pub entries : (j : ℕ) → j < k → 1 ≤ j → entry x j ≡ entry a j

pub all_copied : {a : List ℤ} {n : ℕ} {x : List ℤ} {k : ℕ} → CopiedSoFar a n x k → n + 1 ≤ k
    → length a ≡ n → x ≡ a
all_copied {a} {n} {x} {k} s l h =
    same_entries n x a s.size h (λ m low high. s.entries m (omega arith) low)
