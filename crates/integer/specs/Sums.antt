-- Finite sums of integers.
--   sum_from start n f   f start + f (start + 1) + .., of n summands; 0 where n is 0
use Rattle.std.specs.Prelude.{ℕ, ℤ, pos, ◌+ℤ◌}
use Rattle.std.proofs.Common.{zero, suc}

unfoldable pub sum_from : ℕ → ℕ → (ℕ → ℤ) → ℤ
sum_from start zero f = pos 0
sum_from start (suc n) f = f start +ℤ sum_from (suc start) n f
