-- Binomial coefficients over the integers.
--   running f x   the sum of f from 0 up to x: 0 at 0, and its step from x to x + 1 is f x, for
--                 every integer x
--   below m x     x over m, with the lower number first
--   choose x m    x over m, for every integer x
--   ways n m      n over m by Pascal's triangle: how many sets of m there are of n things
use Rattle.std.specs.Prelude.{ℕ, ◌+◌, ℤ, pos, negsuc, ◌+ℤ◌, ◌-ℤ◌}
use lib.IntN.{neg_ℤ}
use Rattle.std.proofs.Common.{zero, suc}

unfoldable pub running : (ℤ → ℤ) → ℤ → ℤ
running f (pos zero) = pos 0
running f (pos (suc n)) = running f (pos n) +ℤ f (pos n)
running f (negsuc zero) = neg_ℤ (f (negsuc zero))
running f (negsuc (suc n)) = running f (negsuc n) -ℤ f (negsuc (suc n))

unfoldable pub below : ℕ → ℤ → ℤ
below zero x = pos 1
below (suc m) x = running (below m) x

abbrev pub choose : ℤ → ℕ → ℤ
choose x m = below m x

unfoldable pub ways : ℕ → ℕ → ℕ
ways n zero = 1
ways zero (suc m) = 0
ways (suc n) (suc m) = ways n m + ways n (suc m)
