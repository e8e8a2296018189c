-- When two presentations are equal, generator by generator.
--   HaveSameRow p q j     the pairs of j with lower generators have equal right sides
-- p q presentations · i < j generators
use Rattle.std.specs.Prelude.{◌≡◌, ℕ, ◌<◌, ◌≤◌}
use Rattle.nil_pres.specs.Presented.{Presented, right_of}

abbrev pub HaveSameRow : Presented → Presented → ℕ → Type 0
HaveSameRow p q j = (i : ℕ) → 1 ≤ i → i < j → right_of p i j ≡ right_of q i j
