-- Free nilpotent groups of class two with r generators.
--   pairs k              how many pairs i < j <= k there are
--   bracket r i j        what [a_j,a_i] is equal to: for i < j <= r a generator of its own, in the
--                        order of j and then of i; later generators commute with all
--   free_class_two r     the presentation
-- i < j generators
use Rattle.std.specs.Prelude.{ℕ, zero, suc, ◌+◌, ◌-◌, nat_le, pos, Option, Some, None, if◌then◌else◌}
use Rattle.nil_pres.specs.declared.syllable.Syllable.{Syllable}
use Rattle.nil_pres.specs.Presented.{Presented}
use Rattle.nil_examples.specs.Powers.{presentation}

abbrev pub pairs : ℕ → ℕ
pairs zero = 0
pairs (suc k) = pairs k + k

abbrev pub bracket : ℕ → ℕ → ℕ → Option Syllable
bracket r i j =
    if nat_le j r then Some (record { number = r + pairs (j - 1) + i; exp = pos 1 }) else None

abbrev pub free_class_two : ℕ → Presented
free_class_two r = presentation (r + pairs r) (bracket r)
