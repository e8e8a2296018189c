-- What each example is, as the one builder of both sees it.
--   count_of e                 how many generators it has
--   power_of e i j             the power that [a_j,a_i] is equal to, where there is one
--   IsLawful n j power         a right side of a_j: a later one of n generators to a power that isn't
--                              0 and that a right side may have
--   ArePowers n right          each right side of n generators is lawful
-- i < j generators
use Rattle.std.specs.Prelude.{◌≡◌, ℕ, ◌+◌, ◌<◌, ◌≤◌, false, length, Option, IfSome}
use Rattle.nil_pres.specs.declared.syllable.Syllable.{Syllable}
use Rattle.nil_pres.specs.Rights.{is_lowest, is_zero}
use Rattle.nil_examples.specs.declared.example.Example.{Example}
use Rattle.nil_examples.specs.declared.example.Example.TheVariants.{Matrices, Free}
use Rattle.nil_examples.specs.Places.{commutators}
use Rattle.nil_examples.specs.Free.{pairs, bracket}

abbrev pub count_of : Example → ℕ
count_of (Matrices xs) = length xs.items
count_of (Free r) = r + pairs r

abbrev pub power_of : Example → ℕ → ℕ → Option Syllable
power_of (Matrices xs) i j = commutators xs.items i j
power_of (Free r) i j = bracket r i j

pub record IsLawful (n j : ℕ) (power : Syllable) : Type 0 where
  pub above : j < power.number
  pub generator : power.number ≤ n
  pub lowest : is_lowest power.exp ≡ false
  pub nonzero : is_zero power.exp ≡ false

abbrev pub ArePowers : ℕ → (ℕ → ℕ → Option Syllable) → Type 0
ArePowers n right =
    (i j : ℕ) → 1 ≤ i → i < j → j ≤ n → IfSome (right i j) (IsLawful n j)
