-- Right sides of relations, as lists of syllables.
--   is_lowest e                       e is - 2^63, whose magnitude is above 2^63 - 1
--   is_zero e                         e is 0
--   syllable_fault place last right   the first fault of syllables that stand from a place on,
--                                     behind a generator
--   AreUpTo high right                no syllable is of a generator above high
--   IsRight low high right            ascending generators above low and up to high, with nonzero
--                                     exponents of magnitude at most 2^63 - 1
-- e exponent · s syllable · low last high generators
use Rattle.std.specs.Prelude.{◌≢◌, ℕ, ◌+◌, ◌-◌, ◌^◌, ◌<◌, ◌≤◌, Bool, false, ◌==◌, nat_le, ℤ, pos, negsuc, unsigned_abs, List, [], ◌∷◌, All, Option, Some, None, if◌then◌else◌}
use Rattle.nil_pres.specs.declared.syllable.Syllable.{Syllable}
use Rattle.nil_pres.specs.declared.relation_fault.RelationFault.{RelationFault}
use Rattle.nil_pres.specs.declared.relation_fault.RelationFault.TheVariants.{Above, Number, Zero}

abbrev pub is_lowest : ℤ → Bool
is_lowest (pos n) = false
is_lowest (negsuc n) = n == 2 ^ 63 - 1

abbrev pub is_zero : ℤ → Bool
is_zero (pos n) = n == 0
is_zero (negsuc n) = false

abbrev pub syllable_fault : ℕ → ℕ → List Syllable → Option RelationFault
syllable_fault place last [] = None
syllable_fault place last (s ∷ rest) =
    if nat_le s.number last then Some (Above place)
    else (if is_lowest s.exp then Some (Number place)
    else (if is_zero s.exp then Some (Zero place)
    else syllable_fault (place + 1) s.number rest))

abbrev pub AreUpTo : ℕ → List Syllable → Type 0
AreUpTo high right = All (λ s. s.number ≤ high) right

abbrev pub IsRight : ℕ → ℕ → List Syllable → Type 0
IsRight low high [] = Unit {0}
IsRight low high (s ∷ rest) =
    (low < s.number) × (s.number ≤ high) × (s.exp ≢ pos 0) × (unsigned_abs s.exp ≤ 2 ^ 63 - 1)
    × IsRight s.number high rest
