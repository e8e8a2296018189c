-- The relations of the group that a presentation presents.
--   factors_of right     the syllables as powers of generators
--   is_pair p j l        1 <= j < l, and a_l is a generator
--   between p j l        the factors of the right side of a pair, none where j and l are no pair
--   relations_of p       as many generators as names, and the words of the right sides
-- p presentation · j < l generators · s syllable
use Rattle.std.specs.Prelude.{ℕ, Bool, nat_le, nat_lt, ◌&&◌, List, [], length, map, if◌then◌else◌}
use Rattle.nil_word.specs.Congruence.{Relations}
use Rattle.nil_word.specs.Factors.{Factor, word_of}
use Rattle.nil_pres.specs.declared.syllable.Syllable.{Syllable}
use Rattle.nil_pres.specs.Presented.{Presented, right_of}

abbrev pub factors_of : List Syllable → List Factor
factors_of right = map (λ s. record { number = s.number; exp = s.exp }) right

abbrev pub is_pair : Presented → ℕ → ℕ → Bool
is_pair p j l = nat_le 1 j && nat_lt j l && nat_le l (length p.names)

abbrev pub between : Presented → ℕ → ℕ → List Factor
between p j l = if is_pair p j l then factors_of (right_of p j l) else []

abbrev pub relations_of : Presented → Relations
relations_of p = record { count = length p.names; right = λ j l. word_of (between p j l) }
