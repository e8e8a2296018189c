-- Unitriangular matrices with m rows: generators at the places above the diagonal.
--   diagonal m d         the places (p, p + d), by p
--   places m             the places (p,q) with p < q <= m, by q - p and then by p
--   is_at p q x          x is the place (p,q)
--   number_of xs p q     the number of a place, from 1 along xs; 0 where it isn't there
--   place_of xs k        the place with a number; (0,0) where there is none
--   commutator xs x y    for generators a_i at x and a_j at y, i < j, the power that [a_j,a_i] is
--                        equal to, where they don't commute: the place (p,r) of (p,q) and (q,r)
--   commutators xs i j   the same for the generators with two numbers
--   unitriangular m      the presentation
-- p q r rows and columns · x y places · xs places by their numbers
use Rattle.std.specs.Prelude.{ℕ, ◌+◌, ◌-◌, Bool, ◌==◌, ◌&&◌, pos, negsuc, List, length, map, slice_index_or, position, Option, Some, None, option_map, unwrap_or, if◌then◌else◌}
use Rattle.std.specs.List.{flat_map, range_with_len}
use Rattle.nil_pres.specs.declared.syllable.Syllable.{Syllable}
use Rattle.nil_pres.specs.Presented.{Presented}
use Rattle.nil_examples.specs.declared.places.Place.{Place}
use Rattle.nil_examples.specs.Powers.{presentation}

abbrev pub diagonal : ℕ → ℕ → List Place
diagonal m d = map (λ p. record { row = p; column = p + d }) (range_with_len 1 (m - d))

abbrev pub places : ℕ → List Place
places m = flat_map (diagonal m) (range_with_len 1 (m - 1))

abbrev pub is_at : ℕ → ℕ → Place → Bool
is_at p q x = (x.row == p) && (x.column == q)

abbrev pub number_of : List Place → ℕ → ℕ → ℕ
number_of xs p q = unwrap_or (option_map (λ index. index + 1) (position (is_at p q) xs)) 0

abbrev pub place_of : List Place → ℕ → Place
place_of xs k = slice_index_or xs (k - 1) (record { row = 0; column = 0 })

abbrev pub commutator : List Place → Place → Place → Option Syllable
commutator xs x y =
    if x.column == y.row
    then Some (record { number = number_of xs x.row y.column; exp = negsuc 0 })
    else (if y.column == x.row
    then Some (record { number = number_of xs y.row x.column; exp = pos 1 })
    else None)

abbrev pub commutators : List Place → ℕ → ℕ → Option Syllable
commutators xs i j = commutator xs (place_of xs i) (place_of xs j)

abbrev pub unitriangular : ℕ → Presented
unitriangular m = presentation (length (places m)) (commutators (places m))
