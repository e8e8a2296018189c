-- The canonical text of a presentation.
--   name_of names k         the name of a generator
--   power_text names s      a power with its exponent where that isn't 1
--   right_text names ss     powers joined by *
--   bracket_text names j i  the left side of a relation, up to the right side
--   line_text names j i ss  the line of a pair with a right side that isn't empty
--   pairs_text p j n        the lines of a generator and those up to the n-th below it
--   relations_text p n      the lines of the first n generators
--   names_text names n      the first n names, each behind a space
--   text_of p               the whole text
use Rattle.std.specs.Prelude.{ℕ, zero, suc, ◌-◌, pos, List, [], ◌∷◌, ◌++◌, length, slice_index_or, codes, if◌then◌else◌}
use Rattle.std.specs.List.{flat_map}
use Rattle.std.specs.Ordering.{int_eq}
use Rattle.std.specs.Fmt.{signed_decimal}
use Rattle.nil_pres.specs.declared.syllable.Syllable.{Syllable}
use Rattle.nil_pres.specs.Presented.{Presented, right_of}

abbrev pub name_of : List (List ℕ) → ℕ → List ℕ
name_of names k = slice_index_or names (k - 1) []

abbrev pub power_text : List (List ℕ) → Syllable → List ℕ
power_text names s =
    name_of names s.number
    ++ (if int_eq s.exp (pos 1) then [] else codes "^" ++ signed_decimal s.exp)

abbrev pub right_text : List (List ℕ) → List Syllable → List ℕ
right_text names [] = []
right_text names (s ∷ right) =
    power_text names s ++ flat_map (λ t. codes "*" ++ power_text names t) right

abbrev pub bracket_text : List (List ℕ) → ℕ → ℕ → List ℕ
bracket_text names j i =
    codes "[" ++ name_of names j ++ codes "," ++ name_of names i ++ codes "] = "

abbrev pub line_text : List (List ℕ) → ℕ → ℕ → List Syllable → List ℕ
line_text names j i [] = []
line_text names j i (s ∷ right) = bracket_text names j i ++ right_text names (s ∷ right) ++ 10 ∷ []

abbrev pub pairs_text : Presented → ℕ → ℕ → List ℕ
pairs_text p j zero = []
pairs_text p j (suc i) = pairs_text p j i ++ line_text p.names j (suc i) (right_of p (suc i) j)

abbrev pub relations_text : Presented → ℕ → List ℕ
relations_text p zero = []
relations_text p (suc j) = relations_text p j ++ pairs_text p (suc j) j

abbrev pub names_text : List (List ℕ) → ℕ → List ℕ
names_text names zero = []
names_text names (suc k) = names_text names k ++ codes " " ++ name_of names (suc k)

abbrev pub text_of : Presented → List ℕ
text_of p =
    (codes "nilpotent 1" ++ 10 ∷ codes "generators") ++ names_text p.names (length p.names)
    ++ 10 ∷ [] ++ relations_text p (length p.names)
