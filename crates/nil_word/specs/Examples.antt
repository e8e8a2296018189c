-- Two groups for examples.
--   heisenberg   generators a_1 a_2 a_3, and [a_2,a_1] = a_3
--   free_three   the free nilpotent group of class 3 on a_1 and a_2:
--                [a_2,a_1] = a_3, [a_3,a_1] = a_4, [a_3,a_2] = a_5
use Rattle.std.specs.Prelude.{ℕ, List, [], ◌∷◌, ◌==◌, ◌&&◌, if◌then◌else◌}
use Rattle.nil_word.specs.declared.letter.Letter.{Letter}
use Rattle.nil_word.specs.Words.{up}
use Rattle.nil_word.specs.Congruence.{Relations}

abbrev pub heisenberg : Relations
heisenberg = record { count = 3; right = λ j l. if (j == 1) && (l == 2) then up 3 ∷ [] else [] }

abbrev pub free_three : Relations
free_three = record { count = 5; right = right_of }
  where
    right_of : ℕ → ℕ → List Letter
    right_of j l =
        if (j == 1) && (l == 2) then up 3 ∷ []
        else if (j == 1) && (l == 3) then up 4 ∷ []
        else if (j == 2) && (l == 3) then up 5 ∷ []
        else []
