-- What a word becomes where a letter goes past it to the left: w a = a w'.
--   image f w                    f k in place of each a_k of w, and its inverse in place of a_k^-1
--   conjugated_down rels d g k   a_g a_k a_g^-1 as a word in a_k and later generators, by d nested
--                                steps; a_k where d is 0
--   conjugated rels a k          a^-1 a_k a as such a word: a_k a = a (conjugated rels a k)
--   is_empty w                   w has no letter
--   commutes rels g w            each letter of w has an empty right side with a_g
-- g < k generators · a letter · w word
use Rattle.std.specs.Prelude.{ℕ, zero, suc, Bool, true, false, List, [], ◌∷◌, ◌++◌, if◌then◌else◌}
use Rattle.std.specs.List.{list_all}
use Rattle.nil_word.specs.declared.letter.Letter.{Letter}
use Rattle.nil_word.specs.Words.{up, inverse}
use Rattle.nil_word.specs.Congruence.{Relations}

abbrev pub image : (ℕ → List Letter) → List Letter → List Letter
image f [] = []
image f (a ∷ w) = (if a.up then f a.number else inverse (f a.number)) ++ image f w

abbrev pub conjugated_down : Relations → ℕ → ℕ → ℕ → List Letter
conjugated_down rels zero g k = up k ∷ []
conjugated_down rels (suc d) g k =
    up k ∷ inverse (image (conjugated_down rels d g) (rels.right g k))

abbrev pub conjugated : Relations → Letter → ℕ → List Letter
conjugated rels a k =
    if a.up then up k ∷ rels.right a.number k else conjugated_down rels rels.count a.number k

abbrev pub is_empty : List Letter → Bool
is_empty [] = true
is_empty (a ∷ w) = false

abbrev pub commutes : Relations → ℕ → List Letter → Bool
commutes rels g w = list_all (λ a. is_empty (rels.right g a.number)) w
