-- Collection of a word on to a vector, letter by letter, within a budget of letters.
--   behind v g           the letters of the ordered word of v behind generator g
--   counted v a          v with the sign of a added at its generator
--   cut v a              the same with 0 above the generator
--   next rels v a        the vector once the letter a is appended: `counted` where a commutes with
--                        the letters behind it, else `cut`
--   moved rels v a       the word to be appended then: what the letters behind become where a goes
--                        past them, and nothing where they commute
--   collected rels b v w the vector once w is appended to v, and what is left of the budget b; each
--                        letter takes one of it; None where b is too small
--   collection rels w    the vector of w, by at most 2^24 letters; None where they don't suffice
-- v vector · a letter · w word · b budget · g generator
use Rattle.std.specs.Prelude.{ℕ, zero, suc, ◌-◌, ◌^◌, ℤ, pos, ◌+ℤ◌, List, [], ◌∷◌, ◌++◌, length, take, drop, replicate, slice_set, Option, Some, None, option_map, if◌then◌else◌}
use Rattle.nil_word.specs.declared.letter.Letter.{Letter}
use Rattle.nil_word.specs.Words.{ordered_from}
use Rattle.nil_word.specs.Exponents.{entry, signed}
use Rattle.nil_word.specs.Congruence.{Relations}
use Rattle.left_collect.specs.Conjugates.{image, conjugated, commutes}

abbrev pub behind : List ℤ → ℕ → List Letter
behind v g = ordered_from (suc g) (drop g v)

abbrev pub counted : List ℤ → Letter → List ℤ
counted v a = slice_set v (a.number - 1) (entry v a.number +ℤ signed a.up (pos 1))

abbrev pub cut : List ℤ → Letter → List ℤ
cut v a = take a.number (counted v a) ++ replicate (length v - a.number) (pos 0)

abbrev pub next : Relations → List ℤ → Letter → List ℤ
next rels v a =
    if commutes rels a.number (behind v a.number) then counted v a else cut v a

abbrev pub moved : Relations → List ℤ → Letter → List Letter
moved rels v a =
    if commutes rels a.number (behind v a.number) then []
    else image (conjugated rels a) (behind v a.number)

abbrev pub collected : Relations → ℕ → List ℤ → List Letter → Option (List ℤ × ℕ)
collected rels b v [] = Some (v, b)
collected rels zero v (a ∷ w) = None
collected rels (suc b) v (a ∷ w) = collected rels b (next rels v a) (moved rels v a ++ w)

abbrev pub collection : Relations → List Letter → Option (List ℤ)
collection rels w =
    option_map (λ done. done.0) (collected rels (2 ^ 24) (replicate rels.count (pos 0)) w)
