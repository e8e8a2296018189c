-- The image of a product of powers, power by power.
--   f words for generators · s factor · ss factors
use Rattle.std.proofs.Common.{◌≡◌, ℕ, ◌≤◌, ◌<◌, List, [], ◌∷◌, ◌++◌, map, refl, ◌∙◌, ap}
use Rattle.nil_word.specs.declared.letter.Letter.{Letter}
use Rattle.nil_word.specs.Words.{up, down, power, inverse}
use Rattle.nil_word.specs.Expressions.{raised, joined}
use Rattle.nil_word.specs.Factors.{Factor, word_of}
use Rattle.nil_word.specs.Congruence.{Relations, IsAbove}
use Rattle.left_collect.specs.Conjugates.{image, conjugated}
use Rattle.left_collect.proofs.Images.{image-append, image-power}
use Rattle.left_collect.proofs.Conjugating.{conjugated-down}

image-word_of : (f : ℕ → List Letter) (ss : List Factor)
    → image f (word_of ss) ≡ joined (map (λ s. raised (f s.number) s.exp) ss)
image-word_of f [] = refl
image-word_of f (s ∷ ss) =
    image-append f (power s.number s.exp) (word_of ss)
    ∙ (ap (λ (w : List Letter). w ++ image f (word_of ss)) (image-power f s.number s.exp)
    ∙ ap (λ (w : List Letter). raised (f s.number) s.exp ++ w) (image-word_of f ss))

pub by_syllables : (rels : Relations) (g k : ℕ) (right : List Factor) → IsAbove rels → 1 ≤ g
    → g < k → k ≤ rels.count → rels.right g k ≡ word_of right
    → conjugated rels (down g) k ≡ up k ∷ inverse
    (joined (map (λ s. raised (conjugated rels (down g) s.number) s.exp) right))
by_syllables rels g k right lawful positive b d e =
    conjugated-down rels lawful g positive k b d
    ∙ ap (λ (w : List Letter). up k ∷ inverse w)
    (ap (image (conjugated rels (down g))) e ∙ image-word_of (conjugated rels (down g)) right)
