-- The words `conjugated`: by one nested step, and their generators.
--   g < k l generators · d e nested steps · w word
use Rattle.std.proofs.Common.{◌≡◌, ℕ, zero, suc, ◌≤◌, ◌<◌, ◌+◌, Bool, true, false, List, [], ◌∷◌, refl, sym, ap, arith}
use Rattle.std.proofs.lemmas.List.Elements.{All-nil, All-cons, All-head}
use Rattle.nil_word.specs.declared.letter.Letter.{Letter}
use Rattle.nil_word.specs.Words.{up, down, inverse, IsIn, IsWordIn}
use Rattle.nil_word.specs.Congruence.{Relations, IsAbove}
use Rattle.nil_word.proofs.Inverses.{IsWordIn-inverse}
use Rattle.nil_word.proofs.Passing.{IsWordIn-from}
use Rattle.left_collect.specs.Conjugates.{image, conjugated_down, conjugated}
use Rattle.left_collect.proofs.Images.{image-same, IsWordIn-image}

nothing : (low high : ℕ) (w : List Letter) → high < low → IsWordIn low high w → w ≡ []
nothing low high [] a h = refl
nothing low high (x ∷ w) a h = let k = All-head (IsIn low high) x w h in absurd (omega arith)

module _ (rels : Relations) (lawful : IsAbove rels) (g : ℕ) (positive : 1 ≤ g) where
  pub right_in : (k : ℕ) → g < k → k ≤ rels.count
      → IsWordIn (suc k) rels.count (rels.right g k)
  right_in k a b = lawful.above g k positive a b

  -- nested steps that suffice
  same_steps : (d e k : ℕ) → g < k → k ≤ rels.count → rels.count ≤ k + d → rels.count ≤ k + e
      → conjugated_down rels d g k ≡ conjugated_down rels e g k
  same_steps zero zero k a b p q = refl
  same_steps zero (suc e) k a b p q =
      let none : rels.right g k ≡ [] = nothing (suc k) rels.count (rels.right g k) (omega arith)
      (right_in k a b) in
      sym (ap (λ (w : List Letter). up k ∷ inverse (image (conjugated_down rels e g) w)) none)
  same_steps (suc d) zero k a b p q =
      let none : rels.right g k ≡ [] = nothing (suc k) rels.count (rels.right g k) (omega arith)
      (right_in k a b) in
      ap (λ (w : List Letter). up k ∷ inverse (image (conjugated_down rels d g) w)) none
  same_steps (suc d) (suc e) k a b p q =
      ap (λ (w : List Letter). up k ∷ inverse w)
      (image-same (suc k) rels.count (conjugated_down rels d g) (conjugated_down rels e g)
      (λ l low high. same_steps d e l (omega arith) high (omega arith) (omega arith))
      (rels.right g k) (right_in k a b))

  at_steps : (n k : ℕ) → n ≡ rels.count → g < k → k ≤ n
      → conjugated_down rels n g k
      ≡ up k ∷ inverse (image (conjugated_down rels n g) (rels.right g k))
  at_steps zero k e a b = absurd (omega arith)
  at_steps (suc d) k e a b =
      ap (λ (w : List Letter). up k ∷ inverse w)
      (image-same (suc k) rels.count (conjugated_down rels d g) (conjugated_down rels (suc d) g)
      (λ l low high.
      same_steps d (suc d) l (omega arith) high (omega arith) (omega arith))
      (rels.right g k) (right_in k a (omega arith)))

  pub conjugated-down : (k : ℕ) → g < k → k ≤ rels.count
      → conjugated rels (down g) k
      ≡ up k ∷ inverse (image (conjugated rels (down g)) (rels.right g k))
  conjugated-down k a b = at_steps rels.count k refl a b

  down_in : (d k : ℕ) → g < k → k ≤ rels.count
      → IsWordIn k rels.count (conjugated_down rels d g k)
  down_in zero k a b =
      All-cons (IsIn k rels.count) (up k) [] (omega arith, b) (All-nil (IsIn k rels.count))
  down_in (suc d) k a b =
      let w : List Letter = image (conjugated_down rels d g) (rels.right g k) in
      All-cons (IsIn k rels.count) (up k) (inverse w) (omega arith, b)
      (IsWordIn-from rels k (suc k) (inverse w) (omega arith)
      (IsWordIn-inverse (suc k) rels.count w
      (IsWordIn-image (suc k) rels.count (conjugated_down rels d g)
      (λ l low high. IsWordIn-from rels (suc k) l (conjugated_down rels d g l) low
      (down_in d l (omega arith) high)) (rels.right g k) (right_in k a b))))

  up_in : (k : ℕ) → g < k → k ≤ rels.count → IsWordIn k rels.count (conjugated rels (up g) k)
  up_in k a b =
      All-cons (IsIn k rels.count) (up k) (rels.right g k) (omega arith, b)
      (IsWordIn-from rels k (suc k) (rels.right g k) (omega arith) (right_in k a b))

pub conjugated_in : (rels : Relations) → IsAbove rels → (a : Letter) (k : ℕ) → 1 ≤ a.number
    → a.number < k → k ≤ rels.count → IsWordIn k rels.count (conjugated rels a k)
conjugated_in rels lawful a k positive p q =
    elim a.up as (λ (b : Bool). let x : Letter = record { number = a.number; up = b } in
    IsWordIn k rels.count (conjugated rels x k)) [
      | true ↦ up_in rels lawful a.number positive k p q
      | false ↦ down_in rels lawful a.number positive rels.count k p q
    ]
