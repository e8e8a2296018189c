-- Images of words: joined, of powers, of inverses, and their generators.
--   f h words for generators · a letter · u w words · k generator · n count
use Rattle.std.proofs.Common.{◌≡◌, ℕ, zero, suc, ◌≤◌, Bool, true, false, ℤ, pos, negsuc, List, [], ◌∷◌, ◌++◌, replicate, if◌then◌else◌, refl, sym, ◌∙◌, ap, append_assoc, append-nil}
use Rattle.std.proofs.lemmas.List.Elements.{All-nil, All-head, All-tail, All-append}
use Rattle.nil_word.specs.declared.letter.Letter.{Letter}
use Rattle.nil_word.specs.Words.{up, down, opposite, inverse, power, IsIn, IsWordIn}
use Rattle.nil_word.specs.Expressions.{repeated, raised}
use Rattle.nil_word.proofs.Inverses.{inverse-append, inverse-inverse, IsWordIn-inverse}
use Rattle.left_collect.specs.Conjugates.{image}

pub image-append : (f : ℕ → List Letter) (u w : List Letter)
    → image f (u ++ w) ≡ image f u ++ image f w
image-append f [] w = refl
image-append f (a ∷ u) w =
    let x : List Letter = if a.up then f a.number else inverse (f a.number) in
    ap (λ (y : List Letter). x ++ y) (image-append f u w)
    ∙ sym (append_assoc x (image f u) (image f w))

image-ups : (f : ℕ → List Letter) (k n : ℕ) → image f (replicate n (up k)) ≡ repeated n (f k)
image-ups f k zero = refl
image-ups f k (suc n) = ap (λ (y : List Letter). f k ++ y) (image-ups f k n)

image-downs : (f : ℕ → List Letter) (k n : ℕ)
    → image f (replicate n (down k)) ≡ repeated n (inverse (f k))
image-downs f k zero = refl
image-downs f k (suc n) = ap (λ (y : List Letter). inverse (f k) ++ y) (image-downs f k n)

pub image-power : (f : ℕ → List Letter) (k : ℕ) (e : ℤ) → image f (power k e) ≡ raised (f k) e
image-power f k (pos n) = image-ups f k n
image-power f k (negsuc n) = image-downs f k (suc n)

image-opposite : (f : ℕ → List Letter) (a : Letter)
    → image f (opposite a ∷ []) ≡ inverse (image f (a ∷ []))
image-opposite f a =
    elim a.up as (λ (b : Bool). let x : Letter = record { number = a.number; up = b } in
    image f (opposite x ∷ []) ≡ inverse (image f (x ∷ []))) [
      | true ↦
          append-nil (inverse (f a.number)) ∙ ap inverse (sym (append-nil (f a.number)))
      | false ↦
          append-nil (f a.number) ∙ (sym (inverse-inverse (f a.number))
          ∙ ap inverse (sym (append-nil (inverse (f a.number)))))
    ]

pub image-inverse : (f : ℕ → List Letter) (w : List Letter)
    → image f (inverse w) ≡ inverse (image f w)
image-inverse f [] = refl
image-inverse f (a ∷ w) =
    let x : List Letter = if a.up then f a.number else inverse (f a.number) in
    image-append f (inverse w) (opposite a ∷ [])
    ∙ (ap (λ (y : List Letter). y ++ image f (opposite a ∷ [])) (image-inverse f w)
    ∙ (ap (λ (y : List Letter). inverse (image f w) ++ y)
    (image-opposite f a ∙ ap inverse (append-nil x))
    ∙ sym (inverse-append x (image f w))))

-- words for generators that are the generators
pub image-itself : (w : List Letter) → image (λ k. up k ∷ []) w ≡ w
image-itself [] = refl
image-itself (a ∷ w) =
    elim a.up as (λ (b : Bool). let x : Letter = record { number = a.number; up = b } in
    image (λ k. up k ∷ []) (x ∷ w) ≡ x ∷ w) [
      | true ↦ ap (λ (y : List Letter). up a.number ∷ y) (image-itself w)
      | false ↦ ap (λ (y : List Letter). down a.number ∷ y) (image-itself w)
    ]

-- words that agree at the letters of w
pub image-same : (low high : ℕ) (f h : ℕ → List Letter)
    → ((k : ℕ) → low ≤ k → k ≤ high → f k ≡ h k) → (w : List Letter) → IsWordIn low high w
    → image f w ≡ image h w
image-same low high f h same [] p = refl
image-same low high f h same (a ∷ w) p =
    let q = All-head (IsIn low high) a w p in
    let e : f a.number ≡ h a.number = same a.number q.0 q.1 in
    ap (λ (x : List Letter). (if a.up then x else inverse x) ++ image f w) e
    ∙ ap (λ (y : List Letter). (if a.up then h a.number else inverse (h a.number)) ++ y)
    (image-same low high f h same w (All-tail (IsIn low high) a w p))

part_in : (low high : ℕ) (b : Bool) (x : List Letter) → IsWordIn low high x
    → IsWordIn low high (if b then x else inverse x)
part_in low high true x h = h
part_in low high false x h = IsWordIn-inverse low high x h

pub IsWordIn-image : (low high : ℕ) (f : ℕ → List Letter)
    → ((k : ℕ) → low ≤ k → k ≤ high → IsWordIn low high (f k)) → (w : List Letter)
    → IsWordIn low high w → IsWordIn low high (image f w)
IsWordIn-image low high f h [] p = All-nil (IsIn low high)
IsWordIn-image low high f h (a ∷ w) p =
    let q = All-head (IsIn low high) a w p in
    All-append (IsIn low high) (if a.up then f a.number else inverse (f a.number)) (image f w)
    (part_in low high a.up (f a.number) (h a.number q.0 q.1))
    (IsWordIn-image low high f h w (All-tail (IsIn low high) a w p))
