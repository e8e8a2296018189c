-- The central law: a word of higher generators goes past a letter as its image.
--   a letter of generator g · k l generators · u w words
use Rattle.std.proofs.Common.{◌≡◌, ℕ, zero, suc, ◌≤◌, ◌<◌, ◌+◌, Bool, true, false, List, [], ◌∷◌, ◌++◌, if◌then◌else◌, refl, sym, ap, subst, append_assoc, append-nil, arith}
use Rattle.std.proofs.lemmas.List.Elements.{All-nil, All-cons, All-head, All-tail}
use Rattle.nil_word.specs.declared.letter.Letter.{Letter}
use Rattle.nil_word.specs.Words.{up, down, inverse, IsIn, IsWordIn}
use Rattle.nil_word.specs.Congruence.{Relations, IsAbove, moves, Congruent, here}
use Rattle.nil_word.proofs.Congruences.{trans, back, before, after, same, related, cancels_after, cancels_before}
use Rattle.nil_word.proofs.Passing.{Passes, passes_both, passes_inverse, IsWordIn-from}
use Rattle.left_collect.specs.Conjugates.{image, conjugated}
use Rattle.left_collect.proofs.Images.{IsWordIn-image}
use Rattle.left_collect.proofs.Conjugating.{right_in, conjugated-down, conjugated_in}

alone : (level high k : ℕ) → level ≤ k → k ≤ high → IsWordIn level high (up k ∷ [])
alone level high k a b = All-cons (IsIn level high) (up k) [] (a, b) (All-nil (IsIn level high))

module _ (rels : Relations) (g : ℕ) (there : g ≤ rels.count) where
  in_level : (x : Letter) → g ≡ x.number → IsWordIn g rels.count (x ∷ [])
  in_level x e = All-cons (IsIn g rels.count) x [] (omega arith, omega arith)
      (All-nil (IsIn g rels.count))

  -- u a_g ~ a_g w gives w a_g^-1 ~ a_g^-1 u
  passes_back : (u w : List Letter) → Passes rels g (up g) u w → Passes rels g (down g) w u
  passes_back u w p =
      let first : Congruent rels g (w ++ down g ∷ []) (down g ∷ ((up g ∷ w) ++ down g ∷ [])) =
      after rels g (w ++ down g ∷ [])
      (back rels g (cancels_before rels g (up g ∷ []) (in_level (up g) refl))) in
      let second : Congruent rels g (down g ∷ ((up g ∷ w) ++ down g ∷ []))
      (down g ∷ ((u ++ up g ∷ []) ++ down g ∷ [])) =
      before rels g (down g ∷ []) (after rels g (down g ∷ []) (back rels g p)) in
      let e : down g ∷ ((u ++ up g ∷ []) ++ down g ∷ []) ≡ (down g ∷ u)
      ++ (up g ∷ down g ∷ []) =
      ap (λ (x : List Letter). down g ∷ x) (append_assoc u (up g ∷ []) (down g ∷ [])) in
      let third : Congruent rels g ((down g ∷ u) ++ (up g ∷ down g ∷ [])) ((down g ∷ u) ++ []) =
      before rels g (down g ∷ u) (cancels_after rels g (up g ∷ []) (in_level (up g) refl)) in
      trans rels g first
      (trans rels g second
      (trans rels g (same rels g e)
      (trans rels g third (same rels g (append-nil (down g ∷ u))))))

  -- a word goes past where its generators do
  word_passes : (low : ℕ) → g ≤ low → (s : Letter) (f : ℕ → List Letter)
      → ((k : ℕ) → low ≤ k → k ≤ rels.count → IsWordIn g rels.count (f k))
      → ((k : ℕ) → low ≤ k → k ≤ rels.count → Passes rels g s (up k ∷ []) (f k))
      → (w : List Letter) → IsWordIn low rels.count w → Passes rels g s w (image f w)
  word_passes low above s f inside pass [] h = here
  word_passes low above s f inside pass (x ∷ w) h =
      let q = All-head (IsIn low rels.count) x w h in
      let p = pass x.number q.0 q.1 in
      let one : Passes rels g s (x ∷ [])
      (if x.up then f x.number else inverse (f x.number)) =
      elim x.up as (λ (b : Bool). let y : Letter = record { number = x.number; up = b } in
      Passes rels g s (y ∷ []) (if b then f x.number else inverse (f x.number))) [
        | true ↦ p
        | false ↦
            passes_inverse rels g s (up x.number ∷ []) (f x.number)
            (alone g rels.count x.number (omega arith) q.1) (inside x.number q.0 q.1) p
      ] in
      passes_both rels g s (x ∷ []) (if x.up then f x.number else inverse (f x.number)) w
      (image f w) one
      (word_passes low above s f inside pass w (All-tail (IsIn low rels.count) x w h))

module _ (rels : Relations) (lawful : IsAbove rels) (g : ℕ) (positive : 1 ≤ g)
    (there : g ≤ rels.count) where
  inside : (a : Letter) → a.number ≡ g → (low k : ℕ) → g < low → low ≤ k → k ≤ rels.count
      → IsWordIn g rels.count (conjugated rels a k)
  inside a e low k above p q = IsWordIn-from rels g k (conjugated rels a k) (omega arith)
      (conjugated_in rels lawful a k (omega arith) (omega arith) q)

  up_passes : (k : ℕ) → g < k → k ≤ rels.count
      → Passes rels g (up g) (up k ∷ []) (conjugated rels (up g) k)
  up_passes k a b = related rels g (moves g k (omega arith) a b)

  -- a_k w goes past the inverse of a_g as a_k, and w as its image
  down_step : (k : ℕ) → g < k → k ≤ rels.count
      → ((l : ℕ) → suc k ≤ l → l ≤ rels.count
      → Passes rels g (down g) (up l ∷ []) (conjugated rels (down g) l))
      → Passes rels g (down g) (up k ∷ []) (conjugated rels (down g) k)
  down_step k a b higher =
      let w : List Letter = rels.right g k in
      let c : ℕ → List Letter = conjugated rels (down g) in
      let h : IsWordIn (suc k) rels.count w = right_in rels lawful g positive k a b in
      let w_in : IsWordIn g rels.count w = IsWordIn-from rels g (suc k) w (omega arith) h in
      let image_in : IsWordIn g rels.count (image c w) =
      IsWordIn-from rels g (suc k) (image c w) (omega arith)
      (IsWordIn-image (suc k) rels.count c (λ l p q. IsWordIn-from rels (suc k) l (c l) p
      (conjugated_in rels lawful (down g) l positive (omega arith) q)) w h) in
      let inner : Passes rels g (down g) (inverse w) (inverse (image c w)) =
      passes_inverse rels g (down g) w (image c w) w_in image_in
      (word_passes rels g there (suc k) (omega arith) (down g) c
      (λ l p q. inside (down g) refl (suc k) l (omega arith) p q) higher w h) in
      let outer : Passes rels g (down g) (up k ∷ w) (up k ∷ []) =
      passes_back rels g there (up k ∷ []) (up k ∷ w) (up_passes k a b) in
      let both : Passes rels g (down g) ((up k ∷ w) ++ inverse w)
      (up k ∷ inverse (image c w)) =
      passes_both rels g (down g) (up k ∷ w) (up k ∷ []) (inverse w) (inverse (image c w)) outer
      inner in
      let grown : Congruent rels g (up k ∷ []) ((up k ∷ w) ++ inverse w) =
      before rels g (up k ∷ []) (back rels g (cancels_after rels g w w_in)) in
      subst (λ (x : List Letter). Passes rels g (down g) (up k ∷ []) x)
      (sym (conjugated-down rels lawful g positive k a b))
      (trans rels g (after rels g (down g ∷ []) grown) both)

  down_passes : (d k : ℕ) → rels.count ≤ k + d → g < k → k ≤ rels.count
      → Passes rels g (down g) (up k ∷ []) (conjugated rels (down g) k)
  down_passes zero k e a b = down_step k a b (λ l p q. absurd (omega arith))
  down_passes (suc d) k e a b =
      down_step k a b (λ l p q. down_passes d l (omega arith) (omega arith) q)

-- the word `conjugated` is what a_k becomes
pub generator_passes : (rels : Relations) → IsAbove rels → (a : Letter) (k : ℕ) → 1 ≤ a.number
    → a.number < k → k ≤ rels.count
    → Passes rels a.number a (up k ∷ []) (conjugated rels a k)
generator_passes rels lawful a k positive p q =
    elim a.up as (λ (b : Bool). let x : Letter = record { number = a.number; up = b } in
    Passes rels a.number x (up k ∷ []) (conjugated rels x k)) [
      | true ↦ up_passes rels lawful a.number positive (omega arith) k p q
      | false ↦ down_passes rels lawful a.number positive (omega arith) rels.count k
          (omega arith) p q
    ]

pub image_passes : (rels : Relations) → IsAbove rels → (a : Letter) → 1 ≤ a.number
    → a.number ≤ rels.count → (w : List Letter) → IsWordIn (suc a.number) rels.count w
    → Passes rels a.number a w (image (conjugated rels a) w)
image_passes rels lawful a positive there w h =
    word_passes rels a.number there (suc a.number) (omega arith) a (conjugated rels a)
    (λ k p q. inside rels lawful a.number positive there a refl (suc a.number) k (omega arith) p q)
    (λ k p q. generator_passes rels lawful a k positive p q) w h
