-- An appended letter keeps congruence: the ordered word of a vector followed by a letter is
-- congruent to that of the next vector followed by the word that is moved.
--   i level · g k generators · a x letters · e exponent · v vector · w word
use Rattle.std.proofs.Common.{◌≡◌, ℕ, zero, suc, ◌≤◌, ◌<◌, ◌-◌, Bool, true, false, ℤ, pos, negsuc, ◌+ℤ◌, List, [], ◌∷◌, ◌++◌, length, replicate, if◌then◌else◌, refl, sym, ◌∙◌, ap, append_assoc, append-nil, arith}
use Rattle.std.proofs.lemmas.Int.{ints}
use Rattle.std.proofs.lemmas.Bool.{and_parts}
use Rattle.std.proofs.lemmas.List.Elements.{All-nil, All-cons, All-head, All-tail}
use Rattle.nil_word.specs.declared.letter.Letter.{Letter}
use Rattle.nil_word.specs.Words.{up, down, opposite, inverse, power, ordered, IsIn, IsWordIn}
use Rattle.nil_word.specs.Exponents.{entry, signed}
use Rattle.nil_word.specs.Congruence.{Relations, IsAbove, Congruent, here}
use Rattle.nil_word.proofs.Congruences.{trans, before, after, same, lower, cancels_after}
use Rattle.nil_word.proofs.Passing.{IsWordIn-from}
use Rattle.left_collect.specs.Conjugates.{image, conjugated, is_empty, commutes}
use Rattle.left_collect.specs.Collected.{behind, counted, cut, next, moved}
use Rattle.left_collect.proofs.Images.{IsWordIn-image}
use Rattle.left_collect.proofs.Conjugating.{conjugated-down, conjugated_in}
use Rattle.left_collect.proofs.Passing.{image_passes}
use Rattle.left_collect.proofs.Parts.{ahead, behind_in, ordered-parts, ordered-set, ordered-cut}

replicate-last : (n : ℕ) (x : Letter) → replicate n x ++ x ∷ [] ≡ replicate (suc n) x
replicate-last zero x = refl
replicate-last (suc n) x = ap (λ (w : List Letter). x ∷ w) (replicate-last n x)

module _ (rels : Relations) (i : ℕ) where
  cancels_last : (x : Letter) → IsIn i rels.count x → (n : ℕ)
      → Congruent rels i (replicate (suc n) x ++ opposite x ∷ []) (replicate n x)
  cancels_last x h n =
      let pair : Congruent rels i (x ∷ opposite x ∷ []) [] =
      cancels_after rels i (x ∷ [])
      (All-cons (IsIn i rels.count) x [] h (All-nil (IsIn i rels.count))) in
      let e : replicate (suc n) x ++ opposite x ∷ []
      ≡ replicate n x ++ (x ∷ opposite x ∷ []) =
      ap (λ (w : List Letter). w ++ opposite x ∷ []) (sym (replicate-last n x))
      ∙ append_assoc (replicate n x) (x ∷ []) (opposite x ∷ []) in
      trans rels i (same rels i e)
      (trans rels i (before rels i (replicate n x) pair)
      (same rels i (append-nil (replicate n x))))

  power_up : (g : ℕ) → i ≤ g → g ≤ rels.count → (e : ℤ)
      → Congruent rels i (power g e ++ up g ∷ []) (power g (e +ℤ pos 1))
  power_up g a b (pos n) =
      let e : pos (suc n) ≡ pos n +ℤ pos 1 = omega (arith, ints) in
      same rels i (replicate-last n (up g) ∙ ap (power g) e)
  power_up g a b (negsuc zero) = cancels_last (down g) (a, b) 0
  power_up g a b (negsuc (suc n)) =
      let e : negsuc n ≡ negsuc (suc n) +ℤ pos 1 = omega (arith, ints) in
      trans rels i (cancels_last (down g) (a, b) (suc n)) (same rels i (ap (power g) e))

  power_down : (g : ℕ) → i ≤ g → g ≤ rels.count → (e : ℤ)
      → Congruent rels i (power g e ++ down g ∷ []) (power g (e +ℤ negsuc 0))
  power_down g a b (pos zero) = here
  power_down g a b (pos (suc n)) =
      let e : pos n ≡ pos (suc n) +ℤ negsuc 0 = omega (arith, ints) in
      trans rels i (cancels_last (up g) (a, b) n) (same rels i (ap (power g) e))
  power_down g a b (negsuc n) =
      let e : negsuc (suc n) ≡ negsuc n +ℤ negsuc 0 = omega (arith, ints) in
      same rels i (replicate-last (suc n) (down g) ∙ ap (power g) e)

  power_letter : (a : Letter) → i ≤ a.number → a.number ≤ rels.count → (e : ℤ)
      → Congruent rels i (power a.number e ++ a ∷ [])
      (power a.number (e +ℤ signed a.up (pos 1)))
  power_letter a p q e =
      elim a.up as (λ (b : Bool). let x : Letter = record { number = a.number; up = b } in
      Congruent rels i (power a.number e ++ x ∷ []) (power a.number (e +ℤ signed b (pos 1)))) [
        | true ↦ power_up a.number p q e
        | false ↦ power_down a.number p q e
      ]

-- a word whose letters commute is its image
empty_is : (w : List Letter) → is_empty w ≡ true → w ≡ []
empty_is [] h = refl
empty_is (x ∷ w) h = absurd (cc)

module _ (rels : Relations) (lawful : IsAbove rels) (a : Letter) (positive : 1 ≤ a.number) where
  conjugated-itself : (k : ℕ) → a.number < k → k ≤ rels.count
      → is_empty (rels.right a.number k) ≡ true → conjugated rels a k ≡ up k ∷ []
  conjugated-itself k p q h =
      let e : rels.right a.number k ≡ [] = empty_is (rels.right a.number k) h in
      elim a.up as (λ (b : Bool). let x : Letter = record { number = a.number; up = b } in
      conjugated rels x k ≡ up k ∷ []) [
        | true ↦ ap (λ (w : List Letter). up k ∷ w) e
        | false ↦
            conjugated-down rels lawful a.number positive k p q
            ∙ ap (λ (w : List Letter).
            up k ∷ inverse (image (conjugated rels (down a.number)) w)) e
      ]

  image-commuting : (w : List Letter) → IsWordIn (suc a.number) rels.count w
      → commutes rels a.number w ≡ true → image (conjugated rels a) w ≡ w
  image-commuting [] h c = refl
  image-commuting (x ∷ w) h c =
      let q = All-head (IsIn (suc a.number) rels.count) x w h in
      let both = and_parts (is_empty (rels.right a.number x.number))
      (commutes rels a.number w) c in
      let e : conjugated rels a x.number ≡ up x.number ∷ [] =
      conjugated-itself x.number (omega arith) q.1 both.0 in
      let rest : image (conjugated rels a) w ≡ w =
      image-commuting w (All-tail (IsIn (suc a.number) rels.count) x w h) both.1 in
      ap (λ (u : List Letter). (if x.up then u else inverse u) ++ image (conjugated rels a) w) e
      ∙ (ap (λ (u : List Letter).
      (if x.up then up x.number ∷ [] else inverse (up x.number ∷ [])) ++ u) rest
      ∙ elim x.up as (λ (b : Bool). let y : Letter = record { number = x.number; up = b } in
      (if b then up x.number ∷ [] else inverse (up x.number ∷ [])) ++ w ≡ y ∷ w) [
        | true ↦ refl
        | false ↦ refl
      ])

module _ (rels : Relations) (lawful : IsAbove rels) (i : ℕ) (v : List ℤ)
    (size : length v ≡ rels.count) (a : Letter) (positive : 1 ≤ a.number) (above : i ≤ a.number)
    (there : a.number ≤ rels.count) where
  pushed : List Letter
  pushed = image (conjugated rels a) (behind v a.number)

  behind_is_in : IsWordIn (suc a.number) rels.count (behind v a.number)
  behind_is_in = behind_in rels.count v a.number size there

  -- the letter goes past the letters behind its generator and joins the power of it
  joins : Congruent rels i (ordered v ++ a ∷ []) (ahead v a.number
      ++ (power a.number (entry v a.number +ℤ signed a.up (pos 1)) ++ pushed))
  unfolding pushed
  joins =
      let g = a.number in
      let f : List Letter = ahead v g in
      let p : List Letter = power g (entry v g) in
      let t : List Letter = behind v g in
      let start : ordered v ++ a ∷ [] ≡ (f ++ p) ++ (t ++ a ∷ []) =
      ap (λ (w : List Letter). w ++ a ∷ []) (ordered-parts v g positive (omega arith))
      ∙ simp append_assoc in
      let passing : Congruent rels i ((f ++ p) ++ (t ++ a ∷ [])) ((f ++ p) ++ (a ∷ pushed)) =
      before rels i (f ++ p) (lower rels i g above
      (image_passes rels lawful a positive there t behind_is_in)) in
      let turned : (f ++ p) ++ (a ∷ pushed) ≡ f ++ ((p ++ a ∷ []) ++ pushed) =
      simp append_assoc in
      let joined : Congruent rels i (f ++ ((p ++ a ∷ []) ++ pushed))
      (f ++ (power g (entry v g +ℤ signed a.up (pos 1)) ++ pushed)) =
      before rels i f (after rels i pushed (power_letter rels i a above there (entry v g))) in
      trans rels i (same rels i start)
      (trans rels i passing (trans rels i (same rels i turned) joined))

  appended_case : (b : Bool) → commutes rels a.number (behind v a.number) ≡ b
      → Congruent rels i (ordered v ++ a ∷ [])
      (ordered (if b then counted v a else cut v a) ++ (if b then [] else pushed))
  unfolding pushed
  appended_case true e =
      let x : ℤ = entry v a.number +ℤ signed a.up (pos 1) in
      let still : pushed ≡ behind v a.number =
      image-commuting rels lawful a positive (behind v a.number) behind_is_in e in
      trans rels i joins
      (same rels i (ap (λ (w : List Letter). ahead v a.number ++ (power a.number x ++ w)) still
      ∙ (sym (ordered-set v a.number positive (omega arith) x)
      ∙ sym (append-nil (ordered (counted v a))))))
  appended_case false e =
      let x : ℤ = entry v a.number +ℤ signed a.up (pos 1) in
      trans rels i joins
      (same rels i (sym (append_assoc (ahead v a.number) (power a.number x) pushed)
      ∙ ap (λ (w : List Letter). w ++ pushed)
      (sym (ordered-cut v a.number positive (omega arith) x (length v - a.number)))))

  pub appended : Congruent rels i (ordered v ++ a ∷ []) (ordered (next rels v a) ++ moved rels v a)
  unfolding pushed
  appended = appended_case (commutes rels a.number (behind v a.number)) refl

  moved_case : (b : Bool) → IsWordIn (suc a.number) rels.count (if b then [] else pushed)
  unfolding pushed
  moved_case true = All-nil (IsIn (suc a.number) rels.count)
  moved_case false =
      IsWordIn-image (suc a.number) rels.count (conjugated rels a)
      (λ k p q. IsWordIn-from rels (suc a.number) k (conjugated rels a k) p
      (conjugated_in rels lawful a k positive (omega arith) q)) (behind v a.number) behind_is_in

  pub moved_in : IsWordIn (suc a.number) rels.count (moved rels v a)
  unfolding pushed
  moved_in = moved_case (commutes rels a.number (behind v a.number))
