-- The letters of a vector from a generator on, one generator after another.
--   k g generators · v vector · c words for generators
use Rattle.std.proofs.Common.{◌≡◌, ℕ, zero, suc, ◌≤◌, ◌<◌, ◌+◌, ◌-◌, ◌⊎◌, Bool, true, false, ◌&&◌, ℤ, pos, negsuc, List, [], ◌∷◌, ◌++◌, length, take, drop, replicate, slice_set, refl, sym, ◌∙◌, ap, inl, inr, append_assoc, append-nil, arith}
use Rattle.std.proofs.lemmas.List.{drop_more, drop_all, set_at, length-append, length-take-le, length-replicate}
use Rattle.std.proofs.lemmas.List.Folds.{list_all-append}
use Rattle.nil_word.specs.declared.letter.Letter.{Letter}
use Rattle.nil_word.specs.Words.{up, down, power, ordered_from}
use Rattle.nil_word.specs.Expressions.{raised}
use Rattle.nil_word.specs.Exponents.{entry}
use Rattle.nil_word.specs.Congruence.{Relations}
use Rattle.left_collect.specs.Conjugates.{image, is_empty, commutes}
use Rattle.left_collect.specs.Collected.{behind}
use Rattle.left_collect.proofs.Images.{image-append, image-power}

abbrev pub onward : List ℤ → ℕ → List Letter
onward v k = ordered_from k (drop (k - 1) v)

pub onward_first : (v : List ℤ) (g : ℕ) → onward v (g + 1) ≡ behind v g
onward_first v g =
    let e : g + 1 ≡ suc g = omega arith in
    let d : g + 1 - 1 ≡ g = omega arith in
    ap (λ (j : ℕ). ordered_from (g + 1) (drop j v)) d
    ∙ ap (λ (j : ℕ). ordered_from j (drop g v)) e

pub onward_more : (v : List ℤ) (k : ℕ) → 1 ≤ k → k ≤ length v
    → onward v k ≡ power k (entry v k) ++ onward v (k + 1)
onward_more v k low high =
    let e : k - 1 + 1 ≡ k = omega arith in
    let d : k + 1 - 1 ≡ k = omega arith in
    let f : k + 1 ≡ suc k = omega arith in
    ap (ordered_from k) (drop_more v (k - 1) (pos 0) (omega arith))
    ∙ (ap (λ (j : ℕ). power k (entry v k) ++ ordered_from (suc k) (drop j v)) (e ∙ sym d)
    ∙ ap (λ (j : ℕ). power k (entry v k) ++ ordered_from j (drop (k + 1 - 1) v)) (sym f))

pub onward_end : (v : List ℤ) (k : ℕ) → length v < k → onward v k ≡ []
onward_end v k h = ap (ordered_from k) (drop_all (k - 1) v (omega arith))

pub image-onward : (c : ℕ → List Letter) (v : List ℤ) (k : ℕ) → 1 ≤ k → k ≤ length v
    → image c (onward v k) ≡ raised (c k) (entry v k) ++ image c (onward v (k + 1))
image-onward c v k low high =
    ap (image c) (onward_more v k low high)
    ∙ (image-append c (power k (entry v k)) (onward v (k + 1))
    ∙ ap (λ (w : List Letter). w ++ image c (onward v (k + 1)))
    (image-power c k (entry v k)))

-- whether a generator commutes with a power of another
module _ (rels : Relations) (g k : ℕ) where
  all_commute : (n : ℕ) (b : Bool) → is_empty (rels.right g k) ≡ true
      → let x : Letter = record { number = k; up = b } in commutes rels g (replicate n x) ≡ true
  all_commute zero b h = refl
  all_commute (suc n) b h =
      let x : Letter = record { number = k; up = b } in
      ap (λ (t : Bool). t && commutes rels g (replicate n x)) h ∙ all_commute n b h

  power_commutes : (e : ℤ) → (e ≡ pos 0) ⊎ (is_empty (rels.right g k) ≡ true)
      → commutes rels g (power k e) ≡ true
  power_commutes e (inl z) = ap (λ (x : ℤ). commutes rels g (power k x)) z
  power_commutes (pos n) (inr h) = all_commute n true h
  power_commutes (negsuc n) (inr h) = all_commute (suc n) false h

  power_stops : (e : ℤ) → (e ≡ pos 0 → ⊥) → is_empty (rels.right g k) ≡ false
      → commutes rels g (power k e) ≡ false
  power_stops (pos zero) h s = absurd (h refl)
  power_stops (pos (suc n)) h s =
      ap (λ (t : Bool). t && commutes rels g (replicate n (up k))) s
  power_stops (negsuc n) h s =
      ap (λ (t : Bool). t && commutes rels g (replicate n (down k))) s

  pub commutes_more : (v : List ℤ) → 1 ≤ k → k ≤ length v
      → (entry v k ≡ pos 0) ⊎ (is_empty (rels.right g k) ≡ true)
      → commutes rels g (onward v k) ≡ commutes rels g (onward v (k + 1))
  commutes_more v low high h =
      ap (commutes rels g) (onward_more v k low high)
      ∙ (list_all-append (λ (a : Letter). is_empty (rels.right g a.number))
      (power k (entry v k)) (onward v (k + 1))
      ∙ ap (λ (t : Bool). t && commutes rels g (onward v (k + 1)))
      (power_commutes (entry v k) h))

  pub commutes_stops : (v : List ℤ) → 1 ≤ k → k ≤ length v → (entry v k ≡ pos 0 → ⊥)
      → is_empty (rels.right g k) ≡ false → commutes rels g (onward v k) ≡ false
  commutes_stops v low high h s =
      ap (commutes rels g) (onward_more v k low high)
      ∙ (list_all-append (λ (a : Letter). is_empty (rels.right g a.number))
      (power k (entry v k)) (onward v (k + 1))
      ∙ ap (λ (t : Bool). t && commutes rels g (onward v (k + 1)))
      (power_stops (entry v k) h s))

-- the entries behind a generator are set to 0 one after another
abbrev pub cleared : List ℤ → ℕ → ℕ → List ℤ
cleared v g k = (take g v ++ replicate (k - 1 - g) (pos 0)) ++ drop (k - 1) v

zeros-last : (m : ℕ) → replicate m (pos 0) ++ pos 0 ∷ [] ≡ replicate (suc m) (pos 0)
zeros-last zero = refl
zeros-last (suc m) = ap (λ (u : List ℤ). pos 0 ∷ u) (zeros-last m)

pub cleared_first : (v : List ℤ) (g : ℕ) → cleared v g (g + 1) ≡ take g v ++ drop g v
cleared_first v g =
    let d : g + 1 - 1 ≡ g = omega arith in
    let z : g - g ≡ 0 = omega arith in
    ap (λ (j : ℕ). (take g v ++ replicate (j - g) (pos 0)) ++ drop j v) d
    ∙ (ap (λ (j : ℕ). (take g v ++ replicate j (pos 0)) ++ drop g v) z
    ∙ ap (λ (u : List ℤ). u ++ drop g v) (append-nil (take g v)))

pub cleared_more : (v : List ℤ) (g k : ℕ) → g < k → k ≤ length v
    → slice_set (cleared v g k) (k - 1) (pos 0) ≡ cleared v g (k + 1)
cleared_more v g k low high =
    let p : List ℤ = take g v ++ replicate (k - 1 - g) (pos 0) in
    let front = length-take-le g v (omega arith) in
    let zeros = length-replicate (k - 1 - g) (pos 0) in
    let both = length-append (take g v) (replicate (k - 1 - g) (pos 0)) in
    let size : length p ≡ k - 1 = omega (arith, both, front, zeros) in
    let e : k - 1 + 1 ≡ k + 1 - 1 = omega arith in
    let f : suc (k - 1 - g) ≡ k + 1 - 1 - g = omega arith in
    ap (λ (u : List ℤ). slice_set (p ++ u) (k - 1) (pos 0))
    (drop_more v (k - 1) (pos 0) (omega arith))
    ∙ (set_at p (entry v k) (drop (k - 1 + 1) v) (pos 0) (k - 1) size
    ∙ (ap (λ (j : ℕ). p ++ pos 0 ∷ drop j v) e
    ∙ (sym (append_assoc p (pos 0 ∷ []) (drop (k + 1 - 1) v))
    ∙ ap (λ (u : List ℤ). u ++ drop (k + 1 - 1) v)
    (append_assoc (take g v) (replicate (k - 1 - g) (pos 0)) (pos 0 ∷ [])
    ∙ ap (λ (u : List ℤ). take g v ++ u)
    (zeros-last (k - 1 - g) ∙ ap (λ (m : ℕ). replicate m (pos 0)) f)))))

pub cleared_end : (v : List ℤ) (g k : ℕ) → length v + 1 ≡ k
    → cleared v g k ≡ take g v ++ replicate (length v - g) (pos 0)
cleared_end v g k h =
    let e : k - 1 ≡ length v = omega arith in
    ap (λ (j : ℕ). (take g v ++ replicate (j - g) (pos 0)) ++ drop j v) e
    ∙ (ap (λ (u : List ℤ). (take g v ++ replicate (length v - g) (pos 0)) ++ u)
    (drop_all (length v) v (omega arith))
    ∙ append-nil (take g v ++ replicate (length v - g) (pos 0)))
