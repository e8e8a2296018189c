-- A vector at a generator: its entries before, at and behind it, and its ordered word by these.
--   g k generators · e exponent · a letter · v tail vectors · low high bounds of generators
use Rattle.std.proofs.Common.{◌≡◌, ℕ, zero, suc, ◌≤◌, ◌+◌, ◌-◌, ℤ, pos, negsuc, ◌+ℤ◌, List, [], ◌∷◌, ◌++◌, length, take, drop, replicate, slice_set, refl, sym, ◌∙◌, ap, append_assoc, append-nil, arith}
use Rattle.std.proofs.lemmas.List.{set_split, set-get_or, take_more_set, length-set, length-take-le, length-drop, length-append, length-replicate}
use Rattle.std.proofs.lemmas.List.Elements.{All-nil, All-append, All-replicate}
use Rattle.nil_word.specs.declared.letter.Letter.{Letter}
use Rattle.nil_word.specs.Words.{up, down, power, ordered_from, ordered, IsIn, IsWordIn}
use Rattle.nil_word.specs.Exponents.{entry, signed}
use Rattle.left_collect.specs.Collected.{behind, counted, cut}

ordered_from-append : (u v : List ℤ) (k : ℕ)
    → ordered_from k (u ++ v) ≡ ordered_from k u ++ ordered_from (k + length u) v
ordered_from-append [] v k = ap (λ (j : ℕ). ordered_from j v) (omega arith)
ordered_from-append (e ∷ u) v k =
    ap (λ (w : List Letter). power k e ++ w) (ordered_from-append u v (suc k))
    ∙ (ap (λ (j : ℕ). power k e ++ (ordered_from (suc k) u ++ ordered_from j v)) (omega arith)
    ∙ sym (append_assoc (power k e) (ordered_from (suc k) u)
    (ordered_from (k + suc (length u)) v)))

pub ordered_from-zeros : (m k : ℕ) → ordered_from k (replicate m (pos 0)) ≡ []
ordered_from-zeros zero k = refl
ordered_from-zeros (suc m) k = ordered_from-zeros m (suc k)

pub power_in : (low high k : ℕ) (e : ℤ) → low ≤ k → k ≤ high → IsWordIn low high (power k e)
power_in low high k (pos n) a b = All-replicate (IsIn low high) n (up k) (a, b)
power_in low high k (negsuc n) a b = All-replicate (IsIn low high) (suc n) (down k) (a, b)

ordered_from_in : (low high : ℕ) (v : List ℤ) (k : ℕ) → low ≤ k → k + length v ≤ suc high
    → IsWordIn low high (ordered_from k v)
ordered_from_in low high [] k a b = All-nil (IsIn low high)
ordered_from_in low high (e ∷ v) k a b =
    All-append (IsIn low high) (power k e) (ordered_from (suc k) v)
    (power_in low high k e a (omega arith))
    (ordered_from_in low high v (suc k) (omega arith) (omega arith))

pub behind_in : (n : ℕ) (v : List ℤ) (g : ℕ) → length v ≡ n → g ≤ n
    → IsWordIn (suc g) n (behind v g)
behind_in n v g e h =
    ordered_from_in (suc g) n (drop g v) (suc g) (omega arith) (omega (arith, length-drop g v))

-- the letters before a generator
abbrev pub ahead : List ℤ → ℕ → List Letter
ahead v g = ordered_from 1 (take (g - 1) v)

module _ (v : List ℤ) (g : ℕ) (low : 1 ≤ g) (high : g ≤ length v) where
  split_at : (x : ℤ) → slice_set v (g - 1) x ≡ take (g - 1) v ++ x ∷ drop g v
  split_at x =
      let e : suc (g - 1) ≡ g = omega arith in
      set_split v (g - 1) x (omega arith) ∙ ap (λ (j : ℕ). take (g - 1) v ++ x ∷ drop j v) e

  ordered_at : (x : ℤ) (tail : List ℤ) → ordered (take (g - 1) v ++ x ∷ tail)
      ≡ ahead v g ++ (power g x ++ ordered_from (suc g) tail)
  ordered_at x tail =
      let place : 1 + length (take (g - 1) v) ≡ g =
      omega (arith, length-take-le (g - 1) v (omega arith)) in
      ordered_from-append (take (g - 1) v) (x ∷ tail) 1
      ∙ ap (λ (j : ℕ). ahead v g ++ (power j x ++ ordered_from (suc j) tail)) place

  pub ordered-parts : ordered v ≡ ahead v g ++ (power g (entry v g) ++ behind v g)
  ordered-parts =
      ap ordered (sym (set-get_or v (g - 1) (pos 0)) ∙ split_at (entry v g))
      ∙ ordered_at (entry v g) (drop g v)

  pub ordered-set : (x : ℤ) → ordered (slice_set v (g - 1) x)
      ≡ ahead v g ++ (power g x ++ behind v g)
  ordered-set x = ap ordered (split_at x) ∙ ordered_at x (drop g v)

  pub ordered-cut : (x : ℤ) (m : ℕ)
      → ordered (take g (slice_set v (g - 1) x) ++ replicate m (pos 0))
      ≡ ahead v g ++ power g x
  ordered-cut x m =
      let first : take g (slice_set v (g - 1) x) ≡ take (g - 1) v ++ x ∷ [] =
      ap (λ (j : ℕ). take j (slice_set v (g - 1) x)) (omega arith)
      ∙ take_more_set v (g - 1) x (omega arith) in
      ap (λ (u : List ℤ). ordered (u ++ replicate m (pos 0))) first
      ∙ (ap ordered (append_assoc (take (g - 1) v) (x ∷ []) (replicate m (pos 0)))
      ∙ (ordered_at x (replicate m (pos 0))
      ∙ ap (λ (w : List Letter). ahead v g ++ w)
      (ap (λ (w : List Letter). power g x ++ w) (ordered_from-zeros m (suc g))
      ∙ append-nil (power g x))))

pub length-counted : (v : List ℤ) (a : Letter) → length (counted v a) ≡ length v
length-counted v a =
    length-set v (a.number - 1) (entry v a.number +ℤ signed a.up (pos 1))

pub length-cut : (v : List ℤ) (a : Letter) → a.number ≤ length v → length (cut v a) ≡ length v
length-cut v a h =
    let same = length-counted v a in
    let front = length-take-le a.number (counted v a) (omega (arith, same)) in
    let m : ℕ = length v - a.number in
    let zeros = length-replicate m (pos 0) in
    let both = length-append (take a.number (counted v a)) (replicate m (pos 0)) in
    omega (arith, same, front, zeros, both)
