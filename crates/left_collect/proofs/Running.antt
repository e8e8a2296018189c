-- Words are collected one behind another, and what is collected keeps its measure: congruence,
-- length, the entries below and the magnitudes.
--   b r budgets · v vector · u w words · a letter · i level · m most
use Rattle.std.proofs.Common.{◌≡◌, ℕ, zero, suc, ◌≤◌, ◌<◌, ◌-◌, Bool, true, false, ℤ, pos, negsuc, ◌+ℤ◌, unsigned_abs, List, [], ◌∷◌, ◌++◌, length, take, replicate, Some, None, All, if◌then◌else◌, refl, sym, ◌∙◌, ap, subst, append_assoc, append-nil, arith}
use Rattle.std.proofs.lemmas.Int.{ints}
use Rattle.std.proofs.lemmas.Option.{none-some, some_pair_parts}
use Rattle.std.proofs.lemmas.List.{take-set-le, take-append-le, take-take, length-take-le}
use Rattle.std.proofs.lemmas.List.Elements.{All-append, All-set, All-take, All-replicate, All-weaker, All-get_or, All-head, All-tail}
use Rattle.nil_word.specs.declared.letter.Letter.{Letter}
use Rattle.nil_word.specs.Words.{ordered, IsIn, IsWordIn}
use Rattle.nil_word.specs.Exponents.{entry, signed}
use Rattle.nil_word.specs.Congruence.{Relations, IsAbove, Congruent}
use Rattle.nil_word.proofs.Congruences.{trans, back, after, same}
use Rattle.nil_word.proofs.Passing.{IsWordIn-from}
use Rattle.left_collect.specs.Conjugates.{commutes}
use Rattle.left_collect.specs.Collected.{behind, counted, cut, next, moved, collected}
use Rattle.left_collect.proofs.Parts.{length-counted, length-cut}
use Rattle.left_collect.proofs.Meaning.{appended, moved_in}

-- a word behind another goes on from where that ends
pub collected-append : (rels : Relations) (b : ℕ) (v : List ℤ) (u w : List Letter) (v' : List ℤ)
    (r : ℕ) → collected rels b v u ≡ Some (v', r)
    → collected rels b v (u ++ w) ≡ collected rels r v' w
collected-append rels b v [] w v' r h =
    let e = some_pair_parts v v' b r h in
    ap (λ (x : List ℤ). collected rels b x w) e.0 ∙ ap (λ (c : ℕ). collected rels c v' w) e.1
collected-append rels zero v (a ∷ u) w v' r h = absurd (none-some (v', r) h)
collected-append rels (suc b) v (a ∷ u) w v' r h =
    ap (collected rels b (next rels v a)) (sym (append_assoc (moved rels v a) u w))
    ∙ collected-append rels b (next rels v a) (moved rels v a ++ u) w v' r h

pub collected-append_none : (rels : Relations) (b : ℕ) (v : List ℤ) (u w : List Letter)
    → collected rels b v u ≡ None → collected rels b v (u ++ w) ≡ None
collected-append_none rels b v [] w h = absurd (none-some (v, b) (sym h))
collected-append_none rels zero v (a ∷ u) w h = refl
collected-append_none rels (suc b) v (a ∷ u) w h =
    ap (collected rels b (next rels v a)) (sym (append_assoc (moved rels v a) u w))
    ∙ collected-append_none rels b (next rels v a) (moved rels v a ++ u) w h

-- one more in magnitude
pub one_more : (b : Bool) (z : ℤ) (m : ℕ) → unsigned_abs z ≤ m
    → unsigned_abs (z +ℤ signed b (pos 1)) ≤ suc m
one_more true (pos n) m h = omega arith
one_more true (negsuc zero) m h = omega arith
one_more true (negsuc (suc n)) m h =
    let e : negsuc (suc n) +ℤ pos 1 ≡ negsuc n = omega (arith, ints) in
    subst (λ (x : ℤ). unsigned_abs x ≤ suc m) (sym e) (omega arith)
one_more false (pos zero) m h = omega arith
one_more false (pos (suc n)) m h =
    let e : pos (suc n) +ℤ negsuc 0 ≡ pos n = omega (arith, ints) in
    subst (λ (x : ℤ). unsigned_abs x ≤ suc m) (sym e) (omega arith)
one_more false (negsuc n) m h =
    let e : negsuc n +ℤ negsuc 0 ≡ negsuc (suc n) = omega (arith, ints) in
    subst (λ (x : ℤ). unsigned_abs x ≤ suc m) (sym e) (omega arith)

module _ (rels : Relations) (a : Letter) (v : List ℤ) (there : a.number ≤ length v) where
  next_case : (P : List ℤ → Type 0) → P (counted v a) → P (cut v a) → (b : Bool)
      → P (if b then counted v a else cut v a)
  next_case P p q true = p
  next_case P p q false = q

  next_is : (P : List ℤ → Type 0) → P (counted v a) → P (cut v a) → P (next rels v a)
  next_is P p q = next_case P p q (commutes rels a.number (behind v a.number))

  pub length-next : length (next rels v a) ≡ length v
  length-next =
      next_is (λ (x : List ℤ). length x ≡ length v) (length-counted v a) (length-cut v a there)

  take-counted : (m : ℕ) → m < a.number → take m (counted v a) ≡ take m v
  take-counted m h =
      take-set-le m v (a.number - 1) (entry v a.number +ℤ signed a.up (pos 1)) (omega arith)

  pub take-next : (m : ℕ) → m < a.number → take m (next rels v a) ≡ take m v
  take-next m h =
      next_is (λ (x : List ℤ). take m x ≡ take m v) (take-counted m h)
      (take-append-le m (take a.number (counted v a)) (replicate (length v - a.number) (pos 0))
      (omega (arith, length-take-le a.number (counted v a) (omega (arith, length-counted v a))))
      ∙ (take-take m a.number (counted v a) (omega arith) ∙ take-counted m h))

  pub counted_within : (m : ℕ) → 1 ≤ a.number → All (λ e. unsigned_abs e ≤ m) v
      → All (λ e. unsigned_abs e ≤ suc m) (counted v a)
  counted_within m positive h =
      let P : ℤ → Type 0 = λ e. unsigned_abs e ≤ suc m in
      let x : ℤ = entry v a.number +ℤ signed a.up (pos 1) in
      let at : P x =
      one_more a.up (entry v a.number) m
      (All-get_or (λ e. unsigned_abs e ≤ m) v (a.number - 1) (pos 0) (omega arith) h) in
      All-set P v (a.number - 1) x at
      (All-weaker (λ e. unsigned_abs e ≤ m) P (λ e le. omega arith) v h)

  pub cut_within : (m : ℕ) → 1 ≤ a.number → All (λ e. unsigned_abs e ≤ m) v
      → All (λ e. unsigned_abs e ≤ suc m) (cut v a)
  cut_within m positive h =
      let P : ℤ → Type 0 = λ e. unsigned_abs e ≤ suc m in
      All-append P (take a.number (counted v a)) (replicate (length v - a.number) (pos 0))
      (All-take P a.number (counted v a) (counted_within m positive h))
      (All-replicate P (length v - a.number) (pos 0) (omega arith))

  pub next_within : (m : ℕ) → 1 ≤ a.number → All (λ e. unsigned_abs e ≤ m) v
      → All (λ e. unsigned_abs e ≤ suc m) (next rels v a)
  next_within m positive h =
      next_is (All (λ e. unsigned_abs e ≤ suc m)) (counted_within m positive h)
      (cut_within m positive h)

-- what is kept by each letter is kept by a word of a level
module _ (rels : Relations) (lawful : IsAbove rels) (i : ℕ) (positive : 1 ≤ i) where
  pub record Keeps (b : ℕ) (v : List ℤ) (w : List Letter) (v' : List ℤ) (r : ℕ) : Type 0 where
    pub size : length v' ≡ rels.count
    pub below : take (i - 1) v' ≡ take (i - 1) v
    pub budget : r ≤ b
    pub within : (m : ℕ) → b ≤ m → All (λ e. unsigned_abs e ≤ m - b) v
        → All (λ e. unsigned_abs e ≤ m - r) v'
    pub congruent : Congruent rels i (ordered v') (ordered v ++ w)

  nothing_kept : (b : ℕ) (v : List ℤ) → length v ≡ rels.count → Keeps b v [] v b
  nothing_kept b v size = record {
    size = size;
    below = refl;
    budget = omega arith;
    within = λ m h all. all;
    congruent = same rels i (sym (append-nil (ordered v)));
  }

  one_kept : (b : ℕ) (v : List ℤ) (a : Letter) (w : List Letter) (v' : List ℤ) (r : ℕ)
      → length v ≡ rels.count → IsIn i rels.count a
      → Keeps b (next rels v a) (moved rels v a ++ w) v' r → Keeps (suc b) v (a ∷ w) v' r
  one_kept b v a w v' r size q k =
      let step : Congruent rels i (ordered v ++ a ∷ []) (ordered (next rels v a) ++ moved rels v a)
      = appended rels lawful i v size a (omega arith) q.0 q.1 in
      record {
        size = k.size;
        below = k.below ∙ take-next rels a v (omega arith) (i - 1) (omega arith);
        budget = omega (arith, k.budget);
        within = λ m h all. k.within m (omega arith)
            (All-weaker (λ e. unsigned_abs e ≤ suc (m - suc b)) (λ e. unsigned_abs e ≤ m - b)
            (λ e le. omega arith) (next rels v a)
            (next_within rels a v (omega arith) (m - suc b) (omega arith) all));
        congruent =
            trans rels i k.congruent
            (trans rels i
            (same rels i (sym (append_assoc (ordered (next rels v a)) (moved rels v a) w)))
            (trans rels i (after rels i w (back rels i step))
            (same rels i (append_assoc (ordered v) (a ∷ []) w))));
      }

  pub collected_keeps : (b : ℕ) (v : List ℤ) (w : List Letter) (v' : List ℤ) (r : ℕ)
      → length v ≡ rels.count → IsWordIn i rels.count w → collected rels b v w ≡ Some (v', r)
      → Keeps b v w v' r
  collected_keeps b v [] v' r size h c =
      let e = some_pair_parts v v' b r c in
      subst (λ (x : List ℤ). Keeps b v [] x r) e.0
      (subst (λ (n : ℕ). Keeps b v [] v n) e.1 (nothing_kept b v size))
  collected_keeps zero v (a ∷ w) v' r size h c = absurd (none-some (v', r) c)
  collected_keeps (suc b) v (a ∷ w) v' r size h c =
      let q = All-head (IsIn i rels.count) a w h in
      let inside : IsWordIn i rels.count (moved rels v a) =
      IsWordIn-from rels i (suc a.number) (moved rels v a) (omega arith)
      (moved_in rels lawful i v size a (omega arith) q.0 q.1) in
      one_kept b v a w v' r size q
      (collected_keeps b (next rels v a) (moved rels v a ++ w) v' r
      (length-next rels a v (omega arith) ∙ size)
      (All-append (IsIn i rels.count) (moved rels v a) w inside
      (All-tail (IsIn i rels.count) a w h)) c)
