-- What the public calls say of a collected letter and of a collected word.
--   p presentation · i level · a letter · v u vectors · w word · b r budgets
use Rattle.std.proofs.Common.{◌≡◌, ℕ, zero, suc, ◌≤◌, ◌<◌, ◌-◌, ◌^◌, ℤ, pos, List, [], ◌∷◌, ◌++◌, length, take, replicate, slice_get, Option, Some, None, option_map, IfSome, refl, sym, ◌∙◌, ap, subst, arith}
use Rattle.std.proofs.lemmas.List.{length-replicate, get_or-replicate}
use Rattle.std.proofs.lemmas.Option.{slice_get-get_or}
use Rattle.std.proofs.lemmas.List.Elements.{All-nil, All-cons}
use Rattle.nil_word.specs.declared.letter.Letter.{Letter}
use Rattle.nil_word.specs.Words.{ordered, IsIn, IsWordIn, IsVector}
use Rattle.nil_word.specs.Congruence.{Congruent}
use Rattle.nil_pres.specs.Presented.{Presented, IsPresented}
use Rattle.nil_pres.specs.Relations.{relations_of}
use Rattle.left_collect.specs.Collected.{collected, collection}
use Rattle.left_collect.proofs.Parts.{ordered_from-zeros}
use Rattle.left_collect.proofs.Running.{collected_keeps}
use Rattle.left_collect.proofs.Syllables.{above_pairs}

pub letter_kept : (p : Presented) → IsPresented p → (i : ℕ) → 1 ≤ i → (b : ℕ) (v u : List ℤ)
    (a : Letter) (v' : List ℤ) (r : ℕ) → u ≡ v → length v ≡ length p.names → i ≤ a.number
    → a.number ≤ length p.names → collected (relations_of p) b u (a ∷ []) ≡ Some (v', r)
    → (take (i - 1) v' ≡ take (i - 1) v)
    × Congruent (relations_of p) i (ordered v') (ordered v ++ a ∷ [])
letter_kept p h i low b v u a v' r e size above there c =
    let k = collected_keeps (relations_of p) (above_pairs p h) i low b v (a ∷ []) v' r size
    (All-cons (IsIn i (length p.names)) a [] (above, there) (All-nil (IsIn i (length p.names))))
    (ap (λ (x : List ℤ). collected (relations_of p) b x (a ∷ [])) (sym e) ∙ c) in
    (k.below, k.congruent)

slice_get-take : (m : ℕ) (v : List ℤ) (j : ℕ) → j < m → slice_get (take m v) j ≡ slice_get v j
slice_get-take zero v j h = absurd (omega arith)
slice_get-take (suc m) [] j h = refl
slice_get-take (suc m) (x ∷ v) zero h = refl
slice_get-take (suc m) (x ∷ v) (suc j) h = slice_get-take m v j (omega arith)

slice_get-zeros : (n j : ℕ) → j < n → slice_get (replicate n (pos 0)) j ≡ Some (pos 0)
slice_get-zeros n j h =
    slice_get-get_or (replicate n (pos 0)) j (pos 0) (omega (arith, length-replicate n (pos 0)))
    ∙ ap Some (get_or-replicate n j (pos 0) (pos 0) h)

pub word_kept : (p : Presented) → IsPresented p → (i : ℕ) → 1 ≤ i → i ≤ length p.names → (b : ℕ)
    (w : List Letter) (v : List ℤ) (r : ℕ) → IsWordIn i (length p.names) w
    → collected (relations_of p) b (replicate (length p.names) (pos 0)) w ≡ Some (v, r)
    → IsVector (length p.names) i v × Congruent (relations_of p) i (ordered v) w
word_kept p h i low high b w v r inside c =
    let n = length p.names in
    let zeros : List ℤ = replicate n (pos 0) in
    let k = collected_keeps (relations_of p) (above_pairs p h) i low b zeros w v r
    (length-replicate n (pos 0)) inside c in (
      record {
        entries = k.size;
        zero_below = λ j less.
            sym (slice_get-take (i - 1) v j (omega arith))
            ∙ (ap (λ (x : List ℤ). slice_get x j) k.below
            ∙ (slice_get-take (i - 1) zeros j (omega arith)
            ∙ slice_get-zeros n j (omega arith)));
      },
      subst (λ (x : List Letter). Congruent (relations_of p) i (ordered v) (x ++ w))
          (ordered_from-zeros n 1) k.congruent,
    )

pub none_taken : {X : Type 0} (P : X → Type 0) (o : Option X) → o ≡ None → IfSome o P
none_taken P o e = subst (λ x. IfSome x P) (sym e) tt

pub collection_some : (p : Presented) (w : List Letter) (v : List ℤ) (r : ℕ)
    → collected (relations_of p) (2 ^ 24) (replicate (length p.names) (pos 0)) w ≡ Some (v, r)
    → collection (relations_of p) w ≡ Some v
collection_some p w v r h = ap (option_map (λ done. done.0)) h

pub collection_none : (p : Presented) (w : List Letter)
    → collected (relations_of p) (2 ^ 24) (replicate (length p.names) (pos 0)) w ≡ None
    → collection (relations_of p) w ≡ None
collection_none p w h = ap (option_map (λ done. done.0)) h
