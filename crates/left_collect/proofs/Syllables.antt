-- The right sides of a presentation as words: letter by letter, and syllable by syllable.
--   p presentation · g < k generators · s syllable · ss syllables · f words for generators
use Rattle.std.proofs.Common.{◌≡◌, ◌≢◌, ℕ, zero, suc, ◌≤◌, ◌<◌, ◌+◌, ◌-◌, Bool, true, false, not, nat_le, nat_lt, eqb, ◌&&◌, ℤ, pos, negsuc, neg_ℤ, List, [], ◌∷◌, ◌++◌, length, take, drop, get_or, All, if◌then◌else◌, refl, sym, ◌∙◌, ap, subst, append_assoc, append-nil, arith}
use Rattle.std.proofs.lemmas.Bool.{le-leb, lt-ltb, ne_eqb}
use Rattle.std.proofs.lemmas.List.{at_drop_more, take_more}
use Rattle.std.proofs.lemmas.List.Elements.{All-nil, All-head, All-tail, All-append}
use Rattle.nil_word.specs.declared.letter.Letter.{Letter}
use Rattle.nil_word.specs.Words.{up, down, inverse, power, IsIn, IsWordIn}
use Rattle.nil_word.specs.Expressions.{raised}
use Rattle.nil_word.specs.Factors.{word_of}
use Rattle.nil_word.specs.Congruence.{Relations, IsAbove}
use Rattle.nil_word.proofs.Inverses.{inverse-append}
use Rattle.nil_pres.specs.declared.syllable.Syllable.{Syllable}
use Rattle.nil_pres.specs.Rights.{IsRight}
use Rattle.nil_pres.specs.Presented.{Presented, IsPresented, right_of}
use Rattle.nil_pres.specs.Relations.{factors_of, is_pair, relations_of}
use Rattle.nil_pres.proofs.Syllables.{IsRight-generators}
use Rattle.left_collect.specs.Conjugates.{image, conjugated, is_empty}
use Rattle.left_collect.specs.Pieces.{piece, pieces, turned}
use Rattle.left_collect.proofs.Images.{image-append, image-power, image-itself}
use Rattle.left_collect.proofs.Conjugating.{conjugated-down}
use Rattle.left_collect.proofs.Powers.{inverse-raised, inverse-turned}
use Rattle.left_collect.proofs.Parts.{power_in}

is_pair_between : (p : Presented) (j l : ℕ) → 1 ≤ j → j < l → l ≤ length p.names
    → is_pair p j l ≡ true
is_pair_between p j l a b d =
    ap (λ (t : Bool). t && nat_lt j l && nat_le l (length p.names)) (le-leb 1 j a)
    ∙ (ap (λ (t : Bool). t && nat_le l (length p.names)) (lt-ltb j l b)
    ∙ le-leb l (length p.names) d)

pub right_is : (p : Presented) (j l : ℕ) → 1 ≤ j → j < l → l ≤ length p.names
    → (relations_of p).right j l ≡ word_of (factors_of (right_of p j l))
right_is p j l a b d =
    ap (λ (t : Bool). word_of (if t then factors_of (right_of p j l) else []))
    (is_pair_between p j l a b d)

word_in : (low high : ℕ) (ss : List Syllable)
    → All (λ (s : Syllable). (low < s.number) × (s.number ≤ high)) ss
    → IsWordIn (suc low) high (word_of (factors_of ss))
word_in low high [] h = All-nil (IsIn (suc low) high)
word_in low high (s ∷ ss) h =
    let q = All-head (λ (s : Syllable). (low < s.number) × (s.number ≤ high)) s ss h in
    All-append (IsIn (suc low) high) (power s.number s.exp) (word_of (factors_of ss))
    (power_in (suc low) high s.number s.exp (omega (arith, q.0)) q.1)
    (word_in low high ss
    (All-tail (λ (s : Syllable). (low < s.number) × (s.number ≤ high)) s ss h))

pub above_pairs : (p : Presented) → IsPresented p → IsAbove (relations_of p)
above_pairs p h = record {
  above = λ j l a b d.
      subst (IsWordIn (suc l) (length p.names)) (sym (right_is p j l a b d))
      (word_in l (length p.names) (right_of p j l)
      (IsRight-generators l (length p.names) (right_of p j l) (h.lawful j l a b)));
}

-- a right side is the empty word where it has no syllable
starts : (k : ℕ) (e : ℤ) (w : List Letter) → e ≢ pos 0 → is_empty (power k e ++ w) ≡ false
starts k (pos zero) w h = absurd (h refl)
starts k (pos (suc n)) w h = refl
starts k (negsuc n) w h = refl

is_empty-word : (low high : ℕ) (ss : List Syllable) → IsRight low high ss
    → is_empty (word_of (factors_of ss)) ≡ eqb (length ss) 0
is_empty-word low high [] h = refl
is_empty-word low high (s ∷ ss) h =
    starts s.number s.exp (word_of (factors_of ss)) h.2
    ∙ sym (ne_eqb (suc (length ss)) 0 (λ e. absurd (omega arith)))

pub is_empty-right : (p : Presented) → IsPresented p → (j l : ℕ) → 1 ≤ j → j < l
    → l ≤ length p.names
    → is_empty ((relations_of p).right j l) ≡ eqb (length (right_of p j l)) 0
is_empty-right p h j l a b d =
    ap is_empty (right_is p j l a b d)
    ∙ is_empty-word l (length p.names) (right_of p j l) (h.lawful j l a b)

-- the words of the syllables, one behind another and back again
module _ (rels : Relations) (a : Letter) where
  pieces-cons : (s : Syllable) (ss : List Syllable) → pieces rels a (s ∷ ss)
      ≡ raised (piece rels a s.number) s.exp ++ pieces rels a ss
  pieces-cons s ss =
      image-append (piece rels a) (power s.number s.exp) (word_of (factors_of ss))
      ∙ ap (λ (w : List Letter). w ++ pieces rels a ss)
      (image-power (piece rels a) s.number s.exp)

  pieces-append : (ss ts : List Syllable)
      → pieces rels a (ss ++ ts) ≡ pieces rels a ss ++ pieces rels a ts
  pieces-append [] ts = refl
  pieces-append (s ∷ ss) ts =
      let x : List Letter = raised (piece rels a s.number) s.exp in
      pieces-cons s (ss ++ ts) ∙ (ap (λ (w : List Letter). x ++ w) (pieces-append ss ts)
      ∙ (sym (append_assoc x (pieces rels a ss) (pieces rels a ts))
      ∙ ap (λ (w : List Letter). w ++ pieces rels a ts) (sym (pieces-cons s ss))))

  pub pieces-drop : (ss : List Syllable) (i : ℕ) (d : Syllable) → i < length ss
      → let s : Syllable = get_or ss i d in pieces rels a (drop i ss)
      ≡ raised (piece rels a s.number) s.exp ++ pieces rels a (drop (i + 1) ss)
  pieces-drop ss i d h =
      at_drop_more (pieces rels a) ss i d h ∙ pieces-cons (get_or ss i d) (drop (i + 1) ss)

  pub pieces-take : (ss : List Syllable) (i : ℕ) (d : Syllable) → 1 ≤ i → i ≤ length ss
      → let s : Syllable = get_or ss (i - 1) d in inverse (pieces rels a (take i ss))
      ≡ raised (piece rels a s.number) (neg_ℤ s.exp) ++ inverse (pieces rels a (take (i - 1) ss))
  pieces-take ss i d low high =
      let s : Syllable = get_or ss (i - 1) d in
      let x : List Letter = raised (piece rels a s.number) s.exp in
      let n : i ≡ i - 1 + 1 = omega arith in
      let front : List Syllable = take (i - 1) ss in
      let last : pieces rels a (take i ss) ≡ pieces rels a front ++ x =
      ap (pieces rels a) (ap (λ (j : ℕ). take j ss) n ∙ take_more ss (i - 1) d (omega arith))
      ∙ (pieces-append front (s ∷ []) ∙ ap (λ (w : List Letter). pieces rels a front ++ w)
      (pieces-cons s [] ∙ append-nil x)) in
      ap inverse last ∙ (inverse-append (pieces rels a front) x
      ∙ ap (λ (w : List Letter). w ++ inverse (pieces rels a front))
      (inverse-raised (piece rels a s.number) s.exp))

-- the word of a generator that a letter goes past is the generator and the words of its syllables
pub conjugated-pieces : (p : Presented) → IsPresented p → (a : Letter) (k : ℕ) → 1 ≤ a.number
    → a.number < k → k ≤ length p.names → conjugated (relations_of p) a k
    ≡ up k ∷ turned a.up (pieces (relations_of p) a (right_of p a.number k))
conjugated-pieces p h a k positive b d =
    let is : (relations_of p).right a.number k ≡ word_of (factors_of (right_of p a.number k)) =
    right_is p a.number k positive b d in
    elim a.up as (λ (t : Bool). let x : Letter = record { number = a.number; up = t } in
    conjugated (relations_of p) x k
    ≡ up k ∷ turned t (pieces (relations_of p) x (right_of p a.number k))) [
      | true ↦ ap (λ (w : List Letter). up k ∷ w) (is
          ∙ sym (image-itself (word_of (factors_of (right_of p a.number k)))))
      | false ↦
          conjugated-down (relations_of p) (above_pairs p h) a.number positive k b d
          ∙ ap (λ (w : List Letter).
          up k ∷ inverse (image (conjugated (relations_of p) (down a.number)) w)) is
    ]

pub inverse-conjugated : (p : Presented) → IsPresented p → (a : Letter) (k : ℕ) → 1 ≤ a.number
    → a.number < k → k ≤ length p.names → inverse (conjugated (relations_of p) a k)
    ≡ turned (not a.up) (pieces (relations_of p) a (right_of p a.number k)) ++ down k ∷ []
inverse-conjugated p h a k positive b d =
    ap inverse (conjugated-pieces p h a k positive b d)
    ∙ ap (λ (w : List Letter). w ++ down k ∷ [])
    (inverse-turned a.up (pieces (relations_of p) a (right_of p a.number k)))

-- the same where a generator or its inverse is asked for
module _ (p : Presented) (h : IsPresented p) (a : Letter) (k : ℕ) (positive : 1 ≤ a.number)
    (b : a.number < k) (d : k ≤ length p.names) where
  pub conjugated-onward : (t : Bool) → t ≡ true → let x : Letter = record { number = k; up = t } in
      turned t (conjugated (relations_of p) a k)
      ≡ (x ∷ []) ++ turned a.up (pieces (relations_of p) a (right_of p a.number k))
  conjugated-onward t e =
      ap (λ (s : Bool). turned s (conjugated (relations_of p) a k)) e
      ∙ (conjugated-pieces p h a k positive b d
      ∙ ap (λ (s : Bool). let x : Letter = record { number = k; up = s } in
      x ∷ turned a.up (pieces (relations_of p) a (right_of p a.number k))) (sym e))

  pub conjugated-back : (t : Bool) → t ≡ false → let x : Letter = record { number = k; up = t } in
      turned t (conjugated (relations_of p) a k)
      ≡ turned (not a.up) (pieces (relations_of p) a (right_of p a.number k)) ++ x ∷ []
  conjugated-back t e =
      ap (λ (s : Bool). turned s (conjugated (relations_of p) a k)) e
      ∙ (inverse-conjugated p h a k positive b d
      ∙ ap (λ (s : Bool). let x : Letter = record { number = k; up = s } in
      turned (not a.up) (pieces (relations_of p) a (right_of p a.number k)) ++ x ∷ []) (sym e))
