-- Images: their entries, and where they stand in the list of them.
--   p presentation · i level · l generator above it · low high bounds · m place · v x vectors
use Rattle.std.proofs.Common.{◌≡◌, ℕ, suc, ◌+◌, ◌-◌, ◌<◌, ◌≤◌, Bool, true, List, [], ◌∷◌, ◌++◌, length, map, drop, get_or, append_assoc, add-one, drop-cons, refl, sym, ◌∙◌, ap, subst, inl, inr, arith}
use Rattle.std.specs.Prelude.{if◌then◌else◌}
use Rattle.std.proofs.lemmas.Bool.{le-leb, lt-ltb}
use Rattle.std.proofs.lemmas.Bool.Decides.{eqb_tells}
use Rattle.std.proofs.lemmas.Int.{ints}
use Rattle.std.proofs.lemmas.List.{get_or-map, length-map, length-set, length-replicate}
use lib.IntN.{ℤ, pos, ◌+ℤ◌}
use Rattle.std.proofs.lemmas.List.Elements.{All-set, All-replicate}
use Rattle.nil_num.specs.Bound.{IsNumber}
use Rattle.nil_word.specs.Words.{power}
use Rattle.nil_word.specs.Exponents.{entry, numbers, count}
use Rattle.nil_word.specs.Factors.{Factor, word_of}
use Rattle.nil_pres.specs.declared.syllable.Syllable.{Syllable}
use Rattle.nil_pres.specs.Rights.{IsRight}
use Rattle.nil_pres.specs.Presented.{Presented, IsPresented, right_of}
use Rattle.nil_pres.specs.Relations.{factors_of, is_pair, between, relations_of}
use Rattle.hall_law.specs.Table.{zeros, exponents}
use Rattle.hall_law.specs.Plan.{put}
use Rattle.hall_law.proofs.Entries.{same_entries}
use Rattle.hall_law.proofs.Counting.{count-append, count-power, length-exponents, entry-exponents}
use Rattle.hall_law.proofs.Pairs.{entry-put_same, entry-put_other}
use Rattle.hall_law.proofs.Vectors.{entry-zeros, length-added, part, part_same, part_other, added_writes}
use Rattle.group_eval.specs.Right.{AreSmall}
use Rattle.overlap_test.specs.Ways.{image, images}
use Rattle.overlap_test.proofs.Numbers.{numbers_next, length-numbers, get_or-numbers}

-- ---- the list of images
pub length-images : (p : Presented) (i : ℕ) → length (images p i) ≡ length p.names - i
length-images p i =
    length-map (numbers (suc i) (length p.names - i)) (image p i)
    ∙ length-numbers (suc i) (length p.names - i)

pub image_place : (p : Presented) (i l : ℕ) (vs : List (List ℤ)) → vs ≡ images p i → i < l
    → l ≤ length p.names → l - i - 1 < length vs
image_place p i l vs e a b =
    let size : length vs ≡ length p.names - i = ap length e ∙ length-images p i in omega arith

pub image_at : (p : Presented) (i l : ℕ) (vs : List (List ℤ)) (v : List ℤ) → vs ≡ images p i → i < l
    → l ≤ length p.names → v ≡ get_or vs (l - i - 1) v → v ≡ image p i l
image_at p i l vs v e a b is =
    let ls = numbers (suc i) (length p.names - i) in
    let size = length-numbers (suc i) (length p.names - i) in
    let below : l - i - 1 < length ls = omega (arith, size) in
    let at : get_or ls (l - i - 1) 0 ≡ l =
    get_or-numbers (suc i) (length p.names - i) (l - i - 1) (omega arith) ∙ omega arith in
    is ∙ ap (λ (ws : List (List ℤ)). get_or ws (l - i - 1) v) e
    ∙ get_or-map (image p i) ls (l - i - 1) 0 v below
    ∙ ap (image p i) at

pub length-image : (p : Presented) (i l : ℕ) → length (image p i l) ≡ length p.names
length-image p i l =
    length-added (exponents (length p.names) ((relations_of p).right i l)) l (pos 1)
    ∙ length-exponents (length p.names) ((relations_of p).right i l)

-- the images up to l, and those that are left
pub images_next : (p : Presented) (i l high : ℕ) (vs ws : List (List ℤ)) (v : List ℤ) → l < high
    → ws ≡ vs ++ v ∷ [] → v ≡ image p i l
    → ws ++ map (image p i) (numbers (l + 1) (high - (l + 1)))
    ≡ vs ++ map (image p i) (numbers l (high - l))
images_next p i l high vs ws v h e is =
    let rest = map (image p i) (numbers (l + 1) (high - (l + 1))) in
    ap (λ (us : List (List ℤ)). us ++ rest) (e ∙ ap (λ (u : List ℤ). vs ++ u ∷ []) is)
    ∙ append_assoc vs (image p i l ∷ []) rest
    ∙ sym (ap (λ (ks : List ℕ). vs ++ map (image p i) ks) (numbers_next l high h))

-- ---- an image is made syllable by syllable
abbrev pub with_syllables : List Syllable → List ℤ → List ℤ
with_syllables [] v = v
with_syllables (s ∷ ss) v = with_syllables ss (put v s.number s.exp)

-- the syllable at a place, and those behind it
pub syllable_next : (ss : List Syllable) (k : ℕ) (d : Syllable) (v w : List ℤ) → k < length ss
    → w ≡ put v (get_or ss k d).number (get_or ss k d).exp
    → with_syllables (drop (k + 1) ss) w ≡ with_syllables (drop k ss) v
syllable_next ss k d v w h e =
    ap (λ (m : ℕ). with_syllables (drop m ss) w) (add-one k)
    ∙ ap (with_syllables (drop (suc k) ss)) e
    ∙ ap (λ (rs : List Syllable). with_syllables rs v) (sym (drop-cons ss k d h))

length-with_syllables : (ss : List Syllable) (v : List ℤ) → length (with_syllables ss v) ≡ length v
length-with_syllables [] v = refl
length-with_syllables (s ∷ ss) v =
    length-with_syllables ss (put v s.number s.exp) ∙ length-set v (s.number - 1) s.exp

entry-put : (v : List ℤ) (k : ℕ) (e : ℤ) (m : ℕ) → 1 ≤ k → k ≤ length v → 1 ≤ m
    → entry v k ≡ pos 0 → entry (put v k e) m ≡ entry v m +ℤ part m k e
entry-put v k e m a b c z =
    elim (eqb_tells m k) [
      | inl same ↦
          let here : entry (put v k e) m ≡ e =
          ap (entry (put v k e)) same.1 ∙ entry-put_same v k e a b in
          let none : entry v m ≡ pos 0 = ap (entry v) same.1 ∙ z in
          omega (arith, ints, here, none, part_same m k e same.1)
      | inr other ↦
          omega (
            arith,
            ints,
            entry-put_other v k m e a c other.1,
            part_other m k e other.1,
          )
    ]

abbrev IsClearAbove : ℕ → List ℤ → Type 0
IsClearAbove low v = (m : ℕ) → low < m → entry v m ≡ pos 0

clear-put : (low : ℕ) (v : List ℤ) (k : ℕ) (e : ℤ) → low < k → IsClearAbove low v
    → IsClearAbove k (put v k e)
clear-put low v k e a h m b =
    entry-put_other v k m e (omega arith) (omega arith) (omega arith) ∙ h m (omega arith)

entry-with_syllables : (low high : ℕ) (right : List Syllable) (v : List ℤ) → IsRight low high right
    → high ≤ length v → IsClearAbove low v → (m : ℕ) → 1 ≤ m
    → entry (with_syllables right v) m ≡ entry v m +ℤ count (word_of (factors_of right)) m
entry-with_syllables low high [] v h size clear m a = omega (arith, ints)
entry-with_syllables low high (s ∷ rest) v h size clear m a =
    let w = put v s.number s.exp in
    let longer : high ≤ length w = omega (arith, length-set v (s.number - 1) s.exp) in
    let later = entry-with_syllables s.number high rest w h.4 longer
    (clear-put low v s.number s.exp h.0 clear) m a in
    let here = entry-put v s.number s.exp m (omega (arith, h.0)) (omega (arith, h.1)) a
    (clear s.number h.0) in
    let joined = count-append (power s.number s.exp) (word_of (factors_of rest)) m in
    omega (arith, ints, later, here, joined, count-power s.exp m s.number)

abbrev pub begun : Presented → ℕ → List ℤ
begun p l = put (zeros (length p.names)) l (pos 1)

pub length-begun : (p : Presented) (l : ℕ) → length (begun p l) ≡ length p.names
length-begun p l =
    length-set (zeros (length p.names)) (l - 1) (pos 1) ∙ length-replicate (length p.names) (pos 0)

pub between-pair : (p : Presented) (i l : ℕ) → 1 ≤ i → i < l → l ≤ length p.names
    → between p i l ≡ factors_of (right_of p i l)
between-pair p i l a b d =
    let pair : is_pair p i l ≡ true =
    grind (arith, le-leb 1 i a, lt-ltb i l b, le-leb l (length p.names) d) in
    ap (λ (t : Bool). if t then factors_of (right_of p i l) else []) pair

pub image_made : (p : Presented) (i l : ℕ) → IsPresented p → 1 ≤ i → i < l → l ≤ length p.names
    → with_syllables (right_of p i l) (begun p l) ≡ image p i l
image_made p i l h a b d =
    let n = length p.names in
    let right = right_of p i l in
    let size = length-begun p l in
    let none : IsClearAbove l (begun p l) = λ m c.
    entry-put_other (zeros n) l m (pos 1) (omega arith) (omega arith) (omega arith)
    ∙ entry-zeros n m in
    same_entries n (with_syllables right (begun p l)) (image p i l)
    (length-with_syllables right (begun p l) ∙ size) (length-image p i l)
    (λ m low high.
    let lawful = h.lawful i l a b in
    let made = entry-with_syllables l n right (begun p l) lawful (omega arith) none m low in
    let first = entry-put (zeros n) l (pos 1) m (omega arith)
    (omega (arith, length-replicate n (pos 0))) low (entry-zeros n l) in
    let word = (relations_of p).right i l in
    let counted : count word m ≡ count (word_of (factors_of right)) m =
    ap (λ (ss : List Factor). count (word_of ss) m) (between-pair p i l a b d) in
    let added = (added_writes (exponents n word) l (pos 1) (omega arith)
    (omega (arith, length-exponents n word))).at m low in
    let word_at = entry-exponents n word m low high in
    omega (arith, ints, made, first, entry-zeros n m, counted, added, word_at))

-- its entries are numbers
small-with_syllables : (low high : ℕ) (right : List Syllable) (v : List ℤ) → IsRight low high right
    → AreSmall v → AreSmall (with_syllables right v)
small-with_syllables low high [] v h small = small
small-with_syllables low high (s ∷ rest) v h small =
    small-with_syllables s.number high rest (put v s.number s.exp) h.4
    (All-set IsNumber v (s.number - 1) s.exp (omega (arith, h.3)) small)

pub small-image : (p : Presented) (i l : ℕ) → IsPresented p → 1 ≤ i → i < l → l ≤ length p.names
    → AreSmall (image p i l)
small-image p i l h a b d =
    subst AreSmall (image_made p i l h a b d)
    (small-with_syllables l (length p.names) (right_of p i l) (begun p l) (h.lawful i l a b)
    (All-set IsNumber (zeros (length p.names)) (l - 1) (pos 1) (omega arith)
    (All-replicate IsNumber (length p.names) (pos 0) (omega arith))))
