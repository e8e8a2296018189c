-- What the functions that append letters are proved by: a letter, and a word that goes on.
--   p presentation · b r budgets · v vector · a letter · u w words
use Rattle.std.proofs.Common.{◌≡◌, ℕ, suc, ◌≤◌, ◌<◌, ◌+◌, ◌-◌, ◌^◌, Bool, true, false, ℤ, pos, unsigned_abs, List, [], ◌∷◌, ◌++◌, length, replicate, Option, Some, None, int_lt, Result, Ok, Err, OnOk, OnErr, if◌then◌else◌, ◌∙◌, ap, append-nil, arith}
use mir.Syntax.{w128}
use mir.Val.{SFits}
use Rattle.std.proofs.lemmas.Int.{fits_signed_from_abs}
use Rattle.std.proofs.lemmas.List.{length-replicate}
use Rattle.std.proofs.lemmas.List.Elements.{All-weaker, All-get_or, All-replicate}
use Rattle.nil_word.specs.declared.letter.Letter.{Letter}
use Rattle.nil_word.specs.Exponents.{entry}
use Rattle.nil_word.specs.Expressions.{repeated, raised}
use Rattle.nil_word.specs.Congruence.{Relations}
use Rattle.nil_pres.specs.Presented.{Presented, IsPresented}
use Rattle.nil_pres.specs.Relations.{relations_of}
use Rattle.left_collect.specs.Conjugates.{image, conjugated, commutes}
use Rattle.left_collect.specs.Collected.{behind, counted, cut, collected}
use Rattle.left_collect.specs.Pieces.{turned, IsReady}
use Rattle.left_collect.proofs.Powers.{raised-repeated, repeated_more}
use Rattle.left_collect.proofs.Parts.{length-counted, length-cut}
use Rattle.left_collect.proofs.Running.{counted_within, cut_within, collected-append, collected-append_none}

-- one letter
module _ (rels : Relations) (v : List ℤ) (a : Letter) where
  pub appended_spent : (b : ℕ) → b ≡ 0 → collected rels b v (a ∷ []) ≡ None
  appended_spent b e = ap (λ (c : ℕ). collected rels c v (a ∷ [])) e

  by_test : (t : Bool) → commutes rels a.number (behind v a.number) ≡ t → (b : ℕ)
      → collected rels (suc b) v (a ∷ []) ≡ collected rels b (if t then counted v a else cut v a)
      ((if t then [] else image (conjugated rels a) (behind v a.number)) ++ [])
  by_test t e b =
      ap (λ (s : Bool). collected rels b (if s then counted v a else cut v a)
      ((if s then [] else image (conjugated rels a) (behind v a.number)) ++ [])) e

  pub appended_free : (b : ℕ) → (b ≡ 0 → ⊥)
      → commutes rels a.number (behind v a.number) ≡ true
      → collected rels b v (a ∷ []) ≡ Some (counted v a, b - 1)
  appended_free b h e =
      let s : b ≡ suc (b - 1) = omega arith in
      ap (λ (c : ℕ). collected rels c v (a ∷ [])) s ∙ by_test true e (b - 1)

  pub appended_past : (b : ℕ) → (b ≡ 0 → ⊥)
      → commutes rels a.number (behind v a.number) ≡ false
      → collected rels b v (a ∷ [])
      ≡ collected rels (b - 1) (cut v a) (image (conjugated rels a) (behind v a.number))
  appended_past b h e =
      let s : b ≡ suc (b - 1) = omega arith in
      ap (λ (c : ℕ). collected rels c v (a ∷ [])) s
      ∙ (by_test false e (b - 1)
      ∙ ap (collected rels (b - 1) (cut v a))
      (append-nil (image (conjugated rels a) (behind v a.number))))

module _ (p : Presented) (v : List ℤ) (b : ℕ) (a : Letter) (low : 1 ≤ a.number)
    (high : a.number ≤ length p.names) where
  pub ready_counted : IsReady p v (b + 1) → IsReady p (counted v a) b
  ready_counted h = record {
    lawful = h.lawful;
    entries = length-counted v a ∙ h.entries;
    budget = omega (arith, h.budget);
    within = All-weaker (λ e. unsigned_abs e ≤ suc (2 ^ 24 - (b + 1)))
        (λ e. unsigned_abs e ≤ 2 ^ 24 - b) (λ e le. omega (arith, h.budget)) (counted v a)
        (counted_within (relations_of p) a v (omega (arith, h.entries)) (2 ^ 24 - (b + 1)) low
        h.within);
  }

  pub ready_cut : IsReady p v (b + 1) → IsReady p (cut v a) b
  ready_cut h = record {
    lawful = h.lawful;
    entries = length-cut v a (omega (arith, h.entries)) ∙ h.entries;
    budget = omega (arith, h.budget);
    within = All-weaker (λ e. unsigned_abs e ≤ suc (2 ^ 24 - (b + 1)))
        (λ e. unsigned_abs e ≤ 2 ^ 24 - b) (λ e le. omega (arith, h.budget)) (cut v a)
        (cut_within (relations_of p) a v (omega (arith, h.entries)) (2 ^ 24 - (b + 1)) low
        h.within);
  }

-- entries, and a vector of zeros
pub entry_fits : (p : Presented) (v : List ℤ) (b k : ℕ) → IsReady p v b → 1 ≤ k
    → k ≤ length p.names → SFits w128 (entry v k)
entry_fits p v b k h low high =
    let size : k - 1 < length v = omega (arith, h.entries) in
    let at : unsigned_abs (entry v k) ≤ 2 ^ 24 - b =
    All-get_or (λ e. unsigned_abs e ≤ 2 ^ 24 - b) v (k - 1) (pos 0) size h.within in
    fits_signed_from_abs w128 (entry v k) (omega (arith, at))

pub ready_zeros : (p : Presented) → IsPresented p
    → IsReady p (replicate (length p.names) (pos 0)) (2 ^ 24)
ready_zeros p h = record {
  lawful = h;
  entries = length-replicate (length p.names) (pos 0);
  budget = omega arith;
  within = All-replicate (λ e. unsigned_abs e ≤ 2 ^ 24 - 2 ^ 24) (length p.names) (pos 0)
      (omega arith);
}

-- a word that begins with u goes on behind u
module _ (rels : Relations) (b : ℕ) (v : List ℤ) (all u w : List Letter) (is : all ≡ u ++ w) where
  pub goes_on : (v' : List ℤ) (r : ℕ) → collected rels b v u ≡ Some (v', r)
      → collected rels b v all ≡ collected rels r v' w
  goes_on v' r h = ap (collected rels b v) is ∙ collected-append rels b v u w v' r h

  pub stops : collected rels b v u ≡ None → collected rels b v all ≡ None
  stops h = ap (collected rels b v) is ∙ collected-append_none rels b v u w h

-- a word that is taken n times
module _ (rels : Relations) (b : ℕ) (v : List ℤ) (x : List Letter) where
  pub taking_first : (e : ℤ) → collected rels b v (raised x e)
      ≡ collected rels b v (repeated (unsigned_abs e - 0) (turned (int_lt (pos 0) e) x))
  taking_first e =
      let z : unsigned_abs e ≡ unsigned_abs e - 0 = omega arith in
      ap (collected rels b v) (raised-repeated x e
      ∙ ap (λ (n : ℕ). repeated n (turned (int_lt (pos 0) e) x)) z)

  pub taking_more : (n i : ℕ) → i < n → (start : Option (List ℤ × ℕ))
      → start ≡ collected rels b v (repeated (n - i) x) → (v' : List ℤ) (r : ℕ)
      → collected rels b v x ≡ Some (v', r)
      → start ≡ collected rels r v' (repeated (n - (i + 1)) x)
  taking_more n i h start e v' r c =
      e ∙ goes_on rels b v (repeated (n - i) x) x (repeated (n - (i + 1)) x)
      (repeated_more n i x h) v' r c

  pub taking_stops : (n i : ℕ) → i < n → (start : Option (List ℤ × ℕ))
      → start ≡ collected rels b v (repeated (n - i) x) → collected rels b v x ≡ None
      → start ≡ None
  taking_stops n i h start e c =
      e ∙ stops rels b v (repeated (n - i) x) x (repeated (n - (i + 1)) x)
      (repeated_more n i x h) c

-- the same, said of the result of what is appended last
module _ (rels : Relations) (b : ℕ) (v : List ℤ) (all u w : List Letter) (is : all ≡ u ++ w)
    (v' : List ℤ) (r : ℕ) (first : collected rels b v u ≡ Some (v', r)) where
  pub last_ok : {T E : Type 0} (result : Result T E) (x : List ℤ) (n : ℕ)
      → OnOk result (collected rels r v' w ≡ Some (x, n))
      → OnOk result (collected rels b v all ≡ Some (x, n))
  last_ok (Ok _) x n h = goes_on rels b v all u w is v' r first ∙ h
  last_ok (Err _) x n h = h

  pub last_spent : {T E : Type 0} (result : Result T E)
      → OnErr result (collected rels r v' w ≡ None)
      → OnErr result (collected rels b v all ≡ None)
  last_spent (Ok _) h = h
  last_spent (Err _) h = goes_on rels b v all u w is v' r first ∙ h

pub on_err : {T E P : Type 0} (result : Result T E) → P → OnErr result P
on_err (Ok x) p = tt
on_err (Err e) p = p
