-- The drafts of names and of relations that were given, the latest first.
use Rattle.std.proofs.Common.{◌≡◌, ◌≢◌, ℕ, zero, suc, ◌+◌, ◌-◌, ◌<◌, ◌≤◌, ◌==◌, ◌&&◌, ◌||◌, Bool, true, false, if◌then◌else◌, List, [], ◌∷◌, ◌++◌, length, set, get_or, replicate, Option, Some, None, is_some, refl, sym, ◌∙◌, ap, arith, append_assoc, length-append, length-set, get_or-set_other, get_or-set_same}
use Rattle.std.proofs.lemmas.Grind.{common_steps}
use Rattle.std.proofs.lemmas.Bool.Decides.{nat_tests}
use Rattle.std.proofs.lemmas.Bool.{eqb-true}
use Rattle.std.proofs.lemmas.List.{length-replicate, append-nil}
use Rattle.nil_pres.specs.declared.syllable.Syllable.{Syllable}
use Rattle.nil_pres.specs.Presented.{Draft, added, with_name, with_relation}
use Rattle.pres_text.specs.Relation.{Spelled}
use Rattle.pres_text.specs.Spelling.{syllables_of}
use Rattle.pres_text.specs.RelationFaults.{is_given}
use Rattle.pres_text.specs.Reading.{named}

-- rows with an entry for each lower generator
pub record IsShaped (d : Draft) : Type 0 where
  pub rows : length d.rights ≡ length d.names
  pub widths : (k : ℕ) → k < length d.rights → length (get_or d.rights k []) ≡ k

pub IsShaped-with_relation : (d : Draft) (j i : ℕ) (right : List Syllable) → IsShaped d → IsShaped (with_relation d i j right)
IsShaped-with_relation d j i right h =
    let n : length (set d.rights (j - 1) (set (get_or d.rights (j - 1) []) (i - 1) (Some right))) ≡ length d.rights = length-set d.rights (j - 1) (set (get_or d.rights (j - 1) []) (i - 1) (Some right)) in
    let m : length (set (get_or d.rights (j - 1) []) (i - 1) (Some right)) ≡ length (get_or d.rights (j - 1) []) = length-set (get_or d.rights (j - 1) []) (i - 1) (Some right) in
    record {
      rows = n ∙ h.rows;
      widths = λ k l. grind (arith, common_steps, n, m, h.widths k, h.widths (j - 1), h.rows, get_or-set_same d.rights (j - 1) (set (get_or d.rights (j - 1) []) (i - 1) (Some right)) [], get_or-set_other d.rights (j - 1) k (set (get_or d.rights (j - 1) []) (i - 1) (Some right)) []);
    }

row_end : (rows : List (List (Option (List Syllable)))) (row : List (Option (List Syllable))) (k : ℕ) → k < length rows + 1
    → get_or (rows ++ row ∷ []) k [] ≡ (if k == length rows then row else get_or rows k [])
row_end rows row k h = grind (arith, common_steps, nat_tests)

width_by : (q : Bool) (k : ℕ) (row other : List (Option (List Syllable))) → (q ≡ true → length row ≡ k) → (q ≡ false → length other ≡ k) → length (if q then row else other) ≡ k
width_by true k row other h e = h refl
width_by false k row other h e = e refl

below_other : (k n : ℕ) → (k == n) ≡ false → k < n + 1 → k < n
below_other k n h l = grind (arith, nat_tests)

IsShaped-with_name : (d : Draft) (w : List ℕ) → IsShaped d → IsShaped (with_name d w)
IsShaped-with_name d w h =
    let row : List (Option (List Syllable)) = replicate (length d.names) None in
    let wide : length row ≡ length d.names = length-replicate (length d.names) None in
    let n : length (d.rights ++ row ∷ []) ≡ length d.rights + 1 = length-append d.rights (row ∷ []) in
    record {
      rows = n ∙ ap (λ m. m + 1) h.rows ∙ sym (length-append d.names (w ∷ []));
      widths = λ k l.
          let few : k < length d.rights + 1 = omega arith in
          ap length (row_end d.rights row k few)
          ∙ width_by (k == length d.rights) k row (get_or d.rights k [])
          (λ e. let same : k ≡ length d.rights = eqb-true k (length d.rights) e in omega (arith, h.rows))
          (λ e. h.widths k (below_other k (length d.rights) e few));
    }

pub IsShaped-named : (d : Draft) (ws : List (List ℕ)) → IsShaped d → IsShaped (named d ws)
IsShaped-named d [] h = h
IsShaped-named d (w ∷ ws) h = IsShaped-named (with_name d w) ws (IsShaped-with_name d w h)

pub names-named : (d : Draft) (ws : List (List ℕ)) → (named d ws).names ≡ d.names ++ ws
names-named d [] = sym (append-nil d.names)
names-named d (w ∷ ws) = names-named (with_name d w) ws ∙ append_assoc d.names (w ∷ []) ws

abbrev none_right : Option (List Syllable)
none_right = None

-- nothing is added for names alone
none-replicate : (n l : ℕ) → get_or (replicate n (none_right)) l None ≡ None
none-replicate zero l = refl
none-replicate (suc n) zero = refl
none-replicate (suc n) (suc l) = none-replicate n l

none-append : (rows : List (List (Option (List Syllable)))) (row : List (Option (List Syllable))) (k l : ℕ) → get_or (get_or rows k []) l None ≡ None → get_or row l None ≡ None
    → get_or (get_or (rows ++ row ∷ []) k []) l None ≡ None
none-append [] row zero l h e = e
none-append [] row (suc k) l h e = refl
none-append (r ∷ rows) row zero l h e = h
none-append (r ∷ rows) row (suc k) l h e = none-append rows row k l h e

pub added-named : (d : Draft) (ws : List (List ℕ)) → ((k l : ℕ) → added d l k ≡ None) → (k l : ℕ) → added (named d ws) l k ≡ None
added-named d [] h k l = h k l
added-named d (w ∷ ws) h k l =
    added-named (with_name d w) ws (λ m n. none-append d.rights (replicate (length d.names) None) (m - 1) (n - 1) (h m n) (none-replicate (length d.names) (n - 1))) k l

-- what is added with one more relation
added-same : (d : Draft) (j i : ℕ) (right : List Syllable) → IsShaped d → 1 ≤ i → i < j → j ≤ length d.names → added (with_relation d i j right) i j ≡ Some right
added-same d j i right h low order high =
    let in_rows : j - 1 < length d.rights = omega (arith, h.rows) in
    let in_row : i - 1 < length (get_or d.rights (j - 1) []) = omega (arith, h.widths (j - 1) in_rows) in
    ap (λ (row : List (Option (List Syllable))). get_or row (i - 1) None) (get_or-set_same d.rights (j - 1) (set (get_or d.rights (j - 1) []) (i - 1) (Some right)) [] in_rows)
    ∙ get_or-set_same (get_or d.rights (j - 1) []) (i - 1) (Some right) None in_row

added-row : (d : Draft) (j i k l : ℕ) (right : List Syllable) → k - 1 ≢ j - 1 → added (with_relation d i j right) l k ≡ added d l k
added-row d j i k l right other =
    ap (λ (row : List (Option (List Syllable))). get_or row (l - 1) None) (get_or-set_other d.rights (j - 1) (k - 1) (set (get_or d.rights (j - 1) []) (i - 1) (Some right)) [] other)

added-entry : (d : Draft) (j i l : ℕ) (right : List Syllable) → j - 1 < length d.rights → l - 1 ≢ i - 1 → added (with_relation d i j right) l j ≡ added d l j
added-entry d j i l right in_rows other =
    ap (λ (row : List (Option (List Syllable))). get_or row (l - 1) None) (get_or-set_same d.rights (j - 1) (set (get_or d.rights (j - 1) []) (i - 1) (Some right)) [] in_rows)
    ∙ get_or-set_other (get_or d.rights (j - 1) []) (i - 1) (l - 1) (Some right) None other

apart : (a b : ℕ) → 1 ≤ a → 1 ≤ b → (a == b) ≡ false → b - 1 ≢ a - 1
apart a b la lb h e = let same : a ≡ b = omega arith in let t : (a == b) ≡ true = grind (arith, nat_tests) in cc

added_by : (p q : Bool) (d : Draft) (j i k l : ℕ) (right : List Syllable) → (j == k) ≡ p → (i == l) ≡ q → IsShaped d → 1 ≤ i → i < j → j ≤ length d.names → 1 ≤ k → 1 ≤ l
    → added (with_relation d i j right) l k ≡ (if p && q then Some right else added d l k)
added_by true true d j i k l right e f h low order high a b =
    let je : k ≡ j = sym (eqb-true j k e) in
    let ie : l ≡ i = sym (eqb-true i l f) in
    ap (λ x. added (with_relation d i j right) l x) je ∙ ap (λ y. added (with_relation d i j right) y j) ie ∙ added-same d j i right h low order high
added_by true false d j i k l right e f h low order high a b =
    let je : j ≡ k = eqb-true j k e in
    ap (λ x. added (with_relation d i j right) l x) (sym je)
    ∙ added-entry d j i l right (omega (arith, h.rows)) (apart i l low b f)
    ∙ ap (λ x. added d l x) je
added_by false q d j i k l right e f h low order high a b = added-row d j i k l right (apart j k (omega arith) a e)

-- a relation of two of n generators, the first one above the second
pub record IsPair (n : ℕ) (s : Spelled) : Type 0 where
  pub low : 1 ≤ s.below
  pub order : s.below < s.above
  pub high : s.above ≤ n

abbrev pub ArePairs : ℕ → List Spelled → Type 0
ArePairs n [] = Unit {0}
ArePairs n (s ∷ given) = IsPair n s × ArePairs n given

abbrev pub draft_of : Draft → List Spelled → Draft
draft_of d [] = d
draft_of d (s ∷ given) = with_relation (draft_of d given) s.below s.above (syllables_of s.right)

-- what was given for a pair
abbrev pub given_in : List Spelled → ℕ → ℕ → Option (List Syllable)
given_in [] k l = None
given_in (s ∷ given) k l = if (s.above == k) && (s.below == l) then Some (syllables_of s.right) else given_in given k l

pub names-draft_of : (d : Draft) (given : List Spelled) → (draft_of d given).names ≡ d.names
names-draft_of d [] = refl
names-draft_of d (s ∷ given) = names-draft_of d given

pub IsShaped-draft_of : (d : Draft) (given : List Spelled) → IsShaped d → IsShaped (draft_of d given)
IsShaped-draft_of d [] h = h
IsShaped-draft_of d (s ∷ given) h = IsShaped-with_relation (draft_of d given) s.above s.below (syllables_of s.right) (IsShaped-draft_of d given h)

pub added-draft_of : (d : Draft) (given : List Spelled) (k l : ℕ) → IsShaped d → ((k l : ℕ) → added d l k ≡ None) → ArePairs (length d.names) given → 1 ≤ k → 1 ≤ l
    → added (draft_of d given) l k ≡ given_in given k l
added-draft_of d [] k l h none pairs a b = none k l
added-draft_of d (s ∷ given) k l h none pairs a b =
    let same : length (draft_of d given).names ≡ length d.names = ap length (names-draft_of d given) in
    added_by (s.above == k) (s.below == l) (draft_of d given) s.above s.below k l (syllables_of s.right) refl refl (IsShaped-draft_of d given h)
    pairs.0.low pairs.0.order (omega (arith, pairs.0.high)) a b
    ∙ ap (λ o. if (s.above == k) && (s.below == l) then Some (syllables_of s.right) else o) (added-draft_of d given k l h none pairs.1 a b)

some_by : (q : Bool) (right : List Syllable) (o : Option (List Syllable)) (r : Bool) → is_some o ≡ r → is_some (if q then Some right else o) ≡ (q || r)
some_by true right o r h = refl
some_by false right o r h = h

pub given_in-is_given : (given : List Spelled) (k l : ℕ) → is_some (given_in given k l) ≡ is_given given k l
given_in-is_given [] k l = refl
given_in-is_given (s ∷ given) k l = some_by ((s.above == k) && (s.below == l)) (syllables_of s.right) (given_in given k l) (is_given given k l) (given_in-is_given given k l)
