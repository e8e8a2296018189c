-- A builder that takes its pairs row by row.
use Rattle.std.proofs.Common.{◌≡◌, ℕ, suc, ◌+◌, ◌-◌, ◌<◌, ◌≤◌, List, [], ◌∷◌, ◌++◌, length, map, replicate, get_or, set, Option, Some, None, unwrap_or, refl, sym, ap, ◌∙◌, arith, get_or-set_same}
use Rattle.std.specs.List.{range_with_len}
use Rattle.std.proofs.lemmas.List.{set-set, set-get_or}
use Rattle.std.proofs.lemmas.List.FromFn.{length-range_with_len, length-map-range_with_len, map-range_with_len_more}
use Rattle.nil_pres.specs.declared.syllable.Syllable.{Syllable}
use Rattle.nil_pres.specs.Presented.{Draft, Presented, added, with_name, with_relation, rights_of, finished}
use Rattle.nil_examples.specs.Powers.{name_of, numbered, entry, right_side, row, presentation}
use Rattle.nil_examples.specs.Building.{partly, blank, rows, whole_row, named, so_far, with_row, with_pair}
use Rattle.nil_examples.proofs.Filling.{length-partly, partly-zero, partly-whole, get_or-partly, set-partly, partly-same}
use Rattle.nil_examples.proofs.Numbering.{one_less, one_more, one_first, at_next, map_constant}

abbrev Row : Type 0
Row = List (Option (List Syllable))

abbrev remade : List (List ℕ) → List Row → Draft
remade names rights = record { names = names; rights = rights }

within : (n k : ℕ) → k < n → k < length (range_with_len 1 n)
within n k below = let size = length-range_with_len 1 n in omega (arith, size)

-- what the next pair of a row has
entry_at : (right : ℕ → ℕ → Option Syllable) (j k : ℕ) (e : Option Syllable) → k < j - 1 → right (k + 1) j ≡ e → entry (right (get_or (range_with_len 1 (j - 1)) k 0) j) ≡ entry e
entry_at right j k e below is =
    ap (λ (i : ℕ). entry (right i j)) (at_next (j - 1) k below) ∙ ap entry is

pub length-numbered : (n : ℕ) → length (numbered n) ≡ n
length-numbered n = length-map-range_with_len name_of 1 n

-- names
pub named-next : (k : ℕ) → with_name (named k) (name_of (k + 1)) ≡ named (k + 1)
named-next k =
    let names : numbered k ++ name_of (k + 1) ∷ [] ≡ numbered (k + 1) = sym (map-range_with_len_more name_of 1 k (k + 1) (one_first k)) in
    let width : length (numbered k) ≡ k + 1 - 1 = length-numbered k ∙ sym (one_less k) in
    let rights : map blank (range_with_len 1 k) ++ replicate (length (numbered k)) None ∷ [] ≡ map blank (range_with_len 1 (k + 1)) =
    ap (λ (n : ℕ). map blank (range_with_len 1 k) ++ replicate n None ∷ []) width ∙ sym (map-range_with_len_more blank 1 k (k + 1) (one_first k)) in
    ap (λ (ns : List (List ℕ)). remade ns (map blank (range_with_len 1 k) ++ replicate (length (numbered k)) None ∷ [])) names
    ∙ ap (λ (rs : List Row). remade (numbered (k + 1)) rs) rights

pub named-start : (d : Draft) → d.names ≡ [] → d.rights ≡ [] → d ≡ named 0
named-start d names rights =
    ap (λ (ns : List (List ℕ)). remade ns d.rights) names ∙ ap (λ (rs : List Row). remade [] rs) rights

-- pairs of a row
pub with_row-start : (d : Draft) (j : ℕ) (right : ℕ → ℕ → Option Syllable) → get_or d.rights (j - 1) [] ≡ blank j → d ≡ with_row d j (rows right j 0)
with_row-start d j right is =
    let none : ℕ → Option (List Syllable) = λ _. None in
    let start : rows right j 0 ≡ get_or d.rights (j - 1) [] =
    partly-zero (λ (i : ℕ). entry (right i j)) none (range_with_len 1 (j - 1))
    ∙ map_constant None (range_with_len 1 (j - 1))
    ∙ ap (λ (n : ℕ). replicate n None) (length-range_with_len 1 (j - 1)) ∙ sym is in
    sym (ap (λ (rs : List Row). remade d.names rs)
    (ap (λ (r : Row). set d.rights (j - 1) r) start ∙ set-get_or d.rights (j - 1) []))

next_pair : (d : Draft) (j k : ℕ) (right : ℕ → ℕ → Option Syllable) (power : Syllable) → j - 1 < length d.rights → k < j - 1 → right (k + 1) j ≡ Some power → with_relation (with_row d j (rows right j k)) (k + 1) j (power ∷ []) ≡ with_row d j (rows right j (k + 1))
next_pair d j k right power inside below is =
    let none : ℕ → Option (List Syllable) = λ _. None in
    let r : Row = rows right j k in
    let held : get_or (set d.rights (j - 1) r) (j - 1) [] ≡ r = get_or-set_same d.rights (j - 1) r [] inside in
    let value : entry (right (get_or (range_with_len 1 (j - 1)) k 0) j) ≡ Some (power ∷ []) = entry_at right j k (Some power) below is in
    let filled : set r k (Some (power ∷ [])) ≡ rows right j (suc k) =
    ap (λ (v : Option (List Syllable)). set r k v) (sym value)
    ∙ set-partly (λ (i : ℕ). entry (right i j)) none (range_with_len 1 (j - 1)) k 0 (within (j - 1) k below) in
    ap (λ (rs : List Row). remade d.names rs)
    (ap (λ (i : ℕ). set (set d.rights (j - 1) r) (j - 1) (set (get_or (set d.rights (j - 1) r) (j - 1) []) i (Some (power ∷ [])))) (one_less k)
    ∙ ap (λ (s : Row). set (set d.rights (j - 1) r) (j - 1) (set s k (Some (power ∷ [])))) held
    ∙ ap (λ (s : Row). set (set d.rights (j - 1) r) (j - 1) s) filled
    ∙ set-set d.rights (j - 1) r (rows right j (suc k))
    ∙ ap (λ (i : ℕ). set d.rights (j - 1) (rows right j i)) (one_more k))

no_pair : (d : Draft) (j k : ℕ) (right : ℕ → ℕ → Option Syllable) → k < j - 1 → right (k + 1) j ≡ None → with_row d j (rows right j k) ≡ with_row d j (rows right j (k + 1))
no_pair d j k right below is =
    let none : ℕ → Option (List Syllable) = λ _. None in
    let same : rows right j k ≡ rows right j (suc k) =
    partly-same (λ (i : ℕ). entry (right i j)) none (range_with_len 1 (j - 1)) k 0 (within (j - 1) k below) (entry_at right j k None below is) in
    ap (λ (r : Row). with_row d j r) same ∙ ap (λ (i : ℕ). with_row d j (rows right j i)) (one_more k)

pub with_row-next : (d : Draft) (j k : ℕ) (right : ℕ → ℕ → Option Syllable) (e : Option Syllable) → j - 1 < length d.rights → k < j - 1 → right (k + 1) j ≡ e → with_pair (with_row d j (rows right j k)) (k + 1) j e ≡ with_row d j (rows right j (k + 1))
with_row-next d j k right None inside below is = no_pair d j k right below is
with_row-next d j k right (Some power) inside below is = next_pair d j k right power inside below is

pub added-with_row : (d : Draft) (j k : ℕ) (right : ℕ → ℕ → Option Syllable) → j - 1 < length d.rights → k < j - 1 → added (with_row d j (rows right j k)) (k + 1) j ≡ None
added-with_row d j k right inside below =
    let none : ℕ → Option (List Syllable) = λ _. None in
    let r : Row = rows right j k in
    ap (λ (s : Row). get_or s (k + 1 - 1) None) (get_or-set_same d.rights (j - 1) r [] inside)
    ∙ ap (λ (i : ℕ). get_or r i None) (one_less k)
    ∙ get_or-partly (λ (i : ℕ). entry (right i j)) none (range_with_len 1 (j - 1)) k None 0 (within (j - 1) k below)

pub with_row-whole : (d : Draft) (j k : ℕ) (right : ℕ → ℕ → Option Syllable) → j - 1 ≤ k → with_row d j (rows right j k) ≡ with_row d j (whole_row right j)
with_row-whole d j k right all =
    let none : ℕ → Option (List Syllable) = λ _. None in
    let size = length-range_with_len 1 (j - 1) in
    let most : length (range_with_len 1 (j - 1)) ≤ k = omega (arith, size) in
    ap (λ (r : Row). with_row d j r) (partly-whole (λ (i : ℕ). entry (right i j)) none (range_with_len 1 (j - 1)) k most)

-- rows
pub so_far-start : (n : ℕ) (right : ℕ → ℕ → Option Syllable) → named n ≡ so_far n right 0
so_far-start n right =
    ap (λ (rs : List Row). remade (numbered n) rs) (sym (partly-zero (whole_row right) blank (range_with_len 1 n)))

pub length-so_far : (n k : ℕ) (right : ℕ → ℕ → Option Syllable) → length (so_far n right k).rights ≡ n
length-so_far n k right =
    length-partly (whole_row right) blank (range_with_len 1 n) k ∙ length-range_with_len 1 n

pub so_far-blank : (n k : ℕ) (right : ℕ → ℕ → Option Syllable) → k < n → get_or (so_far n right k).rights (k + 1 - 1) [] ≡ blank (k + 1)
so_far-blank n k right below =
    ap (λ (i : ℕ). get_or (so_far n right k).rights i []) (one_less k)
    ∙ get_or-partly (whole_row right) blank (range_with_len 1 n) k [] 0 (within n k below)
    ∙ ap blank (at_next n k below)

pub so_far-next : (n k : ℕ) (right : ℕ → ℕ → Option Syllable) → k < n → with_row (so_far n right k) (k + 1) (whole_row right (k + 1)) ≡ so_far n right (k + 1)
so_far-next n k right below =
    let before : List Row = partly (whole_row right) blank (range_with_len 1 n) k in
    let filled : set before k (whole_row right (k + 1)) ≡ partly (whole_row right) blank (range_with_len 1 n) (suc k) =
    ap (λ (j : ℕ). set before k (whole_row right j)) (sym (at_next n k below))
    ∙ set-partly (whole_row right) blank (range_with_len 1 n) k 0 (within n k below) in
    ap (λ (rs : List Row). remade (numbered n) rs)
    (ap (λ (i : ℕ). set before i (whole_row right (k + 1))) (one_less k)
    ∙ filled
    ∙ ap (λ (i : ℕ). partly (whole_row right) blank (range_with_len 1 n) i) (one_more k))

-- the presentation in the end
row_seen : (right : ℕ → ℕ → Option Syllable) (j : ℕ) (is : List ℕ) → map (λ (r : Option (List Syllable)). unwrap_or r []) (map (λ i. entry (right i j)) is) ≡ map (λ i. right_side (right i j)) is
row_seen right j [] = refl
row_seen right j (i ∷ is) = ap (λ (rs : List (List Syllable)). right_side (right i j) ∷ rs) (row_seen right j is)

rows_seen : (right : ℕ → ℕ → Option Syllable) (js : List ℕ) → rights_of (map (whole_row right) js) ≡ map (row right) js
rows_seen right [] = refl
rows_seen right (j ∷ js) =
    ap (λ (r : List (List Syllable)). r ∷ rights_of (map (whole_row right) js)) (row_seen right j (range_with_len 1 (j - 1)))
    ∙ ap (λ (rs : List (List (List Syllable))). row right j ∷ rs) (rows_seen right js)

pub finished-so_far : (n k : ℕ) (right : ℕ → ℕ → Option Syllable) → n ≤ k → finished (so_far n right k) ≡ presentation n right
finished-so_far n k right all =
    let size = length-range_with_len 1 n in
    let most : length (range_with_len 1 n) ≤ k = omega (arith, size) in
    let seen : List (List (List Syllable)) → Presented = λ rs. record { names = numbered n; rights = rs } in
    ap seen (ap rights_of (partly-whole (whole_row right) blank (range_with_len 1 n) k most) ∙ rows_seen right (range_with_len 1 n))

pub some_names : (n k : ℕ) (right : ℕ → ℕ → Option Syllable) (d : Draft) → 1 ≤ n → d ≡ so_far n right k → d.names ≡ [] → ⊥
some_names n k right d some is none =
    let size : length d.names ≡ n = ap (λ (e : Draft). length e.names) is ∙ length-numbered n in
    omega (arith, size, ap length none)
