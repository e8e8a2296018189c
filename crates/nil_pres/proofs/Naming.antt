-- A name that is added.
use Rattle.std.proofs.Common.{zero, String, string_bytes, Vec, option_map, ◌≡◌, ◌≢◌, ℕ, suc, ◌+◌, ◌-◌, ◌<◌, ◌≤◌, Bool, true, false, not, ◌||◌, if◌then◌else◌, List, [], ◌∷◌, ◌++◌, length, map, get_or, take, replicate, Option, Some, None, IfSome, refl, sym, ◌∙◌, ap, subst, inl, inr, arith, nat_le, length-append, length-take}
use Rattle.std.proofs.lemmas.List.{map-append, length-map, length-replicate, get_or_append_left, get_or-append_right, get_or-take, get_or_default, get_or-map, take_more}
use Rattle.std.proofs.lemmas.List.Folds.{list_any_at, list_any_none}
use Rattle.std.proofs.lemmas.Slice.Eq.{bytes_eq-Decides}
use Rattle.std.proofs.Math.Seq.{get_or-append_seam}
use Rattle.std.proofs.lemmas.Bool.{leb-false, cases_lt, not-false, false_from_ne_true}
use Rattle.std.specs.List.{list_any}
use Rattle.std.specs.Str.{bytes_eq}
use Rattle.std.specs.String.{string_eq}
use Rattle.std.specs.declared.alloc.Global.{Global}
use Rattle.std.specs.declared.hash.FoldHasher.{FoldHasher}
use Rattle.std.specs.declared.hash.BuildHasherDefault.{BuildHasherDefault}
use Rattle.indexmap.specs.IndexSet.{IndexSet, insert_key}
use Rattle.nil_pres.specs.Views.{row_of, view_of}
use Rattle.nil_pres.specs.declared.builder.Builder.TheInside.{Inside}
use Rattle.nil_pres.specs.declared.syllable.Syllable.{Syllable}
use Rattle.nil_pres.specs.Rights.{IsRight}
use Rattle.nil_pres.specs.Presented.{Draft, AreNames, IsDraft, added, is_name, name_fault_among, name_fault_of, with_name}
use Rattle.nil_pres.proofs.Syllables.{IsRight-higher}

pub list_any-map : {X Y : Type 0} (p : Y → Bool) (f : X → Y) (xs : List X) → list_any p (map f xs) ≡ list_any (λ x. p (f x)) xs
list_any-map p f [] = refl
list_any-map p f (x ∷ xs) = ap (λ (b : Bool). p (f x) || b) (list_any-map p f xs)

passes : {A : Type 0} (b : Bool) (x : A) (r : Option A) → (if b then Some x else r) ≡ None → (b ≡ false) × (r ≡ None)
passes true x r h = cc
passes false x r h = (refl, h)

-- a name without fault is a name, there is room for it, and it isn't there
pub free : (names : List (List ℕ)) (name : List ℕ) → name_fault_among names name ≡ None → (length names < 48) × (is_name name ≡ true) × (list_any (bytes_eq name) names ≡ false)
free names name h =
    let a = passes (nat_le 48 (length names)) _ _ h in
    let b = passes (not (is_name name)) _ _ a.1 in
    let d = passes (list_any (bytes_eq name) names) _ _ b.1 in
    (leb-false 48 (length names) a.0, not-false (is_name name) b.0, d.0)

-- a name that isn't there is different from each that is
absent_differs : (names : List (List ℕ)) (name : List ℕ) (k : ℕ) → list_any (bytes_eq name) names ≡ false → k < length names → get_or names k [] ≢ name
absent_differs names name k h below e =
    let there : list_any (bytes_eq name) names ≡ true = list_any_at (bytes_eq name) names k [] below ((bytes_eq-Decides name (get_or names k [])).1 (sym e)) in
    cc

pub AreNames-append : (names : List (List ℕ)) (name : List ℕ) → AreNames names → name_fault_among names name ≡ None → AreNames (names ++ name ∷ [])
AreNames-append names name h none =
    let f = free names name none in
    record {
      few = omega (arith, length-append names (name ∷ []), f.0);
      lawful = λ k below.
          elim (cases_lt k (length names)) as (λ _. is_name (get_or (names ++ name ∷ []) k []) ≡ true) [
            | inl old ↦ ap is_name (get_or_append_left names (name ∷ []) [] k old) ∙ h.lawful k old
            | inr last ↦ ap is_name (at_last k below last) ∙ f.1
          ];
      different = λ k l less below.
          let old : k < length names = omega (arith, length-append names (name ∷ [])) in
          elim (cases_lt l (length names)) as (λ _. get_or (names ++ name ∷ []) k [] ≢ get_or (names ++ name ∷ []) l []) [
            | inl both ↦ λ e. h.different k l less both (sym (get_or_append_left names (name ∷ []) [] k old) ∙ (e ∙ get_or_append_left names (name ∷ []) [] l both))
            | inr last ↦ λ e. absent_differs names name k f.2 old (sym (get_or_append_left names (name ∷ []) [] k old) ∙ (e ∙ at_last l below last))
          ];
    }
  where
    at_last : (k : ℕ) → k < length (names ++ name ∷ []) → length names ≤ k → get_or (names ++ name ∷ []) k [] ≡ name
    at_last k below last =
        let k_is : k ≡ length names = omega (arith, length-append names (name ∷ [])) in
        ap (λ (m : ℕ). get_or (names ++ name ∷ []) m []) k_is ∙ get_or-append_seam names name [] []

-- the next name isn't among those before it
pub absent_before : (names : List (List ℕ)) (k : ℕ) → AreNames names → k < length names → list_any (bytes_eq (get_or names k [])) (take k names) ≡ false
absent_before names k h below =
    list_any_none (bytes_eq (get_or names k [])) (take k names)
    (λ l d less.
    let l_is : l < k = omega (arith, length-take k names) in
    let same : get_or (take k names) l d ≡ get_or names l [] = get_or-take k names l d l_is ∙ get_or_default names l d [] (omega arith) in
    differs (get_or names k []) (get_or (take k names) l d) (λ e. h.different l k l_is below (sym same ∙ sym e)))
  where
    differs : (a b : List ℕ) → (a ≡ b → ⊥) → bytes_eq a b ≡ false
    differs a b h = false_from_ne_true (bytes_eq a b) (λ e. h ((bytes_eq-Decides a b).0 e))

abbrev empty : Draft → List (Option (List Syllable))
empty d = replicate (length d.names) None

-- nothing was added for a new generator
none_added : (n m i : ℕ) → let row : List (Option (List Syllable)) = replicate n None in get_or (get_or (row ∷ []) m []) i None ≡ None
none_added n zero i = none_there n i
  where
    none_there : (n i : ℕ) → let row : List (Option (List Syllable)) = replicate n None in get_or row i None ≡ None
    none_there zero i = refl
    none_there (suc n) zero = refl
    none_there (suc n) (suc i) = none_there n i
none_added n (suc m) i = refl

pub IsDraft-with_name : (d : Draft) (name : List ℕ) → IsDraft d → name_fault_of d name ≡ None → IsDraft (with_name d name)
IsDraft-with_name d name h none = record {
  names = AreNames-append d.names name h.names none;
  rows = omega (arith, length-append d.names (name ∷ []), length-append d.rights (empty d ∷ []), h.rows);
  widths = λ k l.
      elim (cases_lt k (length d.rights)) as (λ _. length (get_or (d.rights ++ empty d ∷ []) k []) ≡ k) [
        | inl below ↦ ap length (get_or_append_left d.rights (empty d ∷ []) [] k below) ∙ h.widths k below
        | inr above ↦
            let k_is : k ≡ length d.rights = omega (arith, length-append d.rights (empty d ∷ [])) in
            let zero_is : k - length d.rights ≡ 0 = omega arith in
            ap length (get_or-append_right d.rights (empty d ∷ []) (length d.rights) k [] refl above)
            ∙ (ap (λ (m : ℕ). length (get_or (empty d ∷ []) m [])) zero_is ∙ (length-replicate {A = Option (List Syllable)} (length d.names) None ∙ omega (arith, h.rows)))
      ];
  lawful = λ i j first below.
      let more : length d.names ≤ length (d.names ++ name ∷ []) = omega (arith, length-append d.names (name ∷ [])) in
      elim (cases_lt (j - 1) (length d.rights)) as (λ _. IfSome (added (with_name d name) i j) (IsRight j (length (d.names ++ name ∷ [])))) [
        | inl old ↦
            let same : added (with_name d name) i j ≡ added d i j = ap (λ (row : List (Option (List Syllable))). get_or row (i - 1) None) (get_or_append_left d.rights (empty d ∷ []) [] (j - 1) old) in
            subst (λ (o : Option (List Syllable)). IfSome o (IsRight j (length (d.names ++ name ∷ [])))) (sym same) (higher j more (added d i j) (h.lawful i j first below))
        | inr new ↦
            let none_is : added (with_name d name) i j ≡ None =
            ap (λ (row : List (Option (List Syllable))). get_or row (i - 1) None) (get_or-append_right d.rights (empty d ∷ []) (length d.rights) (j - 1) [] refl new) ∙ none_added (length d.names) (j - 1 - length d.rights) (i - 1) in
            subst (λ (o : Option (List Syllable)). IfSome o (IsRight j (length (d.names ++ name ∷ [])))) (sym none_is) tt
      ];
}
  where
    higher : (j : ℕ) → length d.names ≤ length (d.names ++ name ∷ []) → (o : Option (List Syllable)) → IfSome o (IsRight j (length d.names)) → IfSome o (IsRight j (length (d.names ++ name ∷ [])))
    higher j more None p = tt
    higher j more (Some right) p = IsRight-higher j (length d.names) (length (d.names ++ name ∷ [])) right more p

module _ (keys : List (String Global)) (text : String Global) (name : List ℕ) (is : string_bytes text ≡ name) where
  absent : list_any (bytes_eq name) (map string_bytes keys) ≡ false → list_any (string_eq text) keys ≡ false
  absent h = subst (λ (bs : List ℕ). list_any (λ (k : String Global). bytes_eq bs (string_bytes k)) keys ≡ false) (sym is) (sym (list_any-map (bytes_eq name) string_bytes keys) ∙ h)

  -- a name that isn't there goes last
  pub put_keys : list_any (bytes_eq name) (map string_bytes keys) ≡ false → map string_bytes (insert_key string_eq keys text) ≡ map string_bytes keys ++ name ∷ []
  put_keys h =
      ap (λ (b : Bool). map string_bytes (if b then keys else keys ++ text ∷ [])) (absent h)
      ∙ (map-append string_bytes keys (text ∷ []) ∙ ap (λ (bs : List ℕ). map string_bytes keys ++ bs ∷ []) is)

-- a row of entries that weren't added
pub row_of-replicate : (n : ℕ) → map (option_map (λ (v : Vec Syllable Global). v.items)) (replicate n None) ≡ replicate n None
row_of-replicate zero = refl
row_of-replicate (suc n) = ap (λ (r : List (Option (List Syllable))). None ∷ r) (row_of-replicate n)

-- the view after a name and a row were put
pub view_named : (b : Inside) (names : IndexSet (String Global) (BuildHasherDefault FoldHasher)) (rights : Vec (Vec (Option (Vec Syllable Global)) Global) Global) (row : Vec (Option (Vec Syllable Global)) Global) (name : List ℕ) → map string_bytes names.keys ≡ map string_bytes b.names.keys ++ name ∷ [] → rights.items ≡ b.rights.items ++ row ∷ [] → row.items ≡ replicate (length b.names.keys) None → view_of (record { names = names; rights = rights }) ≡ with_name (view_of b) name
view_named b names rights row name e f g =
    let rows : map row_of rights.items ≡ map row_of b.rights.items ++ row_of row ∷ [] = ap (λ (rs : List (Vec (Option (Vec Syllable Global)) Global)). map row_of rs) f ∙ map-append row_of b.rights.items (row ∷ []) in
    let new : row_of row ≡ replicate (length (map string_bytes b.names.keys)) None =
    ap (λ (r : List (Option (Vec Syllable Global))). map (option_map (λ (v : Vec Syllable Global). v.items)) r) g
    ∙ (row_of-replicate (length b.names.keys) ∙ ap (λ (n : ℕ). replicate {A = Option (List Syllable)} n None) (sym (length-map b.names.keys string_bytes))) in
    let all : map row_of rights.items ≡ map row_of b.rights.items ++ replicate (length (map string_bytes b.names.keys)) None ∷ [] = rows ∙ ap (λ (r : List (Option (List Syllable))). map row_of b.rights.items ++ r ∷ []) new in
    rw (e, all) refl

-- one more name of a list whose names are all different
module _ (all part : List (String Global)) (items : List (String Global)) (k : ℕ) (name : String Global) (h : AreNames (map string_bytes all)) (so_far : map string_bytes part ≡ take k (map string_bytes all)) (are : items ≡ all) (below : k < length items) (is : name ≡ get_or items k name) where
  within : k < length (map string_bytes all)
  within = omega (arith, ap length are, length-map all string_bytes)

  here : get_or (map string_bytes all) k [] ≡ string_bytes name
  here = get_or-map string_bytes all k name [] (omega (arith, ap length are)) ∙ ap string_bytes (sym (is ∙ ap (λ (l : List (String Global)). get_or l k name) are))

  pub next_absent : list_any (bytes_eq (string_bytes name)) (map string_bytes part) ≡ false
  next_absent =
      ap (list_any (bytes_eq (string_bytes name))) so_far
      ∙ (ap (λ (bs : List ℕ). list_any (bytes_eq bs) (take k (map string_bytes all))) (sym here) ∙ absent_before (map string_bytes all) k h within)

  pub next_put : map string_bytes part ++ string_bytes name ∷ [] ≡ take (k + 1) (map string_bytes all)
  next_put = ap (λ (t : List (List ℕ)). t ++ string_bytes name ∷ []) so_far ∙ (ap (λ (bs : List ℕ). take k (map string_bytes all) ++ bs ∷ []) (sym here) ∙ sym (take_more (map string_bytes all) k [] within))
