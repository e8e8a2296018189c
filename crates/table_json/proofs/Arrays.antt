-- Arrays and their values.
--   ds es values
use Rattle.std.proofs.Common.{◌≡◌, Bool, ◌&&◌, List, [], ◌∷◌, Some, true, false, ◌∙◌, ap, refl}
use Rattle.std.specs.List.{list_all}
use Rattle.std.specs.Prelude.{All, is_some, map}
use Rattle.std.proofs.lemmas.Bool.{false≢true}
use Rattle.std.proofs.lemmas.List.Elements.{All-nil, All-cons, All-head, All-tail}
use Rattle.serde_json.specs.Data.{Data, null, boolean, number, string, array, object, Items, no_items, item}
use Rattle.serde_json.specs.Find.{as_array}
use Rattle.serde_json.specs.View.{view, items_of}
use Rattle.serde_json.specs.declared.value.Value.{Value}
use Rattle.table_json.specs.Format.{array_of}
use Rattle.table_json.specs.Refusing.{IsArray}

items_of-same : (ds es : List Data) → items_of ds ≡ items_of es → ds ≡ es
items_of-same [] [] e = refl
items_of-same [] (d ∷ es) e = cc
items_of-same (d ∷ ds) [] e = cc
items_of-same (d ∷ ds) (b ∷ es) e =
    let heads : d ≡ b = cc in
    let tails : items_of ds ≡ items_of es = cc in
    ap (λ x. x ∷ ds) heads ∙ ap (λ xs. b ∷ xs) (items_of-same ds es tails)

pub array_of-same : (ds es : List Data) → array_of ds ≡ array_of es → ds ≡ es
array_of-same ds es e =
    let items : items_of ds ≡ items_of es = cc in
    items_of-same ds es items

listed : (is : Items) → (ds : List Data) × (is ≡ items_of ds)
listed no_items = ([], refl)
listed (item d is) = let rest = listed is in (d ∷ rest.0, ap (item d) rest.1)

pub is_array : (d : Data) → is_some (as_array d) ≡ true → IsArray d
is_array null h = absurd (false≢true h)
is_array (boolean b) h = absurd (false≢true h)
is_array (number n) h = absurd (false≢true h)
is_array (string s) h = absurd (false≢true h)
is_array (array is) h = let found = listed is in (found.0, ap array found.1)
is_array (object ms) h = absurd (false≢true h)

pub array_is : (d : Data) → IsArray d → is_some (as_array d) ≡ true
array_is d h = ap (λ e. is_some (as_array e)) h.1

pub as_array-some : (d : Data) (is : Items) → as_array d ≡ Some is → d ≡ array is
as_array-some null is e = cc
as_array-some (boolean b) is e = cc
as_array-some (number n) is e = cc
as_array-some (string s) is e = cc
as_array-some (array js) is e = let same : js ≡ is = cc in ap array same
as_array-some (object ms) is e = cc

both_parts : (a b : Bool) → (a && b) ≡ true → (a ≡ true) × (b ≡ true)
both_parts true b h = (refl, h)
both_parts false b h = absurd (false≢true h)

pub arrays_from_test : (vs : List Value) → list_all (λ v. is_some (as_array (view v))) vs ≡ true
    → All IsArray (map view vs)
arrays_from_test [] h = All-nil IsArray
arrays_from_test (v ∷ vs) h =
    let both = both_parts (is_some (as_array (view v))) (list_all (λ v. is_some (as_array (view v)))
    vs) h in
    All-cons IsArray (view v) (map view vs) (is_array (view v) both.0) (arrays_from_test vs both.1)

pub test_from_arrays : (vs : List Value) → All IsArray (map view vs)
    → list_all (λ v. is_some (as_array (view v))) vs ≡ true
test_from_arrays [] h = refl
test_from_arrays (v ∷ vs) h =
    rw (array_is (view v) (All-head IsArray (view v) (map view vs) h))
    (test_from_arrays vs (All-tail IsArray (view v) (map view vs) h))
