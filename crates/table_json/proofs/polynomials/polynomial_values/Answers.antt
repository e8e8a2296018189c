use Rattle.std.proofs.Common.{◌≡◌, ℕ, List, length, Some, ap, sym, subst, ◌∙◌, codes}
use Rattle.std.specs.Prelude.{All}
use Rattle.std.proofs.lemmas.Bool.{false≢true}
use Rattle.std.proofs.lemmas.List.{length-map}
use Rattle.serde_json.specs.Data.{Data}
use Rattle.serde_json.specs.Find.{get}
use Rattle.serde_json.specs.View.{view}
use Rattle.serde_json.specs.declared.value.Value.{Value}
use Rattle.table_json.specs.Format.{array_of}
use Rattle.table_json.specs.Refusing.{HasPolynomials, IsArray}
use Rattle.table_json.specs.Reading.{data_of}
use Rattle.table_json.proofs.Arrays.{array_of-same, arrays_from_test, test_from_arrays, as_array-some}
use Rattle.table_json.proofs.polynomials.polynomial_values.Goals as goal
use Rattle.table_json.proofs.polynomials.polynomial_values.Goals.{else-values-n-via-then-values-n+else-are_arrays, else-values-n-via-else-values-n}

found_values : (d e : Data) (us vs : List Value) → Some e ≡ get (codes "polynomials") d
    → e ≡ array_of (data_of us) → vs ≡ us
    → get (codes "polynomials") d ≡ Some (array_of (data_of vs))
found_values d e us vs g h k =
    sym g ∙ ap Some h ∙ ap (λ ws. Some (array_of (data_of ws))) (sym k)

same_values : (n : ℕ) (d : Data) (vs : List Value) (ds : List Data)
    → get (codes "polynomials") d ≡ Some (array_of (data_of vs)) → HasPolynomials n d ds
    → ds ≡ data_of vs
same_values n d vs ds found has =
    let at : get (codes "polynomials") d ≡ Some (array_of ds) = has.found in
    let arrays : array_of ds ≡ array_of (data_of vs) = cc in
    array_of-same ds (data_of vs) arrays

pub returns-then-are_arrays : goal.returns-then-are_arrays
returns-then-are_arrays c =
    let vs = c.as_slice-values.result.now in
    record {
      found = found_values (view c.args.value.now) _ c.in-Some-as_array.values.now.items vs
          c.in-Some.ensures
          (as_array-some _ _ (sym c.in-Some-as_array.ensures)) c.as_slice-values.ensures.value;
      count = length-map vs view ∙ c.if-values-n.true;
      arrays = arrays_from_test vs (sym c.are_arrays.ensures ∙ c.if-are_arrays.true);
    }

pub returns-else-values-n : goal.returns-else-values-n
returns-else-values-n c ds has =
    let vs = c.as_slice-values.result.now in
    let found = found_values (view c.args.value.now) _ c.in-Some-as_array.values.now.items vs
    c.in-Some.ensures
    (as_array-some _ _ (sym c.in-Some-as_array.ensures)) c.as_slice-values.ensures.value in
    let same = same_values c.args.n (view c.args.value.now) vs ds found has in
    elim c.else-values-n.branch [
      | else-values-n-via-then-values-n+else-are_arrays w ↦
          false≢true (sym w.if-are_arrays.false ∙ w.are_arrays.ensures
          ∙ test_from_arrays vs (subst (All IsArray) same has.arrays))
      | else-values-n-via-else-values-n w ↦
          w.if-values-n.false (sym (length-map vs view) ∙ ap length (sym same) ∙ has.count)
    ]
