use Rattle.std.proofs.Common.{◌≡◌, ◌≤◌, ℕ, List, length, inl, inr, sym, ◌∙◌, subst, arith}
use Rattle.std.proofs.lemmas.Result.{err_from_is_err_and, IfErr-weaker}
use Rattle.std.specs.Prelude.{IfOk, Result, Ok, Err}
use Rattle.serde_json.specs.Data.{Data}
use Rattle.serde_json.specs.View.{view}
use Rattle.binom_poly.specs.declared.term.Term.{Term}
use Rattle.hall_table.specs.Tabled.{Tabled, IsTabled}
use Rattle.table_json.specs.declared.table_fault.TableFault.{TableFault}
use Rattle.table_json.specs.Saying.{HasHeads, SaysTable}
use Rattle.table_json.specs.Refusing.{HasPolynomials, SaysPolys, RefusesTable, polynomials, term, shape}
use Rattle.table_json.specs.Reading.{data_of}
use Rattle.table_json.proofs.Progress.{says_polys-length}
use Rattle.table_json.proofs.Tables.{said_table}
use Rattle.table_json.proofs.reading.said.Goals as goal

pub returns-in_default-polynomial_values-clause-refused :
    goal.returns-in_default-polynomial_values-clause-refused
returns-in_default-polynomial_values-clause-refused c =
    inr (polynomials c.in_default.ensures c.in_default-polynomial_values.ensures)

pub returns-in_err-polys-clause-refused : goal.returns-in_err-polys-clause-refused
returns-in_err-polys-clause-refused c =
    let p = err_from_is_err_and c.from_residual.result c.from_residual.ensures.1 in
    rw (p.1, p.2) (elim c.in_err-polys.ensures.refused [
      | inl m ↦ inl m
      | inr r ↦ inr (term (data_of c.in-Some-polynomial_values.values.now) c.in_err-polys.field-0.0
          c.in_default.ensures
          c.in-Some-polynomial_values.ensures r)
    ])

count : (n : ℕ) (d : Data) (ds : List Data) (ps : List (List Term)) → HasPolynomials n d ds
    → SaysPolys n ds ps → length ps ≡ n
count n d ds ps has says = sym (says_polys-length n ds ps says) ∙ has.count

pub shaped-requires-clause-nonempty : goal.shaped-requires-clause-nonempty
shaped-requires-clause-nonempty c =
    let many = count c.args.n _ _ c.in_ok-polys.polys.items c.in-Some-polynomial_values.ensures
    c.in_ok-polys.ensures.said in
    let least : 1 ≤ c.args.n = c.requires.least in
    omega (arith, many)

pub shaped-requires-clause-most : goal.shaped-requires-clause-most
shaped-requires-clause-most c =
    let many = count c.args.n _ _ c.in_ok-polys.polys.items c.in-Some-polynomial_values.ensures
    c.in_ok-polys.ensures.said in
    let most : c.args.n ≤ 48 = c.requires.most in
    omega (arith, many)

says : (n : ℕ) (d : Data) (ds : List Data) (ps : List (List Term)) (r : Result Tabled TableFault)
    → HasHeads n d
    → HasPolynomials n d ds → SaysPolys n ds ps → IfOk r (λ t. (t.level ≡ 1) × (t.polys ≡ ps))
    → IfOk r IsTabled → IfOk r (SaysTable n d)
says n d ds ps (Err f) heads has said is form = tt
says n d ds ps (Ok t) heads has said is form =
    said_table n d ds t heads has (subst (SaysPolys n ds) (sym is.1) said) is.0 form

pub returns-clause-said : goal.returns-clause-said
returns-clause-said c =
    says c.args.n (view c.args.value.now) (data_of c.in-Some-polynomial_values.values.now)
    c.in_ok-polys.polys.items
    c.shaped.result c.in_default.ensures c.in-Some-polynomial_values.ensures
    c.in_ok-polys.ensures.said c.shaped.ensures.table
    c.shaped.ensures.form

pub returns-clause-refused : goal.returns-clause-refused
returns-clause-refused c =
    let d = view c.args.value.now in
    IfErr-weaker c.shaped.result _ _
    (λ f h. elim h [
      | inl m ↦ inl m
      | inr found ↦ inr (subst (RefusesTable c.args.n d) (sym found.1)
          (shape (data_of c.in-Some-polynomial_values.values.now) c.in_ok-polys.polys.items found.0
          c.in_default.ensures
          c.in-Some-polynomial_values.ensures c.in_ok-polys.ensures.said found.2))
    ]) c.shaped.ensures.refused
