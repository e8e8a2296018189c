use Rattle.std.proofs.Common.{◌≡◌, ◌+◌, List, Some, None, inl, inr, sym, ◌∙◌, ap, subst, arith}
use Rattle.std.proofs.lemmas.Result.{err_from_is_err_and}
use Rattle.serde_json.specs.Data.{Data}
use Rattle.serde_json.specs.View.{view, items_view}
use Rattle.serde_json.specs.Find.{as_array}
use Rattle.serde_json.specs.declared.value.Value.{Value}
use Rattle.binom_poly.specs.declared.term.Term.{Term}
use Rattle.table_json.specs.Format.{array_of}
use Rattle.table_json.specs.Refusing.{SaysTerms}
use Rattle.table_json.specs.TermRules.{RefusesTerm, SaysTerm}
use Rattle.table_json.specs.Reading.{data_of, last_monomial}
use Rattle.table_json.proofs.Arrays.{as_array-some}
use Rattle.table_json.proofs.Forms.{is_polynomial}
use Rattle.table_json.proofs.Progress.{SaysOn, RefusesOn, refuses_on-here, refuses_on-more, says_on-end, says_on-more}
use Rattle.table_json.proofs.terms.poly.Goals as goal

array_is : (d : Data) (us vs : List Value) → Some (items_view us) ≡ as_array d → vs ≡ us
    → d ≡ array_of (data_of vs)
array_is d us vs e f = as_array-some d _ (sym e) ∙ ap (λ ws. array_of (data_of ws)) (sym f)

pub returns-in_err-term-clause-refused : goal.returns-in_err-term-clause-refused
returns-in_err-term-clause-refused c =
    let p = err_from_is_err_and c.from_residual.result c.from_residual.ensures.1 in
    let vs = c.deref-value-items.result.now in
    rw (p.1, p.2) (elim c.in_err-term.ensures.refused [
      | inl m ↦ inl m
      | inr r ↦ inr (
        data_of vs,
        array_is (view c.args.value.now) c.in-Some.values.now.items vs c.in-Some.ensures
            c.deref-value-items.ensures.value,
        refuses_on-here c.args.n vs c.loop-value.value-index c.loop-value.terms.items
            c.value-item.result
            c.in_err-term.field-0.0 (omega arith) c.value-item.is
            (subst (λ (ts : List Term). RefusesTerm c.args.n (last_monomial ts) (view
            c.value-item.result) c.in_err-term.field-0.0) c.as_slice.ensures.value r)
            c.loop-value.invariant.refuses,
      )
    ])

pub loop-value-preserved : goal.loop-value-preserved
loop-value-preserved c =
    let vs = c.deref-value-items.result.now in
    let i = c.loop-value.value-index in
    let done = c.loop-value.terms.items in
    let says = subst (λ (ts : List Term). SaysTerm c.args.n (last_monomial ts) (view
    c.value-item.result) c.in_ok-term.term) c.as_slice.ensures.value c.in_ok-term.ensures.said
    in
    record {
      says =
          subst (SaysOn c.args.n vs (i + 1)) (sym c.in_ok-push.ensures.items)
          (says_on-more c.args.n vs i done c.value-item.result c.in_ok-term.term (omega arith)
          c.value-item.is says
          c.loop-value.invariant.says);
      refuses =
          subst (RefusesOn c.args.n vs (i + 1)) (sym c.in_ok-push.ensures.items)
          (refuses_on-more c.args.n vs i done c.value-item.result c.in_ok-term.term (omega arith)
          c.value-item.is says
          c.loop-value.invariant.refuses);
    }

pub of-requires : goal.of-requires
of-requires c =
    let vs = c.deref-value-items.result.now in
    is_polynomial c.args.n None (data_of vs) c.loop-value.terms.items c.requires.generators
    (says_on-end c.args.n vs c.loop-value.value-index c.loop-value.terms.items (omega arith)
    c.loop-value.invariant.says)

pub returns-clause-said : goal.returns-clause-said
returns-clause-said c =
    let vs = c.deref-value-items.result.now in (
      data_of vs,
      array_is (view c.args.value.now) c.in-Some.values.now.items vs c.in-Some.ensures
          c.deref-value-items.ensures.value,
      subst (SaysTerms c.args.n None (data_of vs)) (sym c.of.ensures)
          (says_on-end c.args.n vs c.loop-value.value-index c.loop-value.terms.items (omega arith)
          c.loop-value.invariant.says),
    )
