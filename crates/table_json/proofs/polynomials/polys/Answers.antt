use Rattle.std.proofs.Common.{◌+◌, inl, inr, sym, subst, arith}
use Rattle.std.proofs.lemmas.Result.{err_from_is_err_and}
use Rattle.table_json.proofs.Progress.{SaysPolysOn, array_at, refuses_polys_on-here, refuses_polys_on-more, says_polys_on-end, says_polys_on-more}
use Rattle.table_json.proofs.polynomials.polys.Goals as goal

pub poly-requires-clause-array : goal.poly-requires-clause-array
poly-requires-clause-array c =
    array_at c.args.values.now c.loop-value.value-index c.value-item.result (omega arith)
    c.value-item.is c.requires.arrays

pub returns-in_err-poly-clause-refused : goal.returns-in_err-poly-clause-refused
returns-in_err-poly-clause-refused c =
    let p = err_from_is_err_and c.from_residual.result c.from_residual.ensures.1 in
    rw (p.1, p.2) (elim c.in_err-poly.ensures.refused [
      | inl m ↦ inl m
      | inr r ↦ inr (refuses_polys_on-here c.args.n c.args.values.now c.loop-value.value-index
          c.value-item.result
          c.in_err-poly.field-0.0 (omega arith) c.value-item.is r c.loop-value.invariant.refuses)
    ])

pub loop-value-preserved : goal.loop-value-preserved
loop-value-preserved c =
    let vs = c.args.values.now in
    let i = c.loop-value.value-index in
    record {
      says =
          subst (SaysPolysOn c.args.n vs (i + 1)) (sym c.in_ok-push.ensures.items)
          (says_polys_on-more c.args.n vs i c.loop-value.polys.items c.value-item.result
          c.in_ok-poly.poly (omega arith)
          c.value-item.is c.in_ok-poly.ensures.said c.loop-value.invariant.says);
      refuses =
          refuses_polys_on-more c.args.n vs i c.value-item.result c.in_ok-poly.poly (omega arith)
          c.value-item.is
          c.in_ok-poly.ensures.said c.loop-value.invariant.refuses;
    }

pub returns-clause-said : goal.returns-clause-said
returns-clause-said c =
    says_polys_on-end c.args.n c.args.values.now c.loop-value.value-index c.loop-value.polys.items
    (omega arith)
    c.loop-value.invariant.says
