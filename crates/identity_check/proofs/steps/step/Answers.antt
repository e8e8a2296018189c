use Rattle.std.proofs.Common.{◌≡◌, ◌-◌, ◌<◌, ◌∙◌, suc, length, get_or, sym, ap, arith, inl, inr}
use Rattle.std.proofs.lemmas.Result.{err_from_is_err_and}
use Rattle.poly_subst.specs.Substitute.{SubstituteOverflows}
use Rattle.poly_subst.specs.Walk.{in_x, in_y}
use Rattle.hall_table.specs.Tabled.{last_of, poly_at}
use Rattle.hall_table.specs.Order.{generators}
use Rattle.identity_check.specs.Sides.{step}
use Rattle.identity_check.specs.Signs.{number_of, step_id}
use Rattle.identity_check.proofs.MadeSides.{step_wide, step_fits, step_left, step_right, wide_tries, compared_as}
use Rattle.identity_check.proofs.MadeSteps.{put_overflows, put_same}
use Rattle.identity_check.proofs.Putting.{place_within, place_holds}
use Rattle.identity_check.proofs.steps.step.Goals as goal

pub returns-in_err-left-clause-walks : goal.returns-in_err-left-clause-walks
returns-in_err-left-clause-walks c = λ rels.
    let t = c.args.table.now in
    let h = step t c.args.j (number_of c.args.up) in
    let p = err_from_is_err_and c.from_residual.result c.from_residual.ensures.1 in
    rw (p.1, p.2)
    (wide_tries rels t c.step_id-identity.result (step_id c.args.up c.args.j c.args.k)
    (SubstituteOverflows c.lend.result.now c.args.made.now.in_y) c.in_err-left.field-0.0
    c.step_id-identity.ensures
    (λ w. step_wide t c.args.j c.args.k c.args.up
    (inl (put_overflows c.lend.result.now (poly_at t c.args.k) c.args.made.now.in_y
    (in_y t.level (generators t) h) c.lend.ensures c.requires.in_y w)))
    c.in_err-left.ensures.made)

pub index-requires : goal.index-requires
index-requires c =
    let t = c.args.table.now in
    let l : c.args.k - t.level < length c.args.made.now.polys.items =
    place_within t.level (suc (last_of t) - t.level) c.args.k (step t c.args.j (number_of c.args.up))
    c.args.made.now.polys.items (omega arith) (omega arith) c.requires.polys in
    omega (arith, l)

pub returns-in_err-right-clause-walks : goal.returns-in_err-right-clause-walks
returns-in_err-right-clause-walks c = λ rels.
    let t = c.args.table.now in
    let h = step t c.args.j (number_of c.args.up) in
    let place : c.index.result.now ≡ h c.args.k =
    c.index.ensures ∙ ap (λ i. get_or c.args.made.now.polys.items (c.args.k - i) c.index.result.now) c.level.ensures.level
    ∙ place_holds t.level (suc (last_of t) - t.level) c.args.k h c.args.made.now.polys.items
    c.index.result.now (omega arith) (omega arith) c.requires.polys in
    let p = err_from_is_err_and c.from_residual-in_err-right.result
    c.from_residual-in_err-right.ensures.1 in
    rw (p.1, p.2)
    (wide_tries rels t c.step_id-identity.result (step_id c.args.up c.args.j c.args.k)
    (SubstituteOverflows c.index.result.now c.args.put.now) c.in_err-right.field-0.0
    c.step_id-identity.ensures
    (λ w. step_wide t c.args.j c.args.k c.args.up
    (inr (put_overflows c.index.result.now (h c.args.k) c.args.put.now
    (in_x t.level (generators t) (poly_at t)) place c.requires.put w)))
    c.in_err-right.ensures.made)

pub returns-clause-walks : goal.returns-clause-walks
returns-clause-walks c = λ rels.
    let t = c.args.table.now in
    let h = step t c.args.j (number_of c.args.up) in
    let place : c.index.result.now ≡ h c.args.k =
    c.index.ensures ∙ ap (λ i. get_or c.args.made.now.polys.items (c.args.k - i) c.index.result.now) c.level.ensures.level
    ∙ place_holds t.level (suc (last_of t) - t.level) c.args.k h c.args.made.now.polys.items
    c.index.result.now (omega arith) (omega arith) c.requires.polys in
    compared_as rels t c.step_id-identity.result (step_id c.args.up c.args.j c.args.k) c.in_ok-left.left
    c.in_ok-right.right c.compare.result c.step_id-identity.ensures
    (c.in_ok-left.ensures.made.0
    ∙ put_same c.lend.result.now (poly_at t c.args.k) c.args.made.now.in_y (in_y t.level (generators t) h)
    c.lend.ensures c.requires.in_y ∙ step_left t c.args.j c.args.k c.args.up)
    (c.in_ok-right.ensures.made.0
    ∙ put_same c.index.result.now (h c.args.k) c.args.put.now (in_x t.level (generators t) (poly_at t))
    place c.requires.put ∙ step_right rels t c.args.j c.args.k c.args.up)
    (step_fits t c.args.j c.args.k c.args.up
    (λ w. elim w [
      | inl a ↦ c.in_ok-left.ensures.made.1
          (put_overflows (poly_at t c.args.k) c.lend.result.now (in_y t.level (generators t) h)
          c.args.made.now.in_y (sym c.lend.ensures) (sym c.requires.in_y) a)
      | inr b ↦ c.in_ok-right.ensures.made.1
          (put_overflows (h c.args.k) c.index.result.now (in_x t.level (generators t) (poly_at t))
          c.args.put.now (sym place) (sym c.requires.put) b)
    ]))
    c.compare.ensures
