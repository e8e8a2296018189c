use Rattle.std.proofs.Common.{◌∙◌, sym}
use Rattle.std.proofs.lemmas.Result.{err_from_is_err_and}
use Rattle.poly_subst.specs.Renaming.{without}
use Rattle.poly_subst.specs.Substitute.{SubstituteOverflows}
use Rattle.poly_subst.specs.Walk.{by_number}
use Rattle.binom_poly.specs.Variable.{y_of}
use Rattle.hall_table.specs.Tabled.{poly_at}
use Rattle.identity_check.specs.Sides.{cleared}
use Rattle.identity_check.specs.Signs.{last_id, number_of}
use Rattle.identity_check.proofs.MadeSides.{kept_overflows, kept_same, last_wide, last_fits, last_left, last_right, wide_tries, compared_as}
use Rattle.identity_check.proofs.last_letters.last_letter.Goals as goal

pub returns-in_err-left-clause-walks : goal.returns-in_err-left-clause-walks
returns-in_err-left-clause-walks c = λ rels.
    let t = c.args.table.now in
    let p = err_from_is_err_and c.from_residual.result c.from_residual.ensures.1 in
    rw (p.1, p.2)
    (wide_tries rels t c.last_id-identity.result (last_id c.args.up c.args.j c.args.k)
    (SubstituteOverflows (without c.args.vars.now c.lend.result.now) c.args.put.now)
    c.in_err-left.field-0.0 c.last_id-identity.ensures
    (λ w. last_wide t c.args.j c.args.k c.args.up
    (kept_overflows c.args.vars.now (cleared t c.args.j) c.lend.result.now (poly_at t c.args.k)
    c.args.put.now (by_number (y_of c.args.j) (number_of c.args.up)) c.requires.cleared c.lend.ensures
    c.requires.put w))
    c.in_err-left.ensures.made)

pub returns-clause-walks : goal.returns-clause-walks
returns-clause-walks c = λ rels.
    let t = c.args.table.now in
    compared_as rels t c.last_id-identity.result (last_id c.args.up c.args.j c.args.k) c.in_ok-left.left
    c.in_ok-right.right c.compare.result c.last_id-identity.ensures
    (c.in_ok-left.ensures.made.0
    ∙ kept_same c.args.vars.now (cleared t c.args.j) c.lend.result.now (poly_at t c.args.k)
    c.args.put.now (by_number (y_of c.args.j) (number_of c.args.up)) c.requires.cleared c.lend.ensures
    c.requires.put ∙ last_left t c.args.j c.args.k c.args.up)
    (c.in_ok-right.ensures.0 ∙ last_right rels t c.args.j c.args.k c.args.up)
    (last_fits t c.args.j c.args.k c.args.up
    (λ w. c.in_ok-left.ensures.made.1
    (kept_overflows (cleared t c.args.j) c.args.vars.now (poly_at t c.args.k) c.lend.result.now
    (by_number (y_of c.args.j) (number_of c.args.up)) c.args.put.now (sym c.requires.cleared)
    (sym c.lend.ensures) (sym c.requires.put) w)))
    c.compare.ensures
