use Rattle.std.proofs.Common.{◌<◌, ◌∙◌, length, sym, subst, arith}
use Rattle.binom_poly.specs.Exponents.{greatest}
use Rattle.poly_subst.specs.Substitute.{RowsOverflow}
use Rattle.poly_subst.specs.Choose.{ChooseOverflows}
use Rattle.binom_poly.proofs.Refusals.{refuses_passed}
use Rattle.poly_subst.proofs.Placing.{length-rows, row_at, rows-set, reach_more, reach_all}
use Rattle.poly_subst.proofs.Running.{row_overflows, rows_fit}
use Rattle.poly_subst.proofs.substituting.grow_rows.Goals as goal

pub loop-place-init : goal.loop-place-init
unfolding RowsOverflow
loop-place-init c = record { rows = c.requires.rows; reach = tt; fits = λ h. h }

pub bounds-rows-place : goal.bounds-rows-place
bounds-rows-place c = omega (arith, c.loop-place-test.true, length-rows c.args.list.now c.loop-place.rows c.loop-place.invariant.rows)

pub grow-requires-clause-row : goal.grow-requires-clause-row
grow-requires-clause-row c =
    row_at c.args.list.now c.loop-place.rows c.loop-place.place c.index-list-place.result c.index-rows-place.result c.loop-place.invariant.rows c.loop-place-test.true c.index-list-place.is

pub returns-in_err-grow-clause-rows : goal.returns-in_err-grow-clause-rows
returns-in_err-grow-clause-rows c =
    rows-set c.args.list.now c.loop-place.rows c.loop-place.place c.index-list-place.result c.grow.new.self c.loop-place.invariant.rows c.loop-place-test.true c.index-list-place.is c.grow.ensures.row

pub returns-in_err-grow-clause-wide : goal.returns-in_err-grow-clause-wide
returns-in_err-grow-clause-wide c =
    refuses_passed c.from_residual.result _ c.from_residual.ensures.1
    c.in_err-grow.ensures.wide
    (λ w. row_overflows c.args.p.now c.args.list.now c.loop-place.place c.index-list-place.result c.loop-place-test.true c.index-list-place.is
    (subst (ChooseOverflows c.index-list-place.result.to) (c.top_of-top.ensures ∙ c.greatest_exponents-tops.ensures.greatest c.index-list-place.result.var) w))

pub loop-place-preserved : goal.loop-place-preserved
loop-place-preserved c =
    let top = c.top_of-top.ensures ∙ c.greatest_exponents-tops.ensures.greatest c.index-list-place.result.var in
    let reaches : greatest c.index-list-place.result.var c.args.p.now < length c.grow.new.self = omega (arith, top, c.in_ok-grow.ensures.reaches) in
    record {
      rows = rows-set c.args.list.now c.loop-place.rows c.loop-place.place c.index-list-place.result c.grow.new.self c.loop-place.invariant.rows c.loop-place-test.true c.index-list-place.is c.in_ok-grow.ensures.row;
      reach = reach_more c.args.p.now c.args.list.now c.loop-place.rows c.loop-place.place c.index-list-place.result c.grow.new.self c.loop-place-test.true c.index-list-place.is
          (length-rows c.args.list.now c.loop-place.rows c.loop-place.invariant.rows) c.loop-place.invariant.reach reaches;
      fits = rows_fit c.args.p.now c.args.list.now c.loop-place.place c.index-list-place.result c.loop-place-test.true c.index-list-place.is c.loop-place.invariant.fits
          (λ h. c.in_ok-grow.ensures.wide (subst (ChooseOverflows c.index-list-place.result.to) (sym top) h));
    }

pub returns-clause-reach : goal.returns-clause-reach
returns-clause-reach c =
    reach_all c.args.p.now c.args.list.now c.loop-place.rows c.loop-place.place c.loop-place-test.false (length-rows c.args.list.now c.loop-place.rows c.loop-place.invariant.rows) c.loop-place.invariant.reach
