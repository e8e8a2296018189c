use Rattle.std.proofs.Common.{◌+◌, refl, sym, arith}
use Rattle.hall_table.proofs.Following.{fit_more, all_fit, wide_named}
use Rattle.hall_table.proofs.summing.first_fits.Goals as goal

pub returns-then-overflows-clause-first : goal.returns-then-overflows-clause-first
returns-then-overflows-clause-first c =
    wide_named c.args.level c.args.sums.now c.loop-place.place (c.args.level + c.loop-place.place) _ c.overflows.result c.loop-place-test.true refl refl c.overflows.ensures c.if-overflows.true c.loop-place.invariant

pub loop-place-preserved : goal.loop-place-preserved
loop-place-preserved c = fit_more c.args.sums.now c.loop-place.place _ c.overflows.result refl c.overflows.ensures c.if-overflows.false c.loop-place.invariant

pub returns-clause-first : goal.returns-clause-first
returns-clause-first c = all_fit c.args.level c.args.sums.now c.loop-place.place c.loop-place-test.false c.loop-place.invariant

pub returns-clause-fits : goal.returns-clause-fits
returns-clause-fits c k l = c.loop-place.invariant.fits k (omega (arith, c.loop-place-test.false))
