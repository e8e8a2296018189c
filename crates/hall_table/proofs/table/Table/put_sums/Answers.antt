use Rattle.std.proofs.Common.{◌≡◌, ◌∙◌, ap, sym, subst}
use Rattle.binom_poly.specs.Readings.{value_at}
use Rattle.hall_table.proofs.Sums.{same_first, named_first_sum, sum_values}
use Rattle.hall_table.proofs.table.Table.put_sums.Goals as goal

pub returns-clause-first : goal.returns-clause-first
returns-clause-first c =
    named_first_sum c.args.self.now (value_at c.args.rows.now) c.sum_up.new.sums c.level.result c.first_fits.result c.last.ensures.form c.sum_up.ensures.sums c.level.ensures.level c.sum_up.ensures.length c.first_fits.ensures.first

pub returns-clause-sums : goal.returns-clause-sums
returns-clause-sums c =
    sum_values c.args.self.now (value_at c.args.rows.now) c.sum_up.new.sums c.first_fits.result c.last.ensures.form c.sum_up.ensures.sums c.sum_up.ensures.length c.first_fits.ensures.fits
