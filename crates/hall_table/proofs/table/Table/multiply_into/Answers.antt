use Rattle.std.proofs.Common.{length, ap, ◌∙◌}
use Rattle.std.proofs.lemmas.Result.{err_from_is_err_and}
use Rattle.hall_table.proofs.Entries.{length-values}
use Rattle.hall_table.proofs.Multiplied.{rows_hold, sum_named, product_written, values_written}
use Rattle.hall_table.proofs.table.Table.multiply_into.Goals as goal

-- the rows overflowed nowhere, and hold the two vectors
pub returns-in_err-put_sums-clause-product : goal.returns-in_err-put_sums-clause-product
returns-in_err-put_sums-clause-product c =
    let p = err_from_is_err_and c.from_residual-in_err-put_sums.result
    c.from_residual-in_err-put_sums.ensures.1 in
    rw (p.1, p.2)
    (sum_named c.args.self.now c.args.a.now c.args.b.now c.put_y.new.rows
    c.in_err-put_sums.field-0.0 c.last-last.ensures.form
    (rows_hold c.args.self.now c.args.a.now c.args.b.now c.put_x.new.rows c.put_y.new.rows
    c.last-last.ensures.form c.in_ok-put_x.ensures.put c.in_ok-put_y.ensures.put
    c.in_ok-put_y.ensures.kept)
    c.in_ok-put_x.ensures.first c.in_ok-put_y.ensures.first c.in_err-put_sums.ensures.first)

pub returns-clause-values : goal.returns-clause-values
returns-clause-values c =
    values_written c.args.self.now c.args.a.now c.args.b.now c.put_y.new.rows c.put_sums.new.sums
    c.write.new.out c.level-level.result c.last-last.result c.last-last.ensures.form
    (rows_hold c.args.self.now c.args.a.now c.args.b.now c.put_x.new.rows c.put_y.new.rows
    c.last-last.ensures.form c.in_ok-put_x.ensures.put c.in_ok-put_y.ensures.put
    c.in_ok-put_y.ensures.kept)
    c.in_ok-put_sums.ensures.sums c.level-level.ensures.level c.last-last.ensures.last c.write.ensures

pub returns-clause-product : goal.returns-clause-product
returns-clause-product c =
    product_written c.args.self.now c.args.a.now c.args.b.now c.write.new.out c.put_y.new.rows
    c.last-last.ensures.form
    (rows_hold c.args.self.now c.args.a.now c.args.b.now c.put_x.new.rows c.put_y.new.rows
    c.last-last.ensures.form c.in_ok-put_x.ensures.put c.in_ok-put_y.ensures.put
    c.in_ok-put_y.ensures.kept)
    c.in_ok-put_x.ensures.first c.in_ok-put_y.ensures.first c.in_ok-put_sums.ensures.first
    (returns-clause-values c)

pub returns-clause-length : goal.returns-clause-length
returns-clause-length c =
    ap length (returns-clause-values c) ∙ length-values c.args.self.now c.args.a.now c.args.b.now
