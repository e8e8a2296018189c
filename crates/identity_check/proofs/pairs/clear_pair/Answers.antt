use Rattle.std.proofs.Common.{arith}
use Rattle.binom_poly.specs.Variable.{y_of}
use Rattle.hall_table.proofs.Covering.{x_positive, y_positive}
use Rattle.identity_check.proofs.PutPairs.{zeros_cleared, zero_set}
use Rattle.identity_check.proofs.pairs.clear_pair.Goals as goal

pub returns-clause-zeros : goal.returns-clause-zeros
returns-clause-zeros c =
    let t = c.args.table.now in
    zeros_cleared c.args.j c.args.l c.args.rows.now c.set_x.new.rows c.set_y.new.rows
    c.requires.others
    (x_positive t c.args.rows.now c.args.l c.requires.rows (omega arith) (omega arith))
    (y_positive t c.set_x.new.rows c.args.j c.set_x.ensures.rows (omega arith) (omega arith))
    (zero_set c.set_x.result _ _ c.args.l c.set_x.ensures.ok c.set_x.ensures.err)
    (zero_set c.set_y.result _ _ (y_of c.args.j) c.set_y.ensures.ok c.set_y.ensures.err)
