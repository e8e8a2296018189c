use Rattle.std.proofs.Common.{arith}
use Rattle.binom_poly.specs.Variable.{y_of}
use Rattle.hall_table.specs.declared.wide_at.WideAt.TheVariants.{RowX, RowY}
use Rattle.hall_table.specs.Width.{width_for}
use Rattle.hall_table.proofs.Covering.{x_positive, y_positive}
use Rattle.identity_check.proofs.PairEntries.{row_of_one}
use Rattle.identity_check.proofs.PutPairs.{is_put, put_is, pair_put, others_put}
use Rattle.identity_check.proofs.pairs.put_pair.Goals as goal

-- a row of 1 fits
pub unwrap-requires : goal.unwrap-requires
unwrap-requires c =
    is_put c.set_x.result (RowX c.args.l) _ (row_of_one (width_for c.args.table.now c.args.l))
    c.set_x.ensures.wide

pub unwrap-requires-2 : goal.unwrap-requires-2
unwrap-requires-2 c =
    is_put c.set_y.result (RowY c.args.j) _ (row_of_one (width_for c.args.table.now (y_of c.args.j)))
    c.set_y.ensures.wide

pub returns-clause-put : goal.returns-clause-put
returns-clause-put c =
    let t = c.args.table.now in
    pair_put t c.args.j c.args.l c.args.rows.now c.set_x.new.rows c.set_y.new.rows c.last.ensures.form
    record { low = omega arith; high = omega arith } record { low = omega arith; high = omega arith }
    c.requires.zeros
    (x_positive t c.args.rows.now c.args.l c.requires.rows (omega arith) (omega arith))
    (y_positive t c.set_x.new.rows c.args.j c.set_x.ensures.rows (omega arith) (omega arith))
    (put_is c.set_x.result (RowX c.args.l) _ _ (row_of_one (width_for t c.args.l)) c.set_x.ensures.wide
    c.set_x.ensures.ok)
    (put_is c.set_y.result (RowY c.args.j) _ _ (row_of_one (width_for t (y_of c.args.j)))
    c.set_y.ensures.wide c.set_y.ensures.ok)

pub returns-clause-others : goal.returns-clause-others
returns-clause-others c =
    let t = c.args.table.now in
    others_put c.args.j c.args.l c.args.rows.now c.set_x.new.rows c.set_y.new.rows c.requires.zeros
    (put_is c.set_x.result (RowX c.args.l) _ _ (row_of_one (width_for t c.args.l)) c.set_x.ensures.wide
    c.set_x.ensures.ok)
    (put_is c.set_y.result (RowY c.args.j) _ _ (row_of_one (width_for t (y_of c.args.j)))
    c.set_y.ensures.wide c.set_y.ensures.ok)
