use Rattle.std.proofs.Common.{◌+◌, take, [], sym, subst}
use Rattle.poly_subst.specs.Rows.{AllRows}
use Rattle.poly_subst.proofs.Placing.{first_rows-more}
use Rattle.poly_subst.proofs.substituting.first_rows.Goals as goal

pub loop-assign-init : goal.loop-assign-init
loop-assign-init c = subst (AllRows []) (sym c.in_ok-rows.ensures.items) tt

pub loop-assign-preserved : goal.loop-assign-preserved
loop-assign-preserved c =
    subst (AllRows (take (c.loop-assign._assign-index + 1) c.args.list.now)) (sym c.in_ok-push.ensures.items)
    (first_rows-more c.args.list.now c.loop-assign.rows.items c.loop-assign._assign-index c.in_ok-row.row c.loop-assign-test.true c.loop-assign.invariant c.in_ok-row.ensures)
