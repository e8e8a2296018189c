use Rattle.nil_pres.specs.Views.{row_of}
use Rattle.nil_pres.proofs.Copying.{map-append_next}
use Rattle.nil_pres.proofs.rights.copy_rows.Goals as goal

pub loop-row-preserved : goal.loop-row-preserved
loop-row-preserved c =
    map-append_next row_of row_of c.loop-row.copy.items c.push.new.self.items c.args.rows.now.items c.deref-row-items.result.now c.loop-row.row-index c.in_ok-copy_row.field-0 c.row-item.result
    c.loop-row.invariant c.in_ok-push.ensures.items c.deref-row-items.ensures.value c.loop-row-test.true c.row-item.is c.in_ok-copy_row.ensures
