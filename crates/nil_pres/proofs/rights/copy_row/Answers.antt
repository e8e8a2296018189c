use Rattle.std.proofs.Common.{option_map}
use Rattle.nil_pres.proofs.Copying.{map-append_next}
use Rattle.nil_pres.proofs.rights.copy_row.Goals as goal

pub loop-entry-preserved : goal.loop-entry-preserved
loop-entry-preserved c =
    map-append_next (option_map (λ right. right.items)) (option_map (λ right. right.items)) c.loop-entry.copy.items c.push.new.self.items c.args.row.now.items c.deref-entry-items.result.now c.loop-entry.entry-index c.in_ok-copy_entry.field-0 c.entry-item.result
    c.loop-entry.invariant c.in_ok-push.ensures.items c.deref-entry-items.ensures.value c.loop-entry-test.true c.entry-item.is c.in_ok-copy_entry.ensures
