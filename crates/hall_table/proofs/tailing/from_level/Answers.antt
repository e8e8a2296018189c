use Rattle.std.proofs.Common.{arith}
use Rattle.hall_table.proofs.Tails.{kept_form}
use Rattle.hall_table.proofs.tailing.from_level.Goals as goal

-- terms that stay keep their order
pub of-requires : goal.of-requires
of-requires c =
    kept_form c.args.level c.loop-term.term-index c.loop-term.kept.items c.terms-term-items.result.now c.args.poly.now
    c.loop-term.invariant (omega arith) c.terms-term-items.ensures.terms
    c.terms-term-items.ensures.form
