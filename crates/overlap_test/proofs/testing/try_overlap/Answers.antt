use Rattle.std.proofs.Common.{sym, subst}
use Rattle.nil_pres.specs.Presented.{Presented}
use Rattle.hall_table.specs.Tabled.{IsTabled}
use Rattle.overlap_test.specs.Commuting.{DoCommute}
use Rattle.overlap_test.proofs.testing.try_overlap.Goals as goal

pub returns-then-do_commute-clause-order : goal.returns-then-do_commute-clause-order
returns-then-do_commute-clause-order c =
    let d = c.args.above.now in
    let commute = subst (λ (p : Presented). DoCommute p c.args.i c.args.j c.args.k)
    c.pres.ensures.pres (c.do_commute.ensures.0 c.if-do_commute.true) in
    sym (c.commuting_agree.ensures d c.args.i c.requires.room.presented
    (subst IsTabled c.table.ensures.table c.level-level.ensures.form)
    c.requires.room.checked c.requires.least c.requires.level c.args.j c.args.k c.requires.below
    c.requires.above c.requires.most commute)
