use Rattle.std.proofs.Common.{sym, subst}
use Rattle.nil_num.specs.Outcome.{Writes}
use Rattle.nil_pres.specs.Presented.{IsPresented}
use Rattle.hall_table.specs.Tabled.{IsTabled}
use Rattle.group_eval.specs.Syllables.{appended}
use Rattle.group_eval.proofs.syllables.append.Goals as goal

-- the law, at this presentation and its table
pub returns-clause-order : goal.returns-clause-order
returns-clause-order c =
    let x = c.args.left.now in
    let k = c.args.syllable.generator in
    let e = c.args.syllable.exponent in
    let law =
    c.last_syllables.ensures c.args.checked.now
    (subst IsPresented c.pres.ensures.pres c.count-count.ensures.lawful)
    (subst IsTabled c.table.ensures.table c.level-level.ensures.form) c.pres.ensures.multiplies
    x k e record { vector = c.requires.left; small = c.entries-entries.ensures.numbers }
    c.requires.above c.requires.syllable in
    subst (Writes c.append_into.result c.append_into.new.left) (sym law)
    (subst (λ t. Writes c.append_into.result c.append_into.new.left (appended t x k e))
    c.table-2.ensures.table c.append_into.ensures.order)
