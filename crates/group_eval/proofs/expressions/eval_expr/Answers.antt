use Rattle.std.proofs.Common.{subst}
use Rattle.nil_pres.specs.Presented.{IsPresented}
use Rattle.hall_table.specs.Tabled.{IsTabled}
use Rattle.group_eval.proofs.expressions.eval_expr.Goals as goal

-- the law, at this presentation and its table
pub returns-clause-element : goal.returns-clause-element
returns-clause-element c =
    c.expressions.ensures c.args.checked.now
    (subst IsPresented c.pres.ensures.pres c.count-count.ensures.lawful)
    (subst IsTabled c.table.ensures.table c.level-level.ensures.form) c.pres.ensures.multiplies
    c.args.expr.now c.in_ok-out.field-0 c.requires.shaped c.requires.level c.in_ok-out.ensures.order
