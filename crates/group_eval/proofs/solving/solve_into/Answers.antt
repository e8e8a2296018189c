use Rattle.std.proofs.Common.{rules, ◌∙◌, arith, FitsSigned}
use Rattle.std.specs.Int.{w128}
use Rattle.std.proofs.lemmas.Int.{to_z-of_z}
use Rattle.std.proofs.lemmas.Result.{err_from_is_err_and}
use Rattle.hall_table.proofs.Covering.{y_positive}
use Rattle.hall_table.proofs.Following.{entry_read}
use Rattle.group_eval.proofs.Following.{difference_named, is_next, row_named, solved_more}
use Rattle.group_eval.proofs.solving.solve_into.Goals as goal

-- the sum or the difference overflows
pub returns-in_err-difference-clause-order : goal.returns-in_err-difference-clause-order
returns-in_err-difference-clause-order c =
    let g : FitsSigned w128 c.at.result = search rules in
    let p = err_from_is_err_and c.from_residual-in_err-difference.result
    c.from_residual-in_err-difference.ensures.1 in
    rw (p.1, p.2)
    (difference_named c.loop-k.invariant c.last-last.ensures.form (omega arith) (omega arith)
    c.in_ok-put_x.ensures.first c.in_err-difference.field-0.0 _ c.in_err-difference.ensures.wide.0
    (to_z-of_z w128 c.at.result g
    ∙ entry_read c.args.b.now c.loop-k.k c.at.result c.at.ensures.entry)
    c.in_err-difference.ensures.wide.1)

-- the row overflows
pub returns-in_err-set_y-clause-order : goal.returns-in_err-set_y-clause-order
returns-in_err-set_y-clause-order c =
    let g : FitsSigned w128 c.at.result = search rules in
    let d : FitsSigned w128 c.in_ok-difference.difference = search rules in
    let p = err_from_is_err_and c.from_residual-in_err-set_y.result
    c.from_residual-in_err-set_y.ensures.1 in
    rw (p.1, p.2)
    (row_named c.loop-k.invariant
    (is_next c.loop-k.invariant c.last-last.ensures.form (omega arith) (omega arith) _
    c.in_ok-difference.difference _
    (to_z-of_z w128 c.at.result g
    ∙ entry_read c.args.b.now c.loop-k.k c.at.result c.at.ensures.entry)
    c.in_ok-difference.ensures.fits c.in_ok-difference.ensures.value
    c.in_ok-difference.ensures.within (to_z-of_z w128 c.in_ok-difference.difference d))
    (omega arith) c.in_ok-put_x.ensures.first c.in_err-set_y.field-0.0
    c.in_err-set_y.ensures.wide.0 c.in_err-set_y.ensures.wide.1)

pub loop-k-preserved : goal.loop-k-preserved
loop-k-preserved c =
    let g : FitsSigned w128 c.at.result = search rules in
    let d : FitsSigned w128 c.in_ok-difference.difference = search rules in
    solved_more c.loop-k.invariant
    (is_next c.loop-k.invariant c.last-last.ensures.form (omega arith) (omega arith) _
    c.in_ok-difference.difference _
    (to_z-of_z w128 c.at.result g
    ∙ entry_read c.args.b.now c.loop-k.k c.at.result c.at.ensures.entry)
    c.in_ok-difference.ensures.fits c.in_ok-difference.ensures.value
    c.in_ok-difference.ensures.within (to_z-of_z w128 c.in_ok-difference.difference d))
    c.last-last.ensures.form (omega arith) (omega arith)
    (y_positive c.args.table.now c.loop-k.rows c.loop-k.k c.loop-k.invariant.placed (omega arith)
    (omega arith))
    c.in_ok-set_y.ensures.wide c.set.new.self c.set_y.new.rows c.set.ensures
    c.in_ok-set_y.ensures.ok
