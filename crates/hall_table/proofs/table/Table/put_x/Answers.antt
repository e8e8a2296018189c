use Rattle.std.proofs.Common.{rules, ◌+◌, arith, ap, FitsSigned}
use Rattle.std.specs.Int.{w128}
use Rattle.std.proofs.lemmas.Int.{to_z-of_z}
use Rattle.std.proofs.lemmas.Result.{err_from_is_err_and}
use Rattle.hall_table.specs.declared.wide_at.WideAt.TheVariants.{RowX}
use Rattle.hall_table.proofs.Covering.{x_positive}
use Rattle.hall_table.proofs.Following.{entry_read, put_named, put_more, all_put}
use Rattle.hall_table.proofs.table.Table.put_x.Goals as goal

-- the first row that overflows is named
pub returns-in_err-set_x-clause-first : goal.returns-in_err-set_x-clause-first
returns-in_err-set_x-clause-first c =
    let g : FitsSigned w128 c.at.result = search rules in
    let p = err_from_is_err_and c.from_residual.result c.from_residual.ensures.1 in
    rw (p.1, p.2)
    (put_named (λ k. RowX k) (λ j. j) c.args.self.now c.args.a.now c.loop-k.rows c.loop-k.k _
    c.at.result c.in_err-set_x.field-0.0 c.last-k-end.ensures.form (omega arith) (omega arith)
    c.loop-k.invariant (entry_read c.args.a.now c.loop-k.k c.at.result c.at.ensures.entry)
    (to_z-of_z w128 c.at.result g) c.in_err-set_x.ensures.wide.1 c.in_err-set_x.ensures.wide.0)

pub loop-k-preserved : goal.loop-k-preserved
loop-k-preserved c =
    let g : FitsSigned w128 c.at.result = search rules in
    put_more c.args.self.now (λ j. j) c.args.a.now c.loop-k.rows c.set_x.new.rows c.loop-k.k _
    c.at.result (λ j l e. absurd (omega arith))
    (x_positive c.args.self.now c.loop-k.rows c.loop-k.k c.loop-k.invariant.placed (omega arith)
    (omega arith))
    (entry_read c.args.a.now c.loop-k.k c.at.result c.at.ensures.entry)
    (to_z-of_z w128 c.at.result g) c.loop-k.invariant c.in_ok-set_x.ensures.ok
    c.in_ok-set_x.ensures.wide

pub returns-clause-first : goal.returns-clause-first
returns-clause-first c =
    all_put c.args.self.now (λ j. j) c.args.a.now c.loop-k.rows c.loop-k.k
    (c.last-k-end.result + 1) c.last-k-end.ensures.form c.loop-k.invariant
    (ap (λ n. n + 1) c.last-k-end.ensures.last) c.loop-k-test.false
