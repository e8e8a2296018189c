use Rattle.std.proofs.Common.{rules, ◌≡◌, ◌+◌, ◌∙◌, arith, ap, FitsSigned}
use Rattle.std.specs.Int.{w128}
use Rattle.std.proofs.lemmas.Int.{to_z-of_z}
use Rattle.std.proofs.lemmas.Result.{err_from_is_err_and}
use Rattle.binom_poly.specs.Variable.{y_of}
use Rattle.hall_table.specs.declared.wide_at.WideAt.TheVariants.{RowY}
use Rattle.hall_table.proofs.Covering.{y_positive}
use Rattle.hall_table.proofs.Following.{entry_read, put_named, put_more, all_put}
use Rattle.hall_table.proofs.Putting.{value-other}
use Rattle.hall_table.proofs.table.Table.put_y.Goals as goal

-- the first row that overflows is named
pub returns-in_err-set_y-clause-first : goal.returns-in_err-set_y-clause-first
returns-in_err-set_y-clause-first c =
    let g : FitsSigned w128 c.at.result = search rules in
    let p = err_from_is_err_and c.from_residual.result c.from_residual.ensures.1 in
    rw (p.1, p.2)
    (put_named (λ k. RowY k) y_of c.args.self.now c.args.b.now c.loop-k.rows c.loop-k.k _
    c.at.result c.in_err-set_y.field-0.0 c.last-k-end.ensures.form (omega arith) (omega arith)
    c.loop-k.invariant.put (entry_read c.args.b.now c.loop-k.k c.at.result c.at.ensures.entry)
    (to_z-of_z w128 c.at.result g) c.in_err-set_y.ensures.wide.1 c.in_err-set_y.ensures.wide.0)

-- the values of all x stay
pub loop-k-preserved : goal.loop-k-preserved
loop-k-preserved c =
    let g : FitsSigned w128 c.at.result = search rules in
    record {
      put =
          put_more c.args.self.now y_of c.args.b.now c.loop-k.rows c.set_y.new.rows c.loop-k.k _
          c.at.result
          (λ j l e. absurd (let apart : y_of j ≡ y_of c.loop-k.k = e in omega arith))
          (y_positive c.args.self.now c.loop-k.rows c.loop-k.k c.loop-k.invariant.put.placed
          (omega arith) (omega arith))
          (entry_read c.args.b.now c.loop-k.k c.at.result c.at.ensures.entry)
          (to_z-of_z w128 c.at.result g) c.loop-k.invariant.put c.in_ok-set_y.ensures.ok
          c.in_ok-set_y.ensures.wide;
      kept = λ v l.
          value-other c.loop-k.rows c.set_y.new.rows (y_of c.loop-k.k) v _
          (λ e. absurd (let same : v ≡ y_of c.loop-k.k = e in omega arith))
          c.in_ok-set_y.ensures.ok ∙ c.loop-k.invariant.kept v l;
    }

pub returns-clause-first : goal.returns-clause-first
returns-clause-first c =
    all_put c.args.self.now y_of c.args.b.now c.loop-k.rows c.loop-k.k (c.last-k-end.result + 1)
    c.last-k-end.ensures.form c.loop-k.invariant.put (ap (λ n. n + 1) c.last-k-end.ensures.last)
    c.loop-k-test.false
