-- One entry after another.
use Rattle.std.proofs.Common.{◌≡◌, ℕ, ◌+◌, ◌-◌, ◌++◌, List, [], ◌∷◌, length, take, sym, ap, ◌∙◌, arith}
use Rattle.binom_poly.specs.declared.term.Term.{Term}
use Rattle.hall_table.specs.Order.{generators}
use Rattle.sum_compiler.specs.Calls.Call.{puts_in, sums}
use Rattle.sum_compiler.specs.Putting.{into}
use Rattle.sum_compiler.specs.Summing.{sum_calls}
use Rattle.sum_compiler.proofs.Walking.{handed_on}
use Rattle.sum_compiler.proofs.PutSoFar.{at}
use Rattle.sum_compiler.proofs.SumsSoFar.{sums_begin, sums_named, stops_put, stops_sum, sums_more, sums_end}
use Rattle.sum_compiler.proofs.summing.with_sums.Goals as goal

pub loop-k-init : goal.loop-k-init
loop-k-init c =
    let t = c.args.table.now in
    sums_begin c.args.step c.args.j t c.args.steps.items c.args.first.items (c.level.result + c.len.result)
    c.in_ok-list.list.items (omega arith)
    (c.in_ok-list.ensures ∙ ap (λ (l : ℕ). into l c.args.first.items c.args.steps.items) c.level-2.ensures.level)

pub put_in-requires-clause-variables : goal.put_in-requires-clause-variables
put_in-requires-clause-variables c =
    let pushed : c.deref.result.now ≡ c.loop-k.list.items ++ record { var = c.x_of.result; to = [] } ∷ [] =
    c.deref.ensures.value ∙ c.in_ok-push.ensures.items
    ∙ ap (λ (p : List Term). c.loop-k.list.items ++ record { var = c.x_of.result; to = p } ∷ []) c.zero-nothing.ensures in
    (sums_named c.args.step c.args.j c.args.table.now c.args.steps.items c.args.first.items c.loop-k.k
    c.loop-k.list.items c.deref.result.now c.x_of.result c.level.ensures.form c.x_of.ensures (omega arith)
    c.requires.size pushed c.loop-k.invariant).0

pub put_in-requires-clause-different : goal.put_in-requires-clause-different
put_in-requires-clause-different c =
    let pushed : c.deref.result.now ≡ c.loop-k.list.items ++ record { var = c.x_of.result; to = [] } ∷ [] =
    c.deref.ensures.value ∙ c.in_ok-push.ensures.items
    ∙ ap (λ (p : List Term). c.loop-k.list.items ++ record { var = c.x_of.result; to = p } ∷ []) c.zero-nothing.ensures in
    (sums_named c.args.step c.args.j c.args.table.now c.args.steps.items c.args.first.items c.loop-k.k
    c.loop-k.list.items c.deref.result.now c.x_of.result c.level.ensures.form c.x_of.ensures (omega arith)
    c.requires.size pushed c.loop-k.invariant).1

pub returns-in_err-added-clause-makes : goal.returns-in_err-added-clause-makes
returns-in_err-added-clause-makes c =
    let t = c.args.table.now in
    let pushed : c.deref.result.now ≡ c.loop-k.list.items ++ record { var = c.x_of.result; to = [] } ∷ [] =
    c.deref.ensures.value ∙ c.in_ok-push.ensures.items
    ∙ ap (λ (p : List Term). c.loop-k.list.items ++ record { var = c.x_of.result; to = p } ∷ []) c.zero-nothing.ensures in
    let end = generators t - length c.args.first.items in
    handed_on c.in_err-added.field-0.0 c.from_residual-in_err-added.result
    (puts_in (at c.args.step c.args.j c.loop-k.k) c.lend.result.now c.deref.result.now ∷ [])
    (sum_calls c.args.step c.args.j t c.args.steps.items c.args.first.items end)
    c.from_residual-in_err-added.ensures.1 c.in_err-added.ensures.makes
    (λ place f.
    stops_put c.args.step c.args.j t c.args.steps.items c.args.first.items c.loop-k.k
    c.loop-k.list.items c.deref.result.now c.x_of.result c.lend.result.now c.x_of.ensures c.lend.ensures pushed
    c.loop-k.invariant end place (omega arith) f)

pub returns-in_err-to-clause-makes : goal.returns-in_err-to-clause-makes
returns-in_err-to-clause-makes c =
    let t = c.args.table.now in
    let pushed : c.deref.result.now ≡ c.loop-k.list.items ++ record { var = c.x_of.result; to = [] } ∷ [] =
    c.deref.ensures.value ∙ c.in_ok-push.ensures.items
    ∙ ap (λ (p : List Term). c.loop-k.list.items ++ record { var = c.x_of.result; to = p } ∷ []) c.zero-nothing.ensures in
    let end = generators t - length c.args.first.items in
    handed_on c.in_err-to.field-0.0 c.from_residual-in_err-to.result
    (sums (at c.args.step c.args.j c.loop-k.k) c.in_ok-added.added ∷ [])
    (sum_calls c.args.step c.args.j t c.args.steps.items c.args.first.items end)
    c.from_residual-in_err-to.ensures.1 c.in_err-to.ensures.makes
    (λ place f.
    stops_sum c.args.step c.args.j t c.args.steps.items c.args.first.items c.loop-k.k
    c.loop-k.list.items c.deref.result.now c.x_of.result c.lend.result.now c.x_of.ensures c.lend.ensures pushed
    c.loop-k.invariant end place c.in_ok-added.added (omega arith) c.in_ok-added.ensures.put
    c.in_ok-added.ensures.makes f)

pub loop-k-preserved : goal.loop-k-preserved
loop-k-preserved c =
    let t = c.args.table.now in
    let pushed : c.deref.result.now ≡ c.loop-k.list.items ++ record { var = c.x_of.result; to = [] } ∷ [] =
    c.deref.ensures.value ∙ c.in_ok-push.ensures.items
    ∙ ap (λ (p : List Term). c.loop-k.list.items ++ record { var = c.x_of.result; to = p } ∷ []) c.zero-nothing.ensures in
    sums_more c.args.step c.args.j t c.args.steps.items c.args.first.items c.loop-k.k c.loop-k.list.items
    c.deref.result.now c.x_of.result c.lend.result.now c.x_of.ensures c.lend.ensures pushed c.loop-k.invariant
    c.len-known.result c.truncate.new.self.items c.push-in-loop-k.new.self.items c.x_of-in-loop-k.result
    c.in_ok-added.added c.in_ok-to.to (omega arith)
    (c.truncate.ensures.items ∙ ap (take c.len-known.result) (sym c.deref.ensures.value))
    c.x_of-in-loop-k.ensures c.in_ok-added.ensures.put c.in_ok-to.ensures.sum c.in_ok-push-2.ensures.items
    c.in_ok-added.ensures.makes c.in_ok-to.ensures.makes

pub returns-clause-entries : goal.returns-clause-entries
returns-clause-entries c =
    let t = c.args.table.now in
    let end = generators t - length c.args.first.items in
    c.in_ok-polys_after.ensures
    ∙ (sums_end c.args.step c.args.j t c.args.steps.items c.args.first.items c.loop-k.k end
    c.len-count.result c.loop-k.list.items (omega arith) (omega arith) c.loop-k.invariant).0

pub returns-clause-makes : goal.returns-clause-makes
returns-clause-makes c =
    let t = c.args.table.now in
    let end = generators t - length c.args.first.items in
    (sums_end c.args.step c.args.j t c.args.steps.items c.args.first.items c.loop-k.k end
    c.len-count.result c.loop-k.list.items (omega arith) (omega arith) c.loop-k.invariant).1
