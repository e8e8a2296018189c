use Rattle.std.proofs.Common.{◌≡◌, ℕ, ◌-◌, ◌∙◌, List, ap, subst, arith}
use Rattle.std.specs.Prelude.{IfOk}
use Rattle.poly_subst.specs.declared.assign.Assign.{Assign}
use Rattle.poly_subst.specs.Walk.{in_x}
use Rattle.hall_table.specs.Tabled.{Tabled, poly_at}
use Rattle.hall_table.specs.Order.{generators}
use Rattle.identity_check.proofs.MadeSteps.{x_begins}
use Rattle.identity_check.proofs.Putting.{more_in_x, variables_x}
use Rattle.identity_check.proofs.steps.put_x.Goals as goal

pub loop-k-init : goal.loop-k-init
loop-k-init c =
    x_begins c.args.table.now.level c.level-k.result (poly_at c.args.table.now) c.new-list.result.items
    c.level-k.ensures.level c.new-list.ensures.items

pub loop-k-preserved : goal.loop-k-preserved
loop-k-preserved c =
    more_in_x c.args.table.now.level c.loop-k.k c.x_of.result (poly_at c.args.table.now) c.in_ok-to.to
    c.loop-k.list.items c.push.new.self.items (omega arith) c.x_of.ensures c.in_ok-to.ensures
    c.loop-k.invariant c.in_ok-push.ensures.items

list_is : (t : Tabled) (k : ℕ) (ss : List Assign) → ss ≡ in_x t.level (k - t.level) (poly_at t)
    → k - t.level ≡ generators t → ss ≡ in_x t.level (generators t) (poly_at t)
list_is t k ss h e = h ∙ ap (λ d. in_x t.level d (poly_at t)) e

pub new-requires-clause-variables : goal.new-requires-clause-variables
new-requires-clause-variables c =
    let t = c.args.table.now in
    (variables_x t (poly_at t) c.loop-k.list.items c.last-k-end.ensures.form
    (list_is t c.loop-k.k c.loop-k.list.items c.loop-k.invariant (omega arith))).0

pub new-requires-clause-different : goal.new-requires-clause-different
new-requires-clause-different c =
    let t = c.args.table.now in
    (variables_x t (poly_at t) c.loop-k.list.items c.last-k-end.ensures.form
    (list_is t c.loop-k.k c.loop-k.list.items c.loop-k.invariant (omega arith))).1

pub returns : goal.returns
returns c =
    let t = c.args.table.now in
    subst (λ (ss : List Assign). IfOk c.new.result (λ put. put ≡ ss))
    (list_is t c.loop-k.k c.loop-k.list.items c.loop-k.invariant (omega arith)) c.new.ensures
