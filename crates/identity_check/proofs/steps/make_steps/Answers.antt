use Rattle.std.proofs.Common.{◌≡◌, ℕ, ◌-◌, ◌∙◌, suc, List, ap, arith}
use Rattle.std.proofs.lemmas.Result.{err_from_is_err_and}
use Rattle.binom_poly.specs.declared.term.Term.{Term}
use Rattle.binom_poly.specs.Variable.{y_of}
use Rattle.poly_subst.specs.Renaming.{without, terms_to_y}
use Rattle.poly_subst.specs.Substitute.{SubstituteOverflows}
use Rattle.poly_subst.specs.declared.assign.Assign.{Assign}
use Rattle.poly_subst.specs.Walk.{by_number, in_y}
use Rattle.hall_table.specs.Tabled.{Tabled, last_of, poly_at}
use Rattle.hall_table.specs.Order.{generators}
use Rattle.identity_check.specs.Sides.{other_ys, step}
use Rattle.identity_check.specs.Signs.{number_of, step_id}
use Rattle.identity_check.specs.Events.Event.{makes}
use Rattle.identity_check.proofs.Halting.{none_made}
use Rattle.identity_check.proofs.Stretches.{halt_each, none_each, each_ends}
use Rattle.identity_check.proofs.MadeSides.{kept_overflows, made_wide, made_fits, wide_makes}
use Rattle.identity_check.proofs.MadeSteps.{MadeStep, made_step, polys_begin, list_begins, walk_begins}
use Rattle.identity_check.proofs.Putting.{more_polys, more_in_y, variables_y}
use Rattle.identity_check.proofs.steps.make_steps.Goals as goal

pub loop-k-init : goal.loop-k-init
loop-k-init c =
    let t = c.args.table.now in
    let h = step t c.args.j (number_of c.args.up) in
    record {
      polys = polys_begin t.level c.level-k.result h c.new-polys.result.items c.level-k.ensures.level
          c.new-polys.ensures.items;
      list = list_begins t.level c.level-k.result h c.new-list.result.items c.level-k.ensures.level
          c.new-list.ensures.items;
      walked = λ rels. walk_begins rels t (λ k. makes (step_id c.args.up c.args.j k)) c.level-k.result
          c.level-k.ensures.level;
      number = c.in_ok-number.ensures;
    }

pub returns-in_err-poly-clause-walks : goal.returns-in_err-poly-clause-walks
returns-in_err-poly-clause-walks c = λ rels.
    let t = c.args.table.now in
    let p = err_from_is_err_and c.from_residual-in_err-poly.result
    c.from_residual-in_err-poly.ensures.1 in
    rw (p.1, p.2)
    (halt_each rels t (λ k. makes (step_id c.args.up c.args.j k)) t.level (suc (last_of t) - t.level)
    c.loop-k.k c.in_err-poly.field-0.0 (omega arith) (omega arith) (c.loop-k.invariant.walked rels)
    (wide_makes rels t c.step_id.result (step_id c.args.up c.args.j c.loop-k.k)
    (SubstituteOverflows (without c.deref.result.now c.lend.result.now) c.loop-k.number)
    c.in_err-poly.field-0.0 c.step_id.ensures
    (λ w. made_wide t c.args.j c.loop-k.k c.args.up
    (kept_overflows c.deref.result.now (other_ys t c.args.j) c.lend.result.now (poly_at t c.loop-k.k)
    c.loop-k.number (by_number (y_of c.args.j) (number_of c.args.up))
    (c.deref.ensures.value ∙ c.in_ok-vars.ensures.other_ys) c.lend.ensures
    c.loop-k.invariant.number w))
    c.in_err-poly.ensures.made))

pub x_to_y-requires : goal.x_to_y-requires
x_to_y-requires c =
    let t = c.args.table.now in
    (made_step t c.args.j c.loop-k.k c.args.up c.deref.result.now c.lend.result.now
    c.loop-k.number c.in_ok-poly.poly c.last-end.ensures.form
    record { low = omega arith; high = omega arith }
    (c.deref.ensures.value ∙ c.in_ok-vars.ensures.other_ys) c.lend.ensures
    c.loop-k.invariant.number c.in_ok-poly.ensures.made.0
    c.in_ok-poly.ensures.made.1).in_x

pub loop-k-preserved : goal.loop-k-preserved
loop-k-preserved c =
    let t = c.args.table.now in
    let h = step t c.args.j (number_of c.args.up) in
    let m : MadeStep t c.args.j c.loop-k.k c.args.up c.in_ok-poly.poly =
    made_step t c.args.j c.loop-k.k c.args.up c.deref.result.now c.lend.result.now
    c.loop-k.number c.in_ok-poly.poly c.last-end.ensures.form
    record { low = omega arith; high = omega arith }
    (c.deref.ensures.value ∙ c.in_ok-vars.ensures.other_ys) c.lend.ensures
    c.loop-k.invariant.number c.in_ok-poly.ensures.made.0
    c.in_ok-poly.ensures.made.1 in
    record {
      polys = more_polys t.level c.loop-k.k h c.in_ok-poly.poly c.loop-k.polys.items
          c.push-in-loop-k.new.self.items (omega arith) m.is c.loop-k.invariant.polys
          c.in_ok-push-2.ensures.items;
      list = more_in_y t.level c.loop-k.k c.y_of.result h c.in_ok-to.to c.loop-k.list.items
          c.push.new.self.items (omega arith) c.y_of.ensures
          (c.in_ok-to.ensures.renamed ∙ ap terms_to_y m.is) c.loop-k.invariant.list
          c.in_ok-push.ensures.items;
      walked = λ rels.
          none_each rels t (λ k. makes (step_id c.args.up c.args.j k)) t.level c.loop-k.k (omega arith)
          (c.loop-k.invariant.walked rels)
          (none_made rels t (step_id c.args.up c.args.j c.loop-k.k)
          (made_fits t c.args.j c.loop-k.k c.args.up m.fits));
      number = c.in_ok-poly.ensures.kept ∙ c.loop-k.invariant.number;
    }

pub returns-clause-walks : goal.returns-clause-walks
returns-clause-walks c = λ rels.
    let t = c.args.table.now in
    let e : c.loop-k.k - t.level ≡ suc (last_of t) - t.level = omega arith in
    each_ends rels t (λ k. makes (step_id c.args.up c.args.j k)) c.loop-k.k e
    (c.loop-k.invariant.walked rels)

list_is : (t : Tabled) (h : ℕ → List Term) (k : ℕ) (ss : List Assign)
    → ss ≡ in_y t.level (k - t.level) h → k - t.level ≡ generators t
    → ss ≡ in_y t.level (generators t) h
list_is t h k ss i e = i ∙ ap (λ d. in_y t.level d h) e

pub new-requires-clause-variables : goal.new-requires-clause-variables
new-requires-clause-variables c =
    let t = c.args.table.now in
    let h = step t c.args.j (number_of c.args.up) in
    (variables_y t h c.loop-k.list.items c.last-end.ensures.form
    (list_is t h c.loop-k.k c.loop-k.list.items c.loop-k.invariant.list (omega arith))).0

pub new-requires-clause-different : goal.new-requires-clause-different
new-requires-clause-different c =
    let t = c.args.table.now in
    let h = step t c.args.j (number_of c.args.up) in
    (variables_y t h c.loop-k.list.items c.last-end.ensures.form
    (list_is t h c.loop-k.k c.loop-k.list.items c.loop-k.invariant.list (omega arith))).1
