use Rattle.std.proofs.Common.{◌++◌}
use Rattle.std.proofs.lemmas.Result.{err_from_is_err_and}
use Rattle.std.specs.List.{flat_map}
use Rattle.nil_pres.specs.Relations.{relations_of}
use Rattle.hall_table.specs.Tabled.{Tabled, last_of}
use Rattle.std.specs.Prelude.{List}
use Rattle.identity_check.specs.declared.identity.Identity.TheVariants.{UnitRight, UnitLeft}
use Rattle.identity_check.specs.Sides.{xs}
use Rattle.identity_check.specs.Events.{Event, at_each, last_events, step_events, relation_events}
use Rattle.identity_check.specs.Events.Event.{tries}
use Rattle.identity_check.proofs.Halting.{halt_sooner, halt_later, later_walk}
use Rattle.identity_check.proofs.walking.walk.Goals as goal

-- the stretches, and what comes behind each of them
abbrev rights : Tabled → List Event
rights t = at_each (xs t) (λ k. tries (UnitRight k))

abbrev lefts : Tabled → List Event
lefts t = at_each (xs t) (λ k. tries (UnitLeft k))

abbrev lasts : Tabled → List Event
lasts t = flat_map (last_events (xs t)) (xs t)

abbrev steps : Tabled → List Event
steps t = flat_map (step_events (xs t)) (xs t)

abbrev pairs : Tabled → List Event
pairs t = flat_map (relation_events (xs t) (last_of t)) (xs t)

abbrev behind_lasts : Tabled → List Event
behind_lasts t = steps t ++ pairs t

abbrev behind_lefts : Tabled → List Event
behind_lefts t = lasts t ++ behind_lasts t

abbrev behind_rights : Tabled → List Event
behind_rights t = lefts t ++ behind_lefts t

pub returns-in_err-units_right : goal.returns-in_err-units_right
returns-in_err-units_right c =
    let t = c.args.table.now in
    let rels = relations_of c.args.pres.now in
    let p = err_from_is_err_and c.from_residual.result c.from_residual.ensures.1 in
    rw (p.1, p.2)
    (halt_sooner rels t (rights t) (behind_rights t) c.in_err-units_right.field-0.0 (c.in_err-units_right.ensures rels))

pub returns-in_err-units_left : goal.returns-in_err-units_left
returns-in_err-units_left c =
    let t = c.args.table.now in
    let rels = relations_of c.args.pres.now in
    let p = err_from_is_err_and c.from_residual-in_err-units_left.result c.from_residual-in_err-units_left.ensures.1 in
    rw (p.1, p.2)
    (halt_later rels t (rights t) (behind_rights t) c.in_err-units_left.field-0.0 (c.in_ok-units_right.ensures rels)
    (halt_sooner rels t (lefts t) (behind_lefts t) c.in_err-units_left.field-0.0 (c.in_err-units_left.ensures rels)))

pub returns-in_err-all_last : goal.returns-in_err-all_last
returns-in_err-all_last c =
    let t = c.args.table.now in
    let rels = relations_of c.args.pres.now in
    let p = err_from_is_err_and c.from_residual-in_err-all_last.result c.from_residual-in_err-all_last.ensures.1 in
    rw (p.1, p.2)
    (halt_later rels t (rights t) (behind_rights t) c.in_err-all_last.field-0.0 (c.in_ok-units_right.ensures rels)
    (halt_later rels t (lefts t) (behind_lefts t) c.in_err-all_last.field-0.0 (c.in_ok-units_left.ensures rels)
    (halt_sooner rels t (lasts t) (behind_lasts t) c.in_err-all_last.field-0.0 (c.in_err-all_last.ensures rels))))

pub returns-in_err-all_steps : goal.returns-in_err-all_steps
returns-in_err-all_steps c =
    let t = c.args.table.now in
    let rels = relations_of c.args.pres.now in
    let p = err_from_is_err_and c.from_residual-in_err-all_steps.result c.from_residual-in_err-all_steps.ensures.1 in
    rw (p.1, p.2)
    (halt_later rels t (rights t) (behind_rights t) c.in_err-all_steps.field-0.0 (c.in_ok-units_right.ensures rels)
    (halt_later rels t (lefts t) (behind_lefts t) c.in_err-all_steps.field-0.0 (c.in_ok-units_left.ensures rels)
    (halt_later rels t (lasts t) (behind_lasts t) c.in_err-all_steps.field-0.0 (c.in_ok-all_last.ensures rels)
    (halt_sooner rels t (steps t) (pairs t) c.in_err-all_steps.field-0.0 (c.in_err-all_steps.ensures rels)))))

pub returns : goal.returns
returns c =
    let t = c.args.table.now in
    let rels = relations_of c.args.pres.now in
    let r = c.all_relations.result in
    (later_walk rels t (rights t) (behind_rights t) r (c.in_ok-units_right.ensures rels)
    (later_walk rels t (lefts t) (behind_lefts t) r (c.in_ok-units_left.ensures rels)
    (later_walk rels t (lasts t) (behind_lasts t) r (c.in_ok-all_last.ensures rels)
    (later_walk rels t (steps t) (pairs t) r (c.in_ok-all_steps.ensures rels)
    c.all_relations.ensures))))
