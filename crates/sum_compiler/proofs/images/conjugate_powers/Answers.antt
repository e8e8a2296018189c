-- By the law of agreement.
use Rattle.std.proofs.Common.{◌≡◌, ◌≤◌, pos, ◌+ℤ◌, length, sym, subst}
use Rattle.std.specs.Prelude.{All}
use Rattle.hall_law.specs.Plan.{AreImages, phi}
use Rattle.hall_law.specs.Agreement.{PhiJoins, PhiTakesOnce}
use Rattle.nil_pres.specs.Presented.{Presented, IsPresented}
use Rattle.nil_pres.specs.Relations.{relations_of, between}
use Rattle.hall_table.specs.Tabled.{Tabled, IsTabled}
use Rattle.hall_table.specs.Values.{values}
use Rattle.sum_compiler.specs.Calls.{IsMade, IsFirstAt, NoneOverflows}
use Rattle.sum_compiler.specs.Powers.{power_plan}
use Rattle.sum_compiler.specs.Images.{families, image_plan, all_images}
use Rattle.sum_compiler.specs.Plan.{image_plan_from}
use Rattle.sum_compiler.specs.Readings.{images_at}
use Rattle.sum_compiler.proofs.Walking.{handed_on_stops, first_sooner, first_later, none_overflows, made_both}
use Rattle.sum_compiler.proofs.Conjugates.{planned_of, conjugates_are}
use Rattle.sum_compiler.proofs.images.conjugate_powers.Goals as goal

pub returns-clause-images : goal.returns-clause-images
returns-clause-images c = λ Q is_power b.
    let p = c.args.above.now in
    let e = c.table-table.ensures.table in
    let lawful : IsPresented p.pres = subst IsPresented (sym c.requires.pres) c.count.ensures.lawful in
    let planned = planned_of p c.args.i Q (c.relations.ensures.presentation p.pres lawful)
    (c.relations.ensures.factored p.pres lawful) c.requires.level c.requires.least c.table-table.ensures.multiplies is_power in
    let tabled : IsTabled p.table = subst IsTabled e c.level.ensures.form in
    let powers_made : All IsMade (power_plan p.table) =
    subst (λ (t : Tabled). All IsMade (power_plan t)) e c.in_ok-power_polys.ensures.makes in
    let images_made : All IsMade (image_plan p.table (between p.pres c.args.i)) =
    subst (λ (q : Presented). All IsMade (image_plan p.table (between q c.args.i))) (sym c.requires.pres)
    (subst (λ (t : Tabled). All IsMade (image_plan t (between c.args.pres.now c.args.i))) e c.in_ok-images.ensures.makes) in
    let is : families c.in_ok-images.images.items ≡ all_images p.table (between p.pres c.args.i) =
    subst (λ (q : Presented). families c.in_ok-images.images.items ≡ all_images p.table (between q c.args.i)) (sym c.requires.pres)
    (subst (λ (t : Tabled). families c.in_ok-images.images.items ≡ all_images t (between c.args.pres.now c.args.i)) e c.in_ok-images.ensures.images) in
    let are = conjugates_are (λ v. v.items) p c.args.i Q c.in_ok-images.images.items c.reverse.new.self.items b
    planned tabled c.table-table.ensures.multiplies c.requires.level powers_made images_made is c.reverse.ensures.items in
    subst (λ (q : Presented). AreImages (relations_of q) (between q) c.args.i (values p.table) Q
    (images_at p.table b (families c.reverse.new.self.items))) c.requires.pres are

pub returns-clause-moves : goal.returns-clause-moves
returns-clause-moves c = λ Q is_power b j s low high.
    let p = c.args.above.now in
    let e = c.table-table.ensures.table in
    let lawful : IsPresented p.pres = subst IsPresented (sym c.requires.pres) c.count.ensures.lawful in
    let planned = planned_of p c.args.i Q (c.relations.ensures.presentation p.pres lawful)
    (c.relations.ensures.factored p.pres lawful) c.requires.level c.requires.least c.table-table.ensures.multiplies is_power in
    let tabled : IsTabled p.table = subst IsTabled e c.level.ensures.form in
    let powers_made : All IsMade (power_plan p.table) =
    subst (λ (t : Tabled). All IsMade (power_plan t)) e c.in_ok-power_polys.ensures.makes in
    let images_made : All IsMade (image_plan p.table (between p.pres c.args.i)) =
    subst (λ (q : Presented). All IsMade (image_plan p.table (between q c.args.i))) (sym c.requires.pres)
    (subst (λ (t : Tabled). All IsMade (image_plan t (between c.args.pres.now c.args.i))) e c.in_ok-images.ensures.makes) in
    let is : families c.in_ok-images.images.items ≡ all_images p.table (between p.pres c.args.i) =
    subst (λ (q : Presented). families c.in_ok-images.images.items ≡ all_images p.table (between q c.args.i)) (sym c.requires.pres)
    (subst (λ (t : Tabled). families c.in_ok-images.images.items ≡ all_images t (between c.args.pres.now c.args.i)) e c.in_ok-images.ensures.images) in
    let are = conjugates_are (λ v. v.items) p c.args.i Q c.in_ok-images.images.items c.reverse.new.self.items b
    planned tabled c.table-table.ensures.multiplies c.requires.level powers_made images_made is c.reverse.ensures.items in
    subst (λ (q : Presented). images_at p.table b (families c.reverse.new.self.items) j (s +ℤ pos 1)
    ≡ phi (relations_of q) c.args.i (values p.table) Q (images_at p.table b (families c.reverse.new.self.items) j s)) c.requires.pres
    (c.agreement.ensures.images (relations_of p.pres) (between p.pres) c.args.i (values p.table) Q planned
    (c.requires.agree Q is_power) (images_at p.table b (families c.reverse.new.self.items)) are j s low
    (subst (λ (q : Presented). j ≤ length q.names) (sym c.requires.pres) high))

pub returns-clause-stops : goal.returns-clause-stops
returns-clause-stops c =
    let right = between c.args.pres.now c.args.i in
    subst (λ (t : Tabled). NoneOverflows (image_plan_from t right)) c.table-table.ensures.table
    (none_overflows (image_plan_from c.table-table.result.now right)
    (made_both (power_plan c.table-table.result.now) (image_plan c.table-table.result.now right)
    c.in_ok-power_polys.ensures.makes c.in_ok-images.ensures.makes))

pub returns-in_err-images-clause-stops : goal.returns-in_err-images-clause-stops
returns-in_err-images-clause-stops c =
    let right = between c.args.pres.now c.args.i in
    let t = c.table-table.result.now in
    handed_on_stops c.in_err-images.field-0.0 c.from_residual-in_err-images.result (image_plan t right)
    (image_plan_from c.args.above.now.table right) c.from_residual-in_err-images.ensures.1
    c.in_err-images.ensures.makes
    (λ place f. subst (λ (u : Tabled). IsFirstAt (image_plan_from u right) place) c.table-table.ensures.table
    (first_later (power_plan t) (image_plan t right) place c.in_ok-power_polys.ensures.makes f))

pub returns-in_err-power_polys-clause-stops : goal.returns-in_err-power_polys-clause-stops
returns-in_err-power_polys-clause-stops c =
    let right = between c.args.pres.now c.args.i in
    let t = c.table-table.result.now in
    handed_on_stops c.in_err-power_polys.field-0.0 c.from_residual.result (power_plan t)
    (image_plan_from c.args.above.now.table right) c.from_residual.ensures.1
    c.in_err-power_polys.ensures.makes
    (λ place f. subst (λ (u : Tabled). IsFirstAt (image_plan_from u right) place) c.table-table.ensures.table
    (first_sooner (power_plan t) (image_plan t right) place f))

pub returns-clause-joins : goal.returns-clause-joins
returns-clause-joins c = λ Q is_power.
    let p = c.args.above.now in
    let lawful : IsPresented p.pres = subst IsPresented (sym c.requires.pres) c.count.ensures.lawful in
    let planned = planned_of p c.args.i Q (c.relations.ensures.presentation p.pres lawful)
    (c.relations.ensures.factored p.pres lawful) c.requires.level c.requires.least c.table-table.ensures.multiplies is_power in
    subst (λ (q : Presented). PhiJoins (relations_of q) (between q) c.args.i (values p.table) Q) c.requires.pres
    (c.agreement.ensures.joins (relations_of p.pres) (between p.pres) c.args.i (values p.table) Q planned (c.requires.agree Q is_power))

pub returns-clause-takes_once : goal.returns-clause-takes_once
returns-clause-takes_once c = λ Q is_power.
    let p = c.args.above.now in
    let lawful : IsPresented p.pres = subst IsPresented (sym c.requires.pres) c.count.ensures.lawful in
    let planned = planned_of p c.args.i Q (c.relations.ensures.presentation p.pres lawful)
    (c.relations.ensures.factored p.pres lawful) c.requires.level c.requires.least c.table-table.ensures.multiplies is_power in
    subst (λ (q : Presented). PhiTakesOnce (relations_of q) (between q) c.args.i (values p.table) Q) c.requires.pres
    (c.agreement.ensures.takes_once (relations_of p.pres) (between p.pres) c.args.i (values p.table) Q planned (c.requires.agree Q is_power))
