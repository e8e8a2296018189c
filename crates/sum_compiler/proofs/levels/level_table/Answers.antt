-- By what the calls of the plan have made, as far as they went.
use Rattle.std.proofs.Common.{◌≡◌, List, [], length, get_or, sym, ap, ◌∙◌, subst, arith}
use Rattle.std.specs.Prelude.{All}
use Rattle.std.proofs.lemmas.List.{length-map, get_or-map}
use Rattle.binom_poly.specs.declared.term.Term.{Term}
use Rattle.nil_pres.specs.Presented.{IsPresented}
use Rattle.nil_pres.specs.Relations.{between}
use Rattle.hall_table.specs.Order.{generators}
use Rattle.hall_table.specs.Tabled.{IsTabled}
use Rattle.sum_compiler.specs.Calls.{IsMade}
use Rattle.sum_compiler.specs.Images.{families, image_plan, all_images}
use Rattle.sum_compiler.specs.Products.{product_plan}
use Rattle.sum_compiler.specs.Plan.{level_polys, plan}
use Rattle.sum_compiler.proofs.Walking.{handed_on_stops, none_overflows}
use Rattle.sum_compiler.proofs.ImageEntries.{length-images, length-image}
use Rattle.sum_compiler.proofs.LevelValues.{length-product}
use Rattle.sum_compiler.proofs.LevelMade.{ImagesMade, ProductMade, LevelMade, last_calls, stops_images, stops_product, stops_last, plan_made, polys_are}
use Rattle.sum_compiler.proofs.LevelAnswers.{IsGiven, plan_given, table_is, values_answered, table_answered, none_unshaped}
use Rattle.sum_compiler.proofs.levels.level_table.Goals as goal
use Rattle.sum_compiler.proofs.levels.level_table.Goals.{After-deref-3, In_ok-product, In_ok-polys}

-- ---- what was made
images_made : (c : After-deref-3)
    → ImagesMade c.table-table.result.now (between c.args.pres.now c.args.i)
    (families c.deref-3.result.now)
images_made c = record {
  powers = c.in_ok-power_polys.ensures.makes;
  calls = c.in_ok-images.ensures.makes;
  are = ap families c.deref-3.ensures.value ∙ c.in_ok-images.ensures.images;
}

product_made : (c : In_ok-product)
    → ProductMade c.table-table.result.now (between c.args.pres.now c.args.i) c.args.i
    (families c.deref-3.result.now) c.in_ok-product.product.items
product_made c = record {
  images = images_made (goal.at.level_polys-requires-clause-size c).After-deref-3;
  calls = c.in_ok-product.ensures.makes;
  is = c.in_ok-product.ensures.product;
}

level_made : (c : In_ok-polys)
    → LevelMade c.table-table.result.now (between c.args.pres.now c.args.i) c.args.i
    (families c.deref-3.result.now) c.in_ok-product.product.items c.in_ok-polys.polys.items
level_made c = record {
  product = record {
    images = record {
      powers = c.in_ok-power_polys.ensures.makes;
      calls = c.in_ok-images.ensures.makes;
      are = ap families c.deref-3.ensures.value ∙ c.in_ok-images.ensures.images;
    };
    calls = c.in_ok-product.ensures.makes;
    is = c.in_ok-product.ensures.product;
  };
  calls = c.in_ok-polys.ensures.makes;
  are = c.in_ok-polys.ensures.polys;
}

made_whole : (c : In_ok-polys)
    → All IsMade (plan c.args.above.now.table (between c.args.pres.now c.args.i) c.args.i)
made_whole c =
    plan_made c.table-table.result.now c.args.above.now.table c.table-table.ensures.table
    (between c.args.pres.now c.args.i) c.args.i (families c.deref-3.result.now)
    c.in_ok-product.product.items c.in_ok-polys.polys.items (level_made c)

made_polys : (c : In_ok-polys)
    → c.in_ok-polys.polys.items ≡ level_polys
    (all_images c.args.above.now.table (between c.args.pres.now c.args.i)) c.args.above.now.table
    c.args.i
made_polys c =
    polys_are c.table-table.result.now c.args.above.now.table c.table-table.ensures.table
    (between c.args.pres.now c.args.i) c.args.i (families c.deref-3.result.now)
    c.in_ok-product.product.items c.in_ok-polys.polys.items (level_made c)

given : (c : In_ok-polys) → IsGiven c.args.above.now c.args.i
given c =
    let above = c.args.above.now in
    let p = c.args.pres.now in
    let lawful : IsPresented above.pres =
    subst IsPresented (sym c.requires.pres) c.count.ensures.lawful in
    record {
      presentation = c.relations.ensures.presentation above.pres lawful;
      factored = c.relations.ensures.factored above.pres lawful;
      level = c.requires.level;
      least = c.requires.least;
      checked = c.table-table.ensures.multiplies;
      form = subst IsTabled c.table-table.ensures.table c.level.ensures.form;
      agree = c.requires.agree;
      made = plan_given above p c.args.i c.requires.pres (made_whole c);
    }

-- ---- sizes
pub product-requires-clause-count : goal.product-requires-clause-count
product-requires-clause-count c =
    let t = c.table-table.result.now in
    let right = between c.args.pres.now c.args.i in
    sym (length-map c.deref-3.result.now (λ v. v.items)) ∙ ap length (images_made c).are
    ∙ length-images t right (generators t)

pub product-requires-clause-size : goal.product-requires-clause-size
product-requires-clause-size c = λ k d l.
    let t = c.table-table.result.now in
    let right = between c.args.pres.now c.args.i in
    let count = product-requires-clause-count c in
    ap length
    (sym (get_or-map (λ v. v.items) c.deref-3.result.now k d [] l)
    ∙ ap (λ (xs : List (List (List Term))). get_or xs k []) (images_made c).are)
    ∙ length-image t right (generators t) k c.level.ensures.form (omega arith) (omega arith)

pub level_polys-requires-clause-size : goal.level_polys-requires-clause-size
level_polys-requires-clause-size c =
    ap length c.in_ok-product.ensures.product
    ∙ length-product (families c.deref-3.result.now) c.table-table.result.now c.args.i

-- ---- where it stops
pub returns-in_err-images-clause-stops : goal.returns-in_err-images-clause-stops
returns-in_err-images-clause-stops c =
    let u = c.args.above.now.table in
    let right = between c.args.pres.now c.args.i in
    let t = c.table-table.result.now in
    handed_on_stops c.in_err-images.field-0.0 c.from_residual-in_err-images.result
    (image_plan t right) (plan u right c.args.i) c.from_residual-in_err-images.ensures.1
    c.in_err-images.ensures.makes
    (λ place f. stops_images t u c.table-table.ensures.table right c.args.i place
    c.in_ok-power_polys.ensures.makes f)

pub returns-in_err-product-clause-stops : goal.returns-in_err-product-clause-stops
returns-in_err-product-clause-stops c =
    let u = c.args.above.now.table in
    let right = between c.args.pres.now c.args.i in
    let t = c.table-table.result.now in
    let made = families c.deref-3.result.now in
    handed_on_stops c.in_err-product.field-0.0 c.from_residual-in_err-product.result
    (product_plan made t c.args.i) (plan u right c.args.i) c.from_residual-in_err-product.ensures.1
    c.in_err-product.ensures.makes
    (λ place f. stops_product t u c.table-table.ensures.table right c.args.i place made
    (images_made (goal.at.returns-in_err-product-clause-stops c).After-deref-3) f)

pub returns-in_err-polys-clause-stops : goal.returns-in_err-polys-clause-stops
returns-in_err-polys-clause-stops c =
    let u = c.args.above.now.table in
    let right = between c.args.pres.now c.args.i in
    let t = c.table-table.result.now in
    let ps = c.in_ok-product.product.items in
    handed_on_stops c.in_err-polys.field-0.0 c.from_residual-in_err-polys.result (last_calls t ps)
    (plan u right c.args.i) c.from_residual-in_err-polys.ensures.1 c.in_err-polys.ensures.makes
    (λ place f. stops_last t u c.table-table.ensures.table right c.args.i
    (families c.deref-3.result.now) ps
    (product_made (goal.at.returns-in_err-polys-clause-stops c).In_ok-product) place f)

pub returns-in-Ok-clause-stops : goal.returns-in-Ok-clause-stops
returns-in-Ok-clause-stops c =
    none_overflows
    (plan c.args.above.now.table (between c.args.pres.now c.args.i) c.args.i)
    (made_whole (goal.at.returns-in-Ok-clause-stops c).In_ok-polys)

-- ---- the table
pub returns-in-Ok-clause-values : goal.returns-in-Ok-clause-values
returns-in-Ok-clause-values c =
    let at = (goal.at.returns-in-Ok-clause-values c).In_ok-polys in
    let above = c.args.above.now in
    let p = c.args.pres.now in
    values_answered above p c.args.i c.in-Ok.made c.requires.pres (given at)
    (table_is above p c.args.i c.in-Ok.made c.in_ok-polys.polys.items c.requires.pres
    c.in-Ok.ensures.table (made_polys at))

pub returns-in-Ok-clause-multiplies : goal.returns-in-Ok-clause-multiplies
returns-in-Ok-clause-multiplies c =
    let at = (goal.at.returns-in-Ok-clause-multiplies c).In_ok-polys in
    let above = c.args.above.now in
    let p = c.args.pres.now in
    table_answered above p c.args.i c.in-Ok.made c.requires.pres (given at)
    (table_is above p c.args.i c.in-Ok.made c.in_ok-polys.polys.items c.requires.pres
    c.in-Ok.ensures.table (made_polys at))

pub unreachable-requires : goal.unreachable-requires
unreachable-requires c =
    let at = (goal.at.unreachable-requires c).In_ok-polys in
    let k = c.in-Err-Shape.field-0-0 in
    none_unshaped c.args.above.now c.args.pres.now c.args.i k c.in_ok-polys.polys.items
    c.requires.pres (given at) (made_polys at)
    (c.in-Err-Shape.ensures.unshaped k c.in-Err-Shape.field-0-is)
