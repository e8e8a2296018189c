-- One image after another.
use Rattle.std.proofs.Common.{◌≡◌, ◌++◌, List, [], ◌∷◌, length, get_or, sym, ap, ◌∙◌, subst, arith}
use Rattle.std.specs.Prelude.{All}
use Rattle.std.proofs.lemmas.List.{length-map, get_or-map, map-append}
use Rattle.std.proofs.lemmas.List.Elements.{All-nil}
use Rattle.nil_pres.specs.Relations.{between}
use Rattle.binom_poly.specs.declared.term.Term.{Term}
use Rattle.hall_table.specs.Order.{generators}
use Rattle.sum_compiler.specs.Calls.{IsFirstAt, IsMade}
use Rattle.sum_compiler.specs.Images.{families, images, image_calls, next_image, next_image_calls, image_plan}
use Rattle.sum_compiler.proofs.Walking.{handed_on}
use Rattle.sum_compiler.proofs.ImageEntries.{length-images, length-image, first_next, images_more, calls_more}
use Rattle.sum_compiler.proofs.images.images.Goals as goal

pub loop-made-init : goal.loop-made-init
unfolding images image_calls
loop-made-init c = record {
  listed = ap families c.new-images.ensures.items;
  walked = All-nil IsMade;
}

pub next_image-requires-clause-made : goal.next_image-requires-clause-made
next_image-requires-clause-made c =
    let t = c.args.table.now in
    let right = between c.args.pres.now c.args.i in
    let n = length-map c.loop-made.images.items (λ v. v.items) in
    let m = ap length c.loop-made.invariant.listed in
    let k = length-images t right c.loop-made.made in
    let d : length c.deref.result.now ≡ length c.loop-made.images.items = ap length c.deref.ensures.value in
    omega (arith, n, m, k, d)

pub next_image-requires-clause-size : goal.next_image-requires-clause-size
next_image-requires-clause-size c = λ k d l.
    let t = c.args.table.now in
    let right = between c.args.pres.now c.args.i in
    let listed : families c.deref.result.now ≡ images t right c.loop-made.made =
    ap families c.deref.ensures.value ∙ c.loop-made.invariant.listed in
    let n = length-map c.deref.result.now (λ v. v.items) in
    let m = ap length listed in
    let size = length-images t right c.loop-made.made in
    ap length
    (sym (get_or-map (λ v. v.items) c.deref.result.now k d [] l)
    ∙ ap (λ (xs : List (List (List Term))). get_or xs k []) listed)
    ∙ length-image t right c.loop-made.made k c.level.ensures.form (omega (arith, n, m, size)) (omega arith)

pub returns-in_err-image-clause-makes : goal.returns-in_err-image-clause-makes
returns-in_err-image-clause-makes c =
    let t = c.args.table.now in
    let right = between c.args.pres.now c.args.i in
    let listed : families c.deref.result.now ≡ images t right c.loop-made.made =
    ap families c.deref.ensures.value ∙ c.loop-made.invariant.listed in
    handed_on c.in_err-image.field-0.0 c.from_residual.result
    (next_image_calls t right (families c.deref.result.now)) (image_plan t right)
    c.from_residual.ensures.1 c.in_err-image.ensures.makes
    (λ place f. first_next t right c.loop-made.made (generators t) place (omega arith)
    c.loop-made.invariant.walked
    (subst (λ (xs : List (List (List Term))). IsFirstAt (next_image_calls t right xs) place) listed f))

pub loop-made-preserved : goal.loop-made-preserved
loop-made-preserved c =
    let t = c.args.table.now in
    let right = between c.args.pres.now c.args.i in
    let listed : families c.deref.result.now ≡ images t right c.loop-made.made =
    ap families c.deref.ensures.value ∙ c.loop-made.invariant.listed in
    record {
      listed = ap families c.in_ok-push.ensures.items
          ∙ map-append (λ v. v.items) c.loop-made.images.items (c.in_ok-image.image ∷ [])
          ∙ ap (λ (xs : List (List (List Term))). xs ++ c.in_ok-image.image.items ∷ []) c.loop-made.invariant.listed
          ∙ ap (λ (x : List (List Term)). images t right c.loop-made.made ++ x ∷ [])
          (c.in_ok-image.ensures.image ∙ ap (next_image t right) listed)
          ∙ sym (images_more t right c.loop-made.made);
      walked = calls_more t right c.loop-made.made c.loop-made.invariant.walked
          (subst (λ (xs : List (List (List Term))). All IsMade (next_image_calls t right xs)) listed c.in_ok-image.ensures.makes);
    }
