-- One syllable after another.
use Rattle.std.proofs.Common.{◌≡◌, pos, ◌<◌, ◌≤◌, ◌∷◌, length, map, take, get_or, refl, ap, ◌∙◌, subst, arith}
use Rattle.std.specs.Prelude.{All}
use Rattle.std.proofs.lemmas.List.{get_or-map, length-map}
use Rattle.std.proofs.lemmas.List.Elements.{All-tail, All-get_or}
use Rattle.std.proofs.lemmas.List.{take_all}
use Rattle.nil_pres.specs.declared.syllable.Syllable.{Syllable}
use Rattle.nil_pres.specs.Relations.{between, factors_of}
use Rattle.sum_compiler.specs.declared.sum_step.SumStep.TheVariants as step
use Rattle.sum_compiler.specs.Joining.{power_calls, times_calls}
use Rattle.sum_compiler.specs.Powers.{powers}
use Rattle.sum_compiler.specs.Images.{families, right_power, right_calls}
use Rattle.sum_compiler.proofs.Walking.{handed_on}
use Rattle.sum_compiler.proofs.JoinedSoFar.{joined_begins, stops_power, stops_times, joined_more, joined_ends, length-power_of, length-joined}
use Rattle.sum_compiler.proofs.Rights.{factor_of, between_is, stops_later, right_is, right_made}
use Rattle.sum_compiler.proofs.images.right.Goals as goal

pub loop-syllable-init : goal.loop-syllable-init
loop-syllable-init c =
    let t = c.args.table.now in
    joined_begins step.Image t (powers t) c.in_ok-product.product.items
    (map (right_power (families c.args.images.now) t c.args.j) (factors_of c.in-Some.rest.now))
    c.in_ok-product.product.items refl

pub right_power-requires-in-loop-syllable-clause-most : goal.right_power-requires-in-loop-syllable-clause-most
right_power-requires-in-loop-syllable-clause-most c =
    let d : Syllable = record { number = 0; exp = pos 0 } in
    let P : Syllable → Type 0 = λ s. (c.args.j < s.number) × (s.number ≤ length c.args.pres.now.names) in
    let both = All-get_or P c.in-Some.rest.now c.loop-syllable.syllable-index d c.loop-syllable-test.true
    (All-tail P c.in-Some.first.now c.in-Some.rest.now
    (subst (All P) c.in-Some.ensures.cases.0 c.right_side.ensures.generators)) in
    omega (arith, both.1)

pub right_power-requires-in-loop-syllable-clause-made : goal.right_power-requires-in-loop-syllable-clause-made
right_power-requires-in-loop-syllable-clause-made c =
    let d : Syllable = record { number = 0; exp = pos 0 } in
    let P : Syllable → Type 0 = λ s. (c.args.j < s.number) × (s.number ≤ length c.args.pres.now.names) in
    let both = All-get_or P c.in-Some.rest.now c.loop-syllable.syllable-index d c.loop-syllable-test.true
    (All-tail P c.in-Some.first.now c.in-Some.rest.now
    (subst (All P) c.in-Some.ensures.cases.0 c.right_side.ensures.generators)) in
    omega (arith, both.0)

pub returns-in_err-factor-clause-makes : goal.returns-in_err-factor-clause-makes
returns-in_err-factor-clause-makes c =
    let t = c.args.table.now in
    let fam = families c.args.images.now in
    let d : Syllable = record { number = 0; exp = pos 0 } in
    let s = get_or c.in-Some.rest.now c.loop-syllable.syllable-index d in
    let ss = factors_of c.in-Some.rest.now in
    let gs = map (right_power fam t c.args.j) ss in
    let g = right_power fam t c.args.j (factor_of s) in
    let eq : between c.args.pres.now c.args.i c.args.j ≡ factor_of c.in-Some.first.now ∷ ss =
    between_is c.args.pres.now c.args.i c.args.j c.right_side.result.now c.requires.least c.requires.above (omega arith) c.right_side.ensures.right
    ∙ ap factors_of c.in-Some.ensures.cases.0 in
    let n : length ss ≡ length c.in-Some.rest.now = length-map c.in-Some.rest.now factor_of in
    let l : c.loop-syllable.syllable-index < length gs = omega (arith, length-map ss (right_power fam t c.args.j)) in
    let is : get_or gs c.loop-syllable.syllable-index g ≡ g =
    get_or-map (right_power fam t c.args.j) ss c.loop-syllable.syllable-index (factor_of d) g (omega arith)
    ∙ ap (right_power fam t c.args.j) (get_or-map factor_of c.in-Some.rest.now c.loop-syllable.syllable-index d (factor_of d) c.loop-syllable-test.true) in
    handed_on c.in_err-factor.field-0.0 c.from_residual-in_err-factor.result
    (power_calls step.Image t (powers t) g) (right_calls fam t c.args.j (between c.args.pres.now c.args.i c.args.j))
    c.from_residual-in_err-factor.ensures.1 c.in_err-factor.ensures.makes
    (λ place f. stops_later fam t c.args.j (factor_of c.in-Some.first.now) ss (between c.args.pres.now c.args.i c.args.j)
    c.in_ok-product.product.items eq c.in_ok-product.ensures.power place c.in_ok-product.ensures.makes
    (stops_power step.Image t (powers t) c.in_ok-product.product.items gs c.loop-syllable.syllable-index
    c.loop-syllable.product.items g l is c.loop-syllable.invariant place f))

pub times-requires-clause-xs : goal.times-requires-clause-xs
times-requires-clause-xs c =
    let t = c.args.table.now in
    let fam = families c.args.images.now in
    let gs = map (right_power fam t c.args.j) (factors_of c.in-Some.rest.now) in
    ap length c.loop-syllable.invariant.made
    ∙ length-joined t (powers t) c.in_ok-product.product.items (take c.loop-syllable.syllable-index gs)
    (ap length c.in_ok-product.ensures.power
    ∙ length-power_of t (right_power fam t c.args.j (factor_of c.in-Some.first.now)))

pub times-requires-clause-ys : goal.times-requires-clause-ys
times-requires-clause-ys c =
    let t = c.args.table.now in
    let fam = families c.args.images.now in
    let d : Syllable = record { number = 0; exp = pos 0 } in
    let s = get_or c.in-Some.rest.now c.loop-syllable.syllable-index d in
    ap length c.in_ok-factor.ensures.power ∙ length-power_of t (right_power fam t c.args.j (factor_of s))

pub returns-in_err-product-2-clause-makes : goal.returns-in_err-product-2-clause-makes
returns-in_err-product-2-clause-makes c =
    let t = c.args.table.now in
    let fam = families c.args.images.now in
    let d : Syllable = record { number = 0; exp = pos 0 } in
    let s = get_or c.in-Some.rest.now c.loop-syllable.syllable-index d in
    let ss = factors_of c.in-Some.rest.now in
    let gs = map (right_power fam t c.args.j) ss in
    let g = right_power fam t c.args.j (factor_of s) in
    let eq : between c.args.pres.now c.args.i c.args.j ≡ factor_of c.in-Some.first.now ∷ ss =
    between_is c.args.pres.now c.args.i c.args.j c.right_side.result.now c.requires.least c.requires.above (omega arith) c.right_side.ensures.right
    ∙ ap factors_of c.in-Some.ensures.cases.0 in
    let n : length ss ≡ length c.in-Some.rest.now = length-map c.in-Some.rest.now factor_of in
    let l : c.loop-syllable.syllable-index < length gs = omega (arith, length-map ss (right_power fam t c.args.j)) in
    let is : get_or gs c.loop-syllable.syllable-index g ≡ g =
    get_or-map (right_power fam t c.args.j) ss c.loop-syllable.syllable-index (factor_of d) g (omega arith)
    ∙ ap (right_power fam t c.args.j) (get_or-map factor_of c.in-Some.rest.now c.loop-syllable.syllable-index d (factor_of d) c.loop-syllable-test.true) in
    handed_on c.in_err-product-2.field-0.0 c.from_residual-in_err-product-2.result
    (times_calls step.Image c.args.j t c.loop-syllable.product.items c.in_ok-factor.factor.items)
    (right_calls fam t c.args.j (between c.args.pres.now c.args.i c.args.j))
    c.from_residual-in_err-product-2.ensures.1 c.in_err-product-2.ensures.makes
    (λ place f. stops_later fam t c.args.j (factor_of c.in-Some.first.now) ss (between c.args.pres.now c.args.i c.args.j)
    c.in_ok-product.product.items eq c.in_ok-product.ensures.power place c.in_ok-product.ensures.makes
    (stops_times step.Image t (powers t) c.in_ok-product.product.items gs c.loop-syllable.syllable-index
    c.loop-syllable.product.items g l is c.loop-syllable.invariant place c.in_ok-factor.factor.items
    c.in_ok-factor.ensures.power c.in_ok-factor.ensures.makes f))

pub loop-syllable-preserved : goal.loop-syllable-preserved
loop-syllable-preserved c =
    let t = c.args.table.now in
    let fam = families c.args.images.now in
    let d : Syllable = record { number = 0; exp = pos 0 } in
    let s = get_or c.in-Some.rest.now c.loop-syllable.syllable-index d in
    let ss = factors_of c.in-Some.rest.now in
    let gs = map (right_power fam t c.args.j) ss in
    let g = right_power fam t c.args.j (factor_of s) in
    let n : length ss ≡ length c.in-Some.rest.now = length-map c.in-Some.rest.now factor_of in
    let l : c.loop-syllable.syllable-index < length gs = omega (arith, length-map ss (right_power fam t c.args.j)) in
    let is : get_or gs c.loop-syllable.syllable-index g ≡ g =
    get_or-map (right_power fam t c.args.j) ss c.loop-syllable.syllable-index (factor_of d) g (omega arith)
    ∙ ap (right_power fam t c.args.j) (get_or-map factor_of c.in-Some.rest.now c.loop-syllable.syllable-index d (factor_of d) c.loop-syllable-test.true) in
    joined_more step.Image t (powers t) c.in_ok-product.product.items gs c.loop-syllable.syllable-index
    c.loop-syllable.product.items g l is c.loop-syllable.invariant c.in_ok-factor.factor.items
    c.in_ok-product-2.product.items c.in_ok-factor.ensures.power c.in_ok-product-2.ensures.times
    c.in_ok-factor.ensures.makes c.in_ok-product-2.ensures.makes

pub returns-clause-right : goal.returns-clause-right
returns-clause-right c =
    let t = c.args.table.now in
    let fam = families c.args.images.now in
    let ss = factors_of c.in-Some.rest.now in
    let gs = map (right_power fam t c.args.j) ss in
    let eq : between c.args.pres.now c.args.i c.args.j ≡ factor_of c.in-Some.first.now ∷ ss =
    between_is c.args.pres.now c.args.i c.args.j c.right_side.result.now c.requires.least c.requires.above (omega arith) c.right_side.ensures.right
    ∙ ap factors_of c.in-Some.ensures.cases.0 in
    let n : length ss ≡ length c.in-Some.rest.now = length-map c.in-Some.rest.now factor_of in
    let m : length gs ≡ length ss = length-map ss (right_power fam t c.args.j) in
    let whole : take c.loop-syllable.syllable-index gs ≡ gs = take_all c.loop-syllable.syllable-index gs (omega arith) in
    right_is fam t c.args.j (factor_of c.in-Some.first.now) ss (between c.args.pres.now c.args.i c.args.j)
    c.in_ok-product.product.items eq c.in_ok-product.ensures.power c.loop-syllable.product.items
    (joined_ends step.Image t (powers t) c.in_ok-product.product.items gs c.loop-syllable.syllable-index
    c.loop-syllable.product.items whole c.loop-syllable.invariant).0

pub returns-clause-makes : goal.returns-clause-makes
returns-clause-makes c =
    let t = c.args.table.now in
    let fam = families c.args.images.now in
    let ss = factors_of c.in-Some.rest.now in
    let gs = map (right_power fam t c.args.j) ss in
    let eq : between c.args.pres.now c.args.i c.args.j ≡ factor_of c.in-Some.first.now ∷ ss =
    between_is c.args.pres.now c.args.i c.args.j c.right_side.result.now c.requires.least c.requires.above (omega arith) c.right_side.ensures.right
    ∙ ap factors_of c.in-Some.ensures.cases.0 in
    let n : length ss ≡ length c.in-Some.rest.now = length-map c.in-Some.rest.now factor_of in
    let m : length gs ≡ length ss = length-map ss (right_power fam t c.args.j) in
    let whole : take c.loop-syllable.syllable-index gs ≡ gs = take_all c.loop-syllable.syllable-index gs (omega arith) in
    right_made fam t c.args.j (factor_of c.in-Some.first.now) ss (between c.args.pres.now c.args.i c.args.j)
    c.in_ok-product.product.items eq c.in_ok-product.ensures.power c.in_ok-product.ensures.makes
    (joined_ends step.Image t (powers t) c.in_ok-product.product.items gs c.loop-syllable.syllable-index
    c.loop-syllable.product.items whole c.loop-syllable.invariant).1
