-- One power after another.
use Rattle.std.proofs.Common.{◌≡◌, ℕ, ◌+◌, ◌-◌, ◌<◌, List, [], length, take, get_or, refl, ap, ◌∙◌, subst, arith}
use Rattle.std.specs.Prelude.{All}
use Rattle.hall_table.specs.Order.{generators}
use Rattle.sum_compiler.specs.declared.sum_step.SumStep.TheVariants as step
use Rattle.sum_compiler.specs.Calls.{Call, IsFirstAt, IsMade}
use Rattle.sum_compiler.specs.Putting.{calls_in}
use Rattle.sum_compiler.specs.Joining.{power_of, power_calls, times_calls}
use Rattle.sum_compiler.specs.Powers.{zs, powers}
use Rattle.sum_compiler.specs.Images.{families}
use Rattle.sum_compiler.specs.Products.{product_power, base_of, later_powers, product_plan}
use Rattle.sum_compiler.proofs.Walking.{handed_on}
use Rattle.sum_compiler.proofs.SumsSoFar.{length-with_sums}
use Rattle.sum_compiler.proofs.BasesSoFar.{length-bases}
use Rattle.sum_compiler.proofs.JoinedSoFar.{JoinedSoFar, joined_begins, stops_power, stops_times, joined_more, joined_ends, length-power_of, length-joined}
use Rattle.sum_compiler.proofs.ProductSoFar.{unchanged, base_is, power_is, power-calls, length-later, later_at, later_whole, stops_first, stops_later, plan_made, product_is}
use Rattle.sum_compiler.proofs.products.product.Goals as goal

pub put_in_each-requires : goal.put_in_each-requires
put_in_each-requires c =
    let t = c.args.table.now in
    let size = length-with_sums t (zs t) [] (generators t) in
    let n : length c.args.power_polys.now ≡ length (powers t) = ap length c.requires.powers in
    record { few = omega arith }

pub returns-in_err-product-clause-makes : goal.returns-in_err-product-clause-makes
returns-in_err-product-clause-makes c =
    let t = c.args.table.now in
    let fam = families c.args.images.now in
    let i = c.args.i in
    let base : c.index_mut.result.now ≡ base_of fam t i t.level =
    base_is fam t i c.in_ok-bases.bases.items c.index_mut.result.now t.level t.level
    c.in_ok-bases.ensures.bases refl (omega arith) (omega arith)
    (c.index_mut.ensures.value
    ∙ ap (λ (k : ℕ). get_or c.in_ok-bases.bases.items k c.index_mut.result.now)
    (let zero : 0 ≡ t.level - t.level = omega arith in zero)) in
    handed_on c.in_err-product.field-0.0 c.from_residual-in_err-product.result
    (calls_in step.Product c.level-level.result c.level-level.result c.index_mut.result.now
    c.args.power_polys.now) (product_plan fam t i) c.from_residual-in_err-product.ensures.1
    c.in_err-product.ensures.makes
    (λ place f. stops_first fam t i place c.in_ok-bases.ensures.makes
    (subst (λ (cs : List Call). IsFirstAt cs place)
    (ap (λ (k : ℕ). calls_in step.Product k c.level-level.result c.index_mut.result.now
    c.args.power_polys.now)
    c.level-level.ensures.level
    ∙ power-calls fam t i c.level-level.result t.level c.index_mut.result.now c.args.power_polys.now
    c.level-level.ensures.level base c.requires.powers) f))

pub loop-j-init : goal.loop-j-init
loop-j-init c =
    let t = c.args.table.now in
    let fam = families c.args.images.now in
    let i = c.args.i in
    let none : 0 ≡ c.level-level.result + 1 - t.level - 1 = omega arith in
    record {
      kept = unchanged c.in_ok-bases.bases.items 0 c.index_mut.result.now
          c.put_in_each.new.substitution
          c.index_mut.ensures.value c.in_ok-product.ensures.kept ∙ c.in_ok-bases.ensures.bases;
      so_far = subst (λ (d : ℕ). JoinedSoFar step.Product t (powers t) c.in_ok-product.product.items
          (later_powers fam t i) d c.in_ok-product.product.items) none
          (joined_begins step.Product t (powers t) c.in_ok-product.product.items
          (later_powers fam t i)
          c.in_ok-product.product.items refl);
    }

pub index_mut-base-requires : goal.index_mut-base-requires
index_mut-base-requires c =
    let t = c.args.table.now in
    let fam = families c.args.images.now in
    let i = c.args.i in
    let n : length c.loop-j.bases.items ≡ generators t =
    length-bases fam t i (generators t) c.loop-j.bases.items c.loop-j.invariant.kept in
    omega arith

pub put_in_each-requires-in-loop-j : goal.put_in_each-requires-in-loop-j
put_in_each-requires-in-loop-j c =
    let t = c.args.table.now in
    let size = length-with_sums t (zs t) [] (generators t) in
    let n : length c.args.power_polys.now ≡ length (powers t) = ap length c.requires.powers in
    record { few = omega arith }

pub returns-in_err-factor-clause-makes : goal.returns-in_err-factor-clause-makes
returns-in_err-factor-clause-makes c =
    let t = c.args.table.now in
    let fam = families c.args.images.now in
    let i = c.args.i in
    let base : c.index_mut.result.now ≡ base_of fam t i t.level =
    base_is fam t i c.in_ok-bases.bases.items c.index_mut.result.now t.level t.level
    c.in_ok-bases.ensures.bases refl (omega arith) (omega arith)
    (c.index_mut.ensures.value
    ∙ ap (λ (k : ℕ). get_or c.in_ok-bases.bases.items k c.index_mut.result.now)
    (let zero : 0 ≡ t.level - t.level = omega arith in zero)) in
    let j = c.loop-j.j in
    let later : c.index_mut-base.result.now ≡ base_of fam t i j =
    base_is fam t i c.loop-j.bases.items c.index_mut-base.result.now c.level-level.result j
    c.loop-j.invariant.kept c.level-level.ensures.level (omega arith) (omega arith)
    c.index_mut-base.ensures.value in
    let gs = later_powers fam t i in
    let d = j - t.level - 1 in
    let g = product_power fam t i j in
    let n = length-later fam t i in
    let l : d < length gs = omega arith in
    let at : get_or gs d g ≡ g = later_at fam t i j (omega arith) (omega arith) in
    let power : c.in_ok-product.product.items ≡ power_of t (powers t)
    (product_power fam t i t.level) =
    power_is fam t i t.level c.index_mut.result.now c.args.power_polys.now
    c.in_ok-product.product.items base
    c.requires.powers c.in_ok-product.ensures.put in
    let started : All IsMade (power_calls step.Product t (powers t)
    (product_power fam t i t.level)) =
    subst (All IsMade)
    (ap (λ (k : ℕ). calls_in step.Product k c.level-level.result c.index_mut.result.now
    c.args.power_polys.now)
    c.level-level.ensures.level
    ∙ power-calls fam t i c.level-level.result t.level c.index_mut.result.now c.args.power_polys.now
    c.level-level.ensures.level base c.requires.powers) c.in_ok-product.ensures.makes in
    handed_on c.in_err-factor.field-0.0 c.from_residual-in_err-factor.result
    (calls_in step.Product j c.level-level.result c.index_mut-base.result.now
    c.args.power_polys.now)
    (product_plan fam t i) c.from_residual-in_err-factor.ensures.1 c.in_err-factor.ensures.makes
    (λ place f. stops_later fam t i place c.in_ok-product.product.items power
    c.in_ok-bases.ensures.makes
    started
    (stops_power step.Product t (powers t) c.in_ok-product.product.items gs d c.loop-j.product.items
    g l at
    c.loop-j.invariant.so_far place
    (subst (λ (cs : List Call). IsFirstAt cs place)
    (power-calls fam t i c.level-level.result j c.index_mut-base.result.now c.args.power_polys.now
    c.level-level.ensures.level later c.requires.powers) f)))

pub times-requires-clause-xs : goal.times-requires-clause-xs
times-requires-clause-xs c =
    let t = c.args.table.now in
    let fam = families c.args.images.now in
    let i = c.args.i in
    let base : c.index_mut.result.now ≡ base_of fam t i t.level =
    base_is fam t i c.in_ok-bases.bases.items c.index_mut.result.now t.level t.level
    c.in_ok-bases.ensures.bases refl (omega arith) (omega arith)
    (c.index_mut.ensures.value
    ∙ ap (λ (k : ℕ). get_or c.in_ok-bases.bases.items k c.index_mut.result.now)
    (let zero : 0 ≡ t.level - t.level = omega arith in zero)) in
    let power : c.in_ok-product.product.items ≡ power_of t (powers t)
    (product_power fam t i t.level) =
    power_is fam t i t.level c.index_mut.result.now c.args.power_polys.now
    c.in_ok-product.product.items base
    c.requires.powers c.in_ok-product.ensures.put in
    ap length c.loop-j.invariant.so_far.made
    ∙ length-joined t (powers t) c.in_ok-product.product.items
    (take (c.loop-j.j - t.level - 1) (later_powers fam t i))
    (ap length power ∙ length-power_of t (product_power fam t i t.level))

pub times-requires-clause-ys : goal.times-requires-clause-ys
times-requires-clause-ys c =
    let t = c.args.table.now in
    let fam = families c.args.images.now in
    let i = c.args.i in
    let j = c.loop-j.j in
    let later : c.index_mut-base.result.now ≡ base_of fam t i j =
    base_is fam t i c.loop-j.bases.items c.index_mut-base.result.now c.level-level.result j
    c.loop-j.invariant.kept c.level-level.ensures.level (omega arith) (omega arith)
    c.index_mut-base.ensures.value in
    ap length
    (power_is fam t i j c.index_mut-base.result.now c.args.power_polys.now
    c.in_ok-factor.factor.items
    later c.requires.powers c.in_ok-factor.ensures.put)
    ∙ length-power_of t (product_power fam t i j)

pub returns-in_err-product-2-clause-makes : goal.returns-in_err-product-2-clause-makes
returns-in_err-product-2-clause-makes c =
    let t = c.args.table.now in
    let fam = families c.args.images.now in
    let i = c.args.i in
    let base : c.index_mut.result.now ≡ base_of fam t i t.level =
    base_is fam t i c.in_ok-bases.bases.items c.index_mut.result.now t.level t.level
    c.in_ok-bases.ensures.bases refl (omega arith) (omega arith)
    (c.index_mut.ensures.value
    ∙ ap (λ (k : ℕ). get_or c.in_ok-bases.bases.items k c.index_mut.result.now)
    (let zero : 0 ≡ t.level - t.level = omega arith in zero)) in
    let j = c.loop-j.j in
    let later : c.index_mut-base.result.now ≡ base_of fam t i j =
    base_is fam t i c.loop-j.bases.items c.index_mut-base.result.now c.level-level.result j
    c.loop-j.invariant.kept c.level-level.ensures.level (omega arith) (omega arith)
    c.index_mut-base.ensures.value in
    let gs = later_powers fam t i in
    let d = j - t.level - 1 in
    let g = product_power fam t i j in
    let n = length-later fam t i in
    let l : d < length gs = omega arith in
    let at : get_or gs d g ≡ g = later_at fam t i j (omega arith) (omega arith) in
    let power : c.in_ok-product.product.items ≡ power_of t (powers t)
    (product_power fam t i t.level) =
    power_is fam t i t.level c.index_mut.result.now c.args.power_polys.now
    c.in_ok-product.product.items base
    c.requires.powers c.in_ok-product.ensures.put in
    let started : All IsMade (power_calls step.Product t (powers t)
    (product_power fam t i t.level)) =
    subst (All IsMade)
    (ap (λ (k : ℕ). calls_in step.Product k c.level-level.result c.index_mut.result.now
    c.args.power_polys.now)
    c.level-level.ensures.level
    ∙ power-calls fam t i c.level-level.result t.level c.index_mut.result.now c.args.power_polys.now
    c.level-level.ensures.level base c.requires.powers) c.in_ok-product.ensures.makes in
    let factor : c.in_ok-factor.factor.items ≡ power_of t (powers t) g =
    power_is fam t i j c.index_mut-base.result.now c.args.power_polys.now
    c.in_ok-factor.factor.items
    later c.requires.powers c.in_ok-factor.ensures.put in
    let factored : All IsMade (power_calls step.Product t (powers t) g) =
    subst (All IsMade)
    (power-calls fam t i c.level-level.result j c.index_mut-base.result.now c.args.power_polys.now
    c.level-level.ensures.level later c.requires.powers) c.in_ok-factor.ensures.makes in
    handed_on c.in_err-product-2.field-0.0 c.from_residual-in_err-product-2.result
    (times_calls step.Product j t c.loop-j.product.items c.in_ok-factor.factor.items)
    (product_plan fam t i) c.from_residual-in_err-product-2.ensures.1
    c.in_err-product-2.ensures.makes
    (λ place f. stops_later fam t i place c.in_ok-product.product.items power
    c.in_ok-bases.ensures.makes
    started
    (stops_times step.Product t (powers t) c.in_ok-product.product.items gs d c.loop-j.product.items
    g l at
    c.loop-j.invariant.so_far place c.in_ok-factor.factor.items factor factored f))

pub loop-j-preserved : goal.loop-j-preserved
loop-j-preserved c =
    let t = c.args.table.now in
    let fam = families c.args.images.now in
    let i = c.args.i in
    let j = c.loop-j.j in
    let later : c.index_mut-base.result.now ≡ base_of fam t i j =
    base_is fam t i c.loop-j.bases.items c.index_mut-base.result.now c.level-level.result j
    c.loop-j.invariant.kept c.level-level.ensures.level (omega arith) (omega arith)
    c.index_mut-base.ensures.value in
    let gs = later_powers fam t i in
    let d = j - t.level - 1 in
    let g = product_power fam t i j in
    let n = length-later fam t i in
    let l : d < length gs = omega arith in
    let at : get_or gs d g ≡ g = later_at fam t i j (omega arith) (omega arith) in
    let factor : c.in_ok-factor.factor.items ≡ power_of t (powers t) g =
    power_is fam t i j c.index_mut-base.result.now c.args.power_polys.now
    c.in_ok-factor.factor.items
    later c.requires.powers c.in_ok-factor.ensures.put in
    let factored : All IsMade (power_calls step.Product t (powers t) g) =
    subst (All IsMade)
    (power-calls fam t i c.level-level.result j c.index_mut-base.result.now c.args.power_polys.now
    c.level-level.ensures.level later c.requires.powers) c.in_ok-factor.ensures.makes in
    let next : d + 1 ≡ j + 1 - t.level - 1 = omega arith in
    record {
      kept = unchanged c.loop-j.bases.items (j - c.level-level.result) c.index_mut-base.result.now
          c.put_in_each-in-loop-j.new.substitution c.index_mut-base.ensures.value
          c.in_ok-factor.ensures.kept ∙ c.loop-j.invariant.kept;
      so_far = subst (λ (e : ℕ). JoinedSoFar step.Product t (powers t) c.in_ok-product.product.items
          gs e
          c.in_ok-product-2.product.items) next
          (joined_more step.Product t (powers t) c.in_ok-product.product.items gs d
          c.loop-j.product.items g l at
          c.loop-j.invariant.so_far c.in_ok-factor.factor.items c.in_ok-product-2.product.items
          factor
          c.in_ok-product-2.ensures.times factored c.in_ok-product-2.ensures.makes);
    }

pub returns-clause-product : goal.returns-clause-product
returns-clause-product c =
    let t = c.args.table.now in
    let fam = families c.args.images.now in
    let i = c.args.i in
    let base : c.index_mut.result.now ≡ base_of fam t i t.level =
    base_is fam t i c.in_ok-bases.bases.items c.index_mut.result.now t.level t.level
    c.in_ok-bases.ensures.bases refl (omega arith) (omega arith)
    (c.index_mut.ensures.value
    ∙ ap (λ (k : ℕ). get_or c.in_ok-bases.bases.items k c.index_mut.result.now)
    (let zero : 0 ≡ t.level - t.level = omega arith in zero)) in
    let power : c.in_ok-product.product.items ≡ power_of t (powers t)
    (product_power fam t i t.level) =
    power_is fam t i t.level c.index_mut.result.now c.args.power_polys.now
    c.in_ok-product.product.items base
    c.requires.powers c.in_ok-product.ensures.put in
    product_is fam t i c.in_ok-product.product.items c.loop-j.product.items power
    (joined_ends step.Product t (powers t) c.in_ok-product.product.items (later_powers fam t i)
    (c.loop-j.j - t.level - 1) c.loop-j.product.items (later_whole fam t i c.loop-j.j (omega arith))
    c.loop-j.invariant.so_far).0

pub returns-clause-makes : goal.returns-clause-makes
returns-clause-makes c =
    let t = c.args.table.now in
    let fam = families c.args.images.now in
    let i = c.args.i in
    let base : c.index_mut.result.now ≡ base_of fam t i t.level =
    base_is fam t i c.in_ok-bases.bases.items c.index_mut.result.now t.level t.level
    c.in_ok-bases.ensures.bases refl (omega arith) (omega arith)
    (c.index_mut.ensures.value
    ∙ ap (λ (k : ℕ). get_or c.in_ok-bases.bases.items k c.index_mut.result.now)
    (let zero : 0 ≡ t.level - t.level = omega arith in zero)) in
    let power : c.in_ok-product.product.items ≡ power_of t (powers t)
    (product_power fam t i t.level) =
    power_is fam t i t.level c.index_mut.result.now c.args.power_polys.now
    c.in_ok-product.product.items base
    c.requires.powers c.in_ok-product.ensures.put in
    let started : All IsMade (power_calls step.Product t (powers t)
    (product_power fam t i t.level)) =
    subst (All IsMade)
    (ap (λ (k : ℕ). calls_in step.Product k c.level-level.result c.index_mut.result.now
    c.args.power_polys.now)
    c.level-level.ensures.level
    ∙ power-calls fam t i c.level-level.result t.level c.index_mut.result.now c.args.power_polys.now
    c.level-level.ensures.level base c.requires.powers) c.in_ok-product.ensures.makes in
    plan_made fam t i c.in_ok-product.product.items power c.in_ok-bases.ensures.makes started
    (joined_ends step.Product t (powers t) c.in_ok-product.product.items (later_powers fam t i)
    (c.loop-j.j - t.level - 1) c.loop-j.product.items (later_whole fam t i c.loop-j.j (omega arith))
    c.loop-j.invariant.so_far).1
