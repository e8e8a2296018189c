-- One image after another, with y in place of t.
use Rattle.std.proofs.Common.{◌≡◌, ◌-◌, ◌<◌, List, length, ap, ◌∙◌, subst, arith}
use Rattle.std.specs.Prelude.{All}
use Rattle.nil_word.specs.Exponents.{numbers}
use Rattle.binom_poly.specs.Collected.{var_terms}
use Rattle.hall_table.specs.Order.{generators}
use Rattle.hall_table.specs.Tabled.{last_of}
use Rattle.sum_compiler.specs.declared.sum_step.SumStep.TheVariants as step
use Rattle.sum_compiler.specs.Calls.{Call, IsFirstAt, IsMade}
use Rattle.sum_compiler.specs.Putting.{calls_in}
use Rattle.sum_compiler.specs.Images.{families, image_at}
use Rattle.sum_compiler.specs.Products.{base_of, all_at_y_calls}
use Rattle.sum_compiler.proofs.Walking.{handed_on}
use Rattle.sum_compiler.proofs.BasesSoFar.{bases_begin, bases_more, bases_stop, listed_none, listed_more, base_made, named-base, apart-base, calls-made, image_is, length-image_at}
use Rattle.sum_compiler.proofs.products.bases.Goals as goal

pub loop-j-init : goal.loop-j-init
loop-j-init c =
    let t = c.args.table.now in
    let fam = families c.args.images.now in
    record {
      kept = c.in_ok-at_y.ensures;
      listed = listed_none fam t c.args.i c.level-level.result c.new-bases.result.items
          c.new-bases.ensures.items c.level-level.ensures.level;
      walked = bases_begin fam t c.args.i c.level-level.result c.level-level.ensures.level;
    }

pub returns-in_err-vector-clause-makes : goal.returns-in_err-vector-clause-makes
returns-in_err-vector-clause-makes c =
    let t = c.args.table.now in
    let fam = families c.args.images.now in
    let i = c.args.i in
    let j = c.loop-j.j in
    let l : last_of t - j < length c.args.images.now = omega arith in
    let image : c.deref.result.now ≡ image_at fam t j =
    c.deref.ensures.value
    ∙ image_is (λ v. v.items) c.args.images.now c.index-images-last.result t c.last-last.result j
    c.last-last.ensures.last l c.index-images-last.is in
    handed_on c.in_err-vector.field-0.0 c.from_residual-in_err-vector.result
    (calls_in step.Product j c.level-level.result c.loop-j.at_y c.deref.result.now)
    (all_at_y_calls fam t i (numbers t.level (generators t)))
    c.from_residual-in_err-vector.ensures.1 c.in_err-vector.ensures.makes
    (λ place f. bases_stop fam t i j (generators t) place (omega arith) (omega arith)
    c.loop-j.invariant.walked
    (subst (λ (cs : List Call). IsFirstAt cs place)
    (calls-made fam t i c.level-level.result j c.loop-j.at_y c.deref.result.now
    c.level-level.ensures.level c.loop-j.invariant.kept image) f))

pub new-requires-clause-variables : goal.new-requires-clause-variables
new-requires-clause-variables c =
    let t = c.args.table.now in
    let fam = families c.args.images.now in
    let i = c.args.i in
    let j = c.loop-j.j in
    let l : last_of t - j < length c.args.images.now = omega arith in
    let image : c.deref.result.now ≡ image_at fam t j =
    c.deref.ensures.value
    ∙ image_is (λ v. v.items) c.args.images.now c.index-images-last.result t c.last-last.result j
    c.last-last.ensures.last l c.index-images-last.is in
    let base : c.in_ok-base.base.items ≡ base_of fam t i j =
    base_made fam t i c.level-level.result j c.loop-j.at_y c.in_ok-base.base.items
    c.deref.result.now
    c.in_ok-vector.vector.items c.in_ok-exponent.exponent c.level-level.ensures.level
    c.loop-j.invariant.kept image c.in_ok-vector.ensures.put
    (c.in_ok-exponent.ensures.variable ∙ ap var_terms c.x_of.ensures) c.in_ok-base.ensures in
    let size : length (image_at fam t j) ≡ generators t =
    length-image_at (λ v. v.items) c.args.images.now t j c.requires.count c.requires.size
    (omega arith)
    (omega arith) (omega arith) in
    named-base fam t i j c.in_ok-base.base.items base size (omega arith) (omega arith)

pub new-requires-clause-different : goal.new-requires-clause-different
new-requires-clause-different c =
    let t = c.args.table.now in
    let fam = families c.args.images.now in
    let i = c.args.i in
    let j = c.loop-j.j in
    let l : last_of t - j < length c.args.images.now = omega arith in
    let image : c.deref.result.now ≡ image_at fam t j =
    c.deref.ensures.value
    ∙ image_is (λ v. v.items) c.args.images.now c.index-images-last.result t c.last-last.result j
    c.last-last.ensures.last l c.index-images-last.is in
    let base : c.in_ok-base.base.items ≡ base_of fam t i j =
    base_made fam t i c.level-level.result j c.loop-j.at_y c.in_ok-base.base.items
    c.deref.result.now
    c.in_ok-vector.vector.items c.in_ok-exponent.exponent c.level-level.ensures.level
    c.loop-j.invariant.kept image c.in_ok-vector.ensures.put
    (c.in_ok-exponent.ensures.variable ∙ ap var_terms c.x_of.ensures) c.in_ok-base.ensures in
    let size : length (image_at fam t j) ≡ generators t =
    length-image_at (λ v. v.items) c.args.images.now t j c.requires.count c.requires.size
    (omega arith)
    (omega arith) (omega arith) in
    apart-base fam t i j c.in_ok-base.base.items base size (omega arith)

pub loop-j-preserved : goal.loop-j-preserved
loop-j-preserved c =
    let t = c.args.table.now in
    let fam = families c.args.images.now in
    let i = c.args.i in
    let j = c.loop-j.j in
    let l : last_of t - j < length c.args.images.now = omega arith in
    let image : c.deref.result.now ≡ image_at fam t j =
    c.deref.ensures.value
    ∙ image_is (λ v. v.items) c.args.images.now c.index-images-last.result t c.last-last.result j
    c.last-last.ensures.last l c.index-images-last.is in
    let base : c.in_ok-base.base.items ≡ base_of fam t i j =
    base_made fam t i c.level-level.result j c.loop-j.at_y c.in_ok-base.base.items
    c.deref.result.now
    c.in_ok-vector.vector.items c.in_ok-exponent.exponent c.level-level.ensures.level
    c.loop-j.invariant.kept image c.in_ok-vector.ensures.put
    (c.in_ok-exponent.ensures.variable ∙ ap var_terms c.x_of.ensures) c.in_ok-base.ensures in
    record {
      kept = c.in_ok-vector.ensures.kept ∙ c.loop-j.invariant.kept;
      listed = listed_more fam t i j c.loop-j.bases.items c.push.new.self.items c.in_ok-new.field-0
          (omega arith) c.in_ok-push.ensures.items (c.in_ok-new.ensures ∙ base)
          c.loop-j.invariant.listed;
      walked = bases_more fam t i j (omega arith) c.loop-j.invariant.walked
          (subst (All IsMade)
          (calls-made fam t i c.level-level.result j c.loop-j.at_y c.deref.result.now
          c.level-level.ensures.level c.loop-j.invariant.kept image) c.in_ok-vector.ensures.makes);
    }
