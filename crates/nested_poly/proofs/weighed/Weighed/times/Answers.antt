use Rattle.std.proofs.Common.{rules, FitsSigned}
use Rattle.std.specs.Int.{w128}
use Rattle.std.proofs.lemmas.Int.{to_z-of_z, fits_signed_from_abs}
use Rattle.nested_poly.proofs.Levels.{product_within, product_weighs}
use Rattle.nested_poly.proofs.weighed.Weighed.times.Goals as goal

pub overflow_mul-result : goal.overflow_mul-result
overflow_mul-result c =
    let f : FitsSigned w128 c.args.self.value = search rules in
    let e = to_z-of_z w128 c.args.self.value f in
    fits_signed_from_abs w128 _ (product_within _ _ c.args.self.value c.in_ok-magnitude.magnitude c.unsigned_abs.result c.args.self.magnitude e c.unsigned_abs.ensures.value c.in_ok-magnitude.ensures.0 c.requires.bounded c.in_ok-magnitude.ensures.1)

pub returns : goal.returns
returns c =
    let f : FitsSigned w128 c.args.self.value = search rules in
    let d = to_z-of_z w128 c.args.factor c.ranges.factor in
    let e = to_z-of_z w128 c.args.self.value f in
    product_weighs _ c.args.factor _ c.args.self.value _ c.in_ok-magnitude.magnitude c.unsigned_abs.result c.args.self.magnitude d e c.unsigned_abs.ensures.value c.in_ok-magnitude.ensures.0 c.requires.bounded c.in_ok-magnitude.ensures.1
    (to_z-of_z w128 _ (fits_signed_from_abs w128 _ (product_within _ _ c.args.self.value c.in_ok-magnitude.magnitude c.unsigned_abs.result c.args.self.magnitude e c.unsigned_abs.ensures.value c.in_ok-magnitude.ensures.0 c.requires.bounded c.in_ok-magnitude.ensures.1)))
