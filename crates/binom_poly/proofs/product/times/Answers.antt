use Rattle.std.proofs.Common.{◌∙◌}
use Rattle.std.specs.Int.{w128}
use Rattle.std.proofs.lemmas.Int.{to_z-of_z}
use Rattle.binom_poly.proofs.Machine.{product_there}
use Rattle.binom_poly.proofs.product.times.Goals as goal

pub returns-in-Ok-Ok : goal.returns-in-Ok-Ok
returns-in-Ok-Ok c =
    let f = c.in-Ok-Ok.ensures in
    let g = c.in-Ok-Ok.ensures' in
    product_there c.args.a c.args.b c.in-Ok-Ok.x c.in-Ok-Ok.y
    (f.1 ∙ to_z-of_z w128 c.args.a c.ranges.a) (g.1 ∙ to_z-of_z w128 c.args.b c.ranges.b)
    f.0 g.0 c.ranges.a c.ranges.b
