use Rattle.std.proofs.Common.{rules, refl, arith}
use Rattle.binom_poly.specs.Exponents.{greatest_in}
use Rattle.binom_poly.proofs.Greatest.{zeros, greatest_in-more}
use Rattle.binom_poly.proofs.exponents.greatest_exponents_in.Goals as goal

pub loop-poly-init : goal.loop-poly-init
unfolding greatest_in
loop-poly-init c = record { places = refl; raised = λ v. zeros 201 v; small = λ v. omega arith }

pub loop-poly-preserved : goal.loop-poly-preserved
loop-poly-preserved c = record {
  places = search rules;
  raised = λ v. omega (arith, greatest_in-more v c.args.polys.now c.loop-poly.poly-index c.poly-item.result c.loop-poly-test.true c.poly-item.is, c.loop-poly.invariant.raised v, c.raise_to_all.ensures.raised v);
  small = λ v. omega (arith, greatest_in-more v c.args.polys.now c.loop-poly.poly-index c.poly-item.result c.loop-poly-test.true c.poly-item.is, c.loop-poly.invariant.small v, c.raise_to_all.ensures.small v);
}
