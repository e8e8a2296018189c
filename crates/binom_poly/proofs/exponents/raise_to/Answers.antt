use Rattle.std.proofs.Common.{◌<◌, ◌∙◌, length, get_or, arith}
use Rattle.std.proofs.Math.ListN.{length-set}
use Rattle.std.proofs.lemmas.List.{get_or_default}
use Rattle.binom_poly.specs.declared.part.Part.{Part}
use Rattle.binom_poly.specs.Monomial.{exponent_of}
use Rattle.binom_poly.proofs.Greatest.{number_raised, own_variable}
use Rattle.binom_poly.proofs.exponents.raise_to.Goals as goal

pub loop-part-init : goal.loop-part-init
unfolding exponent_of
loop-part-init c = record { places = c.requires.length; raised = λ v. omega arith }

pub bounds-tops-place : goal.bounds-tops-place
bounds-tops-place c =
    let d : Part = record { var = 0; exp = 0 } in
    let p = get_or c.args.parts.now c.loop-part.part-index d in
    omega (arith, c.loop-part.invariant.places, own_variable 0 c.args.parts.now c.loop-part.part-index p c.requires.form c.loop-part-test.true (get_or_default c.args.parts.now c.loop-part.part-index d p c.loop-part-test.true))

pub bounds-tops-place-in-loop-part : goal.bounds-tops-place-in-loop-part
bounds-tops-place-in-loop-part c =
    let d : Part = record { var = 0; exp = 0 } in
    let p = get_or c.args.parts.now c.loop-part.part-index d in
    omega (arith, c.loop-part.invariant.places, own_variable 0 c.args.parts.now c.loop-part.part-index p c.requires.form c.loop-part-test.true (get_or_default c.args.parts.now c.loop-part.part-index d p c.loop-part-test.true))

pub loop-part-preserved : goal.loop-part-preserved
loop-part-preserved c =
    let d : Part = record { var = 0; exp = 0 } in
    let p = get_or c.args.parts.now c.loop-part.part-index d in
    let e = get_or_default c.args.parts.now c.loop-part.part-index d p c.loop-part-test.true in
    let b : p.var < length c.loop-part.tops = omega (arith, c.loop-part.invariant.places, own_variable 0 c.args.parts.now c.loop-part.part-index p c.requires.form c.loop-part-test.true e) in
    record {
      places = length-set c.loop-part.tops p.var c.max.result ∙ c.loop-part.invariant.places;
      raised = λ v. number_raised c.args.tops.now c.loop-part.tops c.args.parts.now c.loop-part.part-index v c.max.result p c.requires.form c.loop-part-test.true e b c.max.ensures c.loop-part.invariant.raised;
    }
