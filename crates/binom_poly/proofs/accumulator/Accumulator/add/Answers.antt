use Rattle.std.proofs.Common.{[], ◌∷◌, ◌++◌, arith}
use Rattle.std.specs.Int.{w128}
use Rattle.std.proofs.lemmas.Int.{to_z-of_z}
use borrow.Author.Differences.{ints}
use Rattle.binom_poly.specs.Times.{contribution}
use Rattle.binom_poly.proofs.Accumulating.{held_fits, large_overflows, gained_by}
use Rattle.binom_poly.proofs.accumulator.Accumulator.add.Goals as goal

pub returns-then-coefficient-clause-wide : goal.returns-then-coefficient-clause-wide
returns-then-coefficient-clause-wide c = λ _ cs h.
    large_overflows cs c.args.monomial.now c.args.coefficient (omega (arith, ints, c.if-coefficient.true))

pub returns-clause-fits : goal.returns-clause-fits
returns-clause-fits c = λ cs h.
    held_fits c.add.new.self (cs ++ contribution c.args.monomial.now c.args.coefficient ∷ [])
    (gained_by c.args.self c.self.inside.sums c.add.new.self c.args.monomial.now c.args.coefficient _ cs
    (to_z-of_z w128 c.args.coefficient c.ranges.coefficient) c.self.view_is c.in_ok-add.ensures.gains h)
