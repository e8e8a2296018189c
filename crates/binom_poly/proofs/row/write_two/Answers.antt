use Rattle.std.specs.Int.{w128}
use Rattle.std.proofs.lemmas.Int.{to_z-of_z}
use Rattle.binom_poly.proofs.Evaluating.{two_row_is, two_fit}
use Rattle.binom_poly.proofs.row.write_two.Goals as goal

pub returns-clause-row : goal.returns-clause-row
returns-clause-row c = two_row_is c.args.x _ c.args.row.now (to_z-of_z w128 c.args.x c.ranges.x) c.requires.two

pub returns-clause-fits : goal.returns-clause-fits
returns-clause-fits c = two_fit c.args.x c.requires.number
