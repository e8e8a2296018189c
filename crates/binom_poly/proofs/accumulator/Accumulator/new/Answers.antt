use Rattle.std.proofs.Common.{[], sym, subst}
use Rattle.binom_poly.specs.Sums.{Holds}
use Rattle.binom_poly.proofs.Gaining.{holds_none}
use Rattle.binom_poly.proofs.accumulator.Accumulator.new.Goals as goal

pub returns : goal.returns
returns c = subst (λ es. Holds es []) (sym c.new.ensures) holds_none
