-- The variables are those of the z and t.
use Rattle.std.proofs.Common.{sym, subst, arith}
use Rattle.std.specs.Prelude.{All, AllPairs}
use Rattle.sum_compiler.proofs.Listing.{Named, Apart, named-to_power, apart-to_power}
use Rattle.sum_compiler.proofs.joining.power.Goals as goal

pub new-requires-clause-variables : goal.new-requires-clause-variables
new-requires-clause-variables c =
    subst (All Named) (sym c.in_ok-list.ensures)
    (named-to_power c.level-level.result c.args.vector.items c.args.exponent (omega arith)
    (omega arith))

pub new-requires-clause-different : goal.new-requires-clause-different
new-requires-clause-different c =
    subst (AllPairs Apart) (sym c.in_ok-list.ensures)
    (apart-to_power c.level-level.result c.args.vector.items c.args.exponent (omega arith))
