-- The variables are those of the x and y.
use Rattle.std.proofs.Common.{sym, subst, arith}
use Rattle.std.specs.Prelude.{All, AllPairs}
use Rattle.sum_compiler.proofs.Listing.{Named, Apart, named-into, apart-into}
use Rattle.sum_compiler.proofs.joining.times.Goals as goal

pub new-requires-clause-variables : goal.new-requires-clause-variables
new-requires-clause-variables c =
    subst (All Named) (sym c.in_ok-list.ensures)
    (named-into c.level.result c.args.xs.items c.args.ys.items (omega arith) (omega arith)
    (omega arith))

pub new-requires-clause-different : goal.new-requires-clause-different
new-requires-clause-different c =
    subst (AllPairs Apart) (sym c.in_ok-list.ensures)
    (apart-into c.level.result c.args.xs.items c.args.ys.items (omega arith))
