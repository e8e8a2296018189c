-- The variables are those of the x.
use Rattle.std.proofs.Common.{[], sym, ap, ◌∙◌, subst, arith}
use Rattle.std.specs.Prelude.{All, AllPairs}
use Rattle.sum_compiler.specs.Putting.{into}
use Rattle.sum_compiler.proofs.Listing.{Named, Apart, named-into, apart-into}
use Rattle.sum_compiler.proofs.levels.level_polys.Goals as goal

pub new-requires-2-clause-variables : goal.new-requires-2-clause-variables
new-requires-2-clause-variables c =
    subst (All Named)
    (sym (c.in_ok-list.ensures
    ∙ ap (into c.level.result c.args.product.items) c.new.ensures.items))
    (named-into c.level.result c.args.product.items [] (omega arith) (omega arith) (omega arith))

pub new-requires-2-clause-different : goal.new-requires-2-clause-different
new-requires-2-clause-different c =
    subst (AllPairs Apart)
    (sym (c.in_ok-list.ensures
    ∙ ap (into c.level.result c.args.product.items) c.new.ensures.items))
    (apart-into c.level.result c.args.product.items [] (omega arith))
