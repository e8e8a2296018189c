-- The variable is t alone.
use Rattle.std.proofs.Common.{List, [], sym, ap, ◌∙◌, subst, arith}
use Rattle.std.specs.Prelude.{All, AllPairs}
use Rattle.binom_poly.specs.declared.term.Term.{Term}
use Rattle.sum_compiler.specs.Putting.{to_power}
use Rattle.sum_compiler.proofs.Listing.{Named, Apart, named-to_power, apart-to_power}
use Rattle.sum_compiler.proofs.products.at_y.Goals as goal

pub new-requires-2-clause-variables : goal.new-requires-2-clause-variables
new-requires-2-clause-variables c =
    subst (All Named)
    (sym (c.in_ok-list.ensures
    ∙ ap (λ (zs : List (List Term)). to_power c.level.result zs c.in_ok-y.y) c.new.ensures.items))
    (named-to_power c.level.result [] c.in_ok-y.y (omega arith) (omega arith))

pub new-requires-2-clause-different : goal.new-requires-2-clause-different
new-requires-2-clause-different c =
    subst (AllPairs Apart)
    (sym (c.in_ok-list.ensures
    ∙ ap (λ (zs : List (List Term)). to_power c.level.result zs c.in_ok-y.y) c.new.ensures.items))
    (apart-to_power c.level.result [] c.in_ok-y.y (omega arith))
