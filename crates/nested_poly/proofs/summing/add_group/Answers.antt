use Rattle.std.proofs.Common.{◌∙◌, length, sym, rules, FitsSigned}
use Rattle.std.specs.Int.{w128}
use Rattle.binom_poly.specs.Readings.{value_at}
use Rattle.std.proofs.lemmas.Bool.{eqb-true}
use Rattle.binom_poly.proofs.Sorting.{zero_of_bits}
use Rattle.binom_poly.proofs.Spreading.{some_here}
use Rattle.nested_poly.proofs.Grouping.{group_width, zero_roots, no_roots}
use Rattle.nested_poly.proofs.summing.add_group.Goals as goal

pub returns-then-is_empty-clause-sums : goal.returns-then-is_empty-clause-sums
returns-then-is_empty-clause-sums c k =
    no_roots (value_at c.args.rows.now) c.args.trees.now k c.args.roots.now _ (eqb-true (length c.args.roots.now) 0 (sym c.if-is_empty.ensures))

pub at-factor-requires : goal.at-factor-requires
at-factor-requires c =
    group_width c.args.rows.now c.args.trees.now c.args.part c.args.roots.now (some_here (length c.args.roots.now) c.if-is_empty.ensures) c.requires.roots c.requires.covered

pub returns-then-factor-eq0-clause-sums : goal.returns-then-factor-eq0-clause-sums
returns-then-factor-eq0-clause-sums c k =
    let f : FitsSigned w128 c.at-factor.result = search rules in
    zero_roots (value_at c.args.rows.now) c.args.trees.now c.args.part k c.args.roots.now _ c.requires.roots (sym c.at-factor.ensures ∙ zero_of_bits c.at-factor.result f c.if-factor-eq0.true)
