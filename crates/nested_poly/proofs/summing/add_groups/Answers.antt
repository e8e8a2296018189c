use Rattle.std.proofs.Common.{sym, subst}
use Rattle.std.specs.Prelude.{All}
use Rattle.binom_poly.specs.Readings.{value_at}
use Rattle.nested_poly.specs.Roots.{roots_at, IsRoot, AreCovered}
use Rattle.nested_poly.specs.Counts.{weighed_at, Counts}
use Rattle.nested_poly.proofs.Grouping.{roots_of_group, covered_of_group, groups_begin, groups_next, groups_end}
use Rattle.nested_poly.proofs.summing.add_groups.Goals as goal

pub loop-group-init : goal.loop-group-init
loop-group-init c = groups_begin (value_at c.args.rows.now) c.args.trees.now c.args.sums.now c.requires.length c.requires.totals

pub add_group-requires-clause-roots : goal.add_group-requires-clause-roots
add_group-requires-clause-roots c =
    subst (All (IsRoot c.args.trees.now c.group-item.result.part)) (sym c.deref.ensures.value)
    (roots_of_group c.args.trees.now c.args.groups.now c.loop-group.group-index c.group-item.result c.loop-group-test.true c.group-item.is c.requires.roots)

pub add_group-requires-clause-covered : goal.add_group-requires-clause-covered
add_group-requires-clause-covered c =
    subst (AreCovered c.args.rows.now c.args.trees.now) (sym c.deref.ensures.value)
    (covered_of_group c.args.rows.now c.args.trees.now c.args.groups.now c.loop-group.group-index c.group-item.result c.loop-group-test.true c.group-item.is c.requires.roots c.requires.covered)

pub loop-group-preserved : goal.loop-group-preserved
loop-group-preserved c =
    groups_next (value_at c.args.rows.now) c.args.trees.now c.args.sums.now c.loop-group.sums c.add_group.new.sums c.args.groups.now c.loop-group.group-index c.group-item.result c.loop-group-test.true c.group-item.is
    c.add_group.ensures.length c.add_group.ensures.totals
    (λ k. subst (λ rs. Counts (value_at c.args.rows.now) (roots_at c.args.trees.now k rs) (weighed_at c.loop-group.sums k) (weighed_at c.add_group.new.sums k)) c.deref.ensures.value (c.add_group.ensures.sums k)) c.loop-group.invariant

pub returns-clause-sums : goal.returns-clause-sums
returns-clause-sums c = (groups_end (value_at c.args.rows.now) c.args.trees.now c.args.sums.now c.loop-group.sums c.args.groups.now c.loop-group.group-index c.loop-group-test.false c.loop-group.invariant).counted
