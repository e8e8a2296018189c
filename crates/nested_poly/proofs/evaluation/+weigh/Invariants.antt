use Rattle.std.proofs.Common.{◌+◌, ◌*◌, length}
use Rattle.nested_poly.proofs.Levels.{SumSoFar}
use Rattle.nested_poly.proofs.evaluation.+weigh.Given as goal

abbrev pub decreases-weigh_branch : goal.decreases-weigh_branch
decreases-weigh_branch l = 2 * length l.below.now + 1

abbrev pub decreases-weigh : goal.decreases-weigh
decreases-weigh l = 2 * length l.nodes.now

abbrev pub invariant-weigh-siblings : goal.invariant-weigh-siblings
invariant-weigh-siblings l = SumSoFar l.rows l.nodes l.rest l.sum.value l.sum.magnitude

abbrev pub decreases-weigh-siblings : goal.decreases-weigh-siblings
decreases-weigh-siblings l = length l.rest
