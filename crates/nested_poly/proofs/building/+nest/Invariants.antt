use Rattle.std.proofs.Common.{◌≤◌, ◌+◌, ◌*◌, ◌-◌, length, take}
use Rattle.nested_poly.specs.Tails.{parts_in, Nests}
use Rattle.nested_poly.proofs.building.+nest.Given as goal

abbrev pub decreases-nest_run : goal.decreases-nest_run
decreases-nest_run l = 2 * parts_in l.run.now

abbrev pub decreases-nest : goal.decreases-nest
decreases-nest l = 2 * parts_in l.tails.now + 1

abbrev pub invariant-nest-runs : goal.invariant-nest-runs
invariant-nest-runs l = record {
  within : l.start ≤ length l.tails;
  nests : Nests l.fn.nodes.items l.nodes.items (take l.start l.tails);
}

abbrev pub decreases-nest-runs : goal.decreases-nest-runs
decreases-nest-runs l = length l.tails - l.start
