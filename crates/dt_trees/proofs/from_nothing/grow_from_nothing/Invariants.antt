use Rattle.std.proofs.Common.{[], ◌++◌, take}
use Rattle.dt_letters.specs.Allowed.{exponents_of}
use Rattle.dt_letters.specs.Listing.{each}
use Rattle.dt_letters.specs.Pairs.{pairs_of}
use Rattle.dt_letters.specs.Arena.{IsExtended}
use Rattle.dt_trees.specs.Ways.{Gains, leaf_ways, pair_ways}
use Rattle.dt_trees.proofs.from_nothing.grow_from_nothing.Given as goal

abbrev pub invariant-loop-place : goal.invariant-loop-place
invariant-loop-place l = record {
  kept : IsExtended l.fn.letters l.letters;
  gains : Gains l.fn.letters [] l.letters l.ways.items
      (leaf_ways l.level [] l.k
      ++ each (λ pair. pair_ways (exponents_of l.fn.letters.pres) l.level [] l.k pair.left pair.right)
      (take l.place (pairs_of (exponents_of l.fn.letters.pres) l.k)));
}
