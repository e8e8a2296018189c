use Rattle.std.proofs.Common.{◌+◌, [], ◌++◌, map, take}
use Rattle.dt_letters.specs.Allowed.{exponents_of}
use Rattle.dt_letters.specs.Listing.{each}
use Rattle.dt_letters.specs.Pairs.{pairs_of}
use Rattle.dt_letters.specs.Arena.{IsExtended}
use Rattle.dt_trees.specs.Ways.{stack_in, grown_in, Gains, leaf_ways, rights_of, pair_ways}
use Rattle.dt_trees.proofs.growing.+grow.Given as goal

abbrev pub decreases-grow : goal.decreases-grow
decreases-grow l = l.k + l.k

abbrev pub decreases-grow_pair : goal.decreases-grow_pair
decreases-grow_pair l = l.p + l.p + 1

abbrev pub decreases-grow_rights : goal.decreases-grow_rights
decreases-grow_rights l = l.q + l.q + 1

abbrev pub invariant-grow_rights-loop-left : goal.invariant-grow_rights-loop-left
invariant-grow_rights-loop-left l = record {
  kept : IsExtended l.fn.letters l.letters;
  gains : Gains l.fn.letters l.fn.ways.items l.letters l.ways.items
      (each (rights_of (exponents_of l.fn.letters.pres) l.level l.q l.k l.limit)
      (map (grown_in l.fn.letters) (take l.left-index l.lefts)));
}

abbrev pub invariant-grow-loop-place : goal.invariant-grow-loop-place
invariant-grow-loop-place l = record {
  kept : IsExtended l.fn.letters l.letters;
  gains : Gains l.fn.letters [] l.letters l.ways.items
      (leaf_ways l.level (stack_in l.fn.letters l.stack) l.k
      ++ each (λ pair. pair_ways (exponents_of l.fn.letters.pres) l.level (stack_in l.fn.letters l.stack) l.k
      pair.left pair.right) (take l.place (pairs_of (exponents_of l.fn.letters.pres) l.k)));
}
