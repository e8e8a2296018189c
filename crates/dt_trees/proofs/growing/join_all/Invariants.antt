use Rattle.std.proofs.Common.{map}
use Rattle.dt_letters.specs.Allowed.{exponents_of}
use Rattle.dt_letters.specs.Listing.{each, joined}
use Rattle.dt_letters.specs.Arena.{IsExtended}
use Rattle.dt_trees.specs.Ways.{grown_in, Gains}
use Rattle.dt_trees.proofs.growing.join_all.Given as goal

abbrev pub invariant-loop-right : goal.invariant-loop-right
invariant-loop-right l = record {
  kept : IsExtended l.fn.letters l.letters;
  gains : Gains l.fn.letters l.fn.ways.items l.letters l.ways.items
      (each (λ w. joined (exponents_of l.fn.letters.pres) l.k l.limit w.tree w.list)
      (map (grown_in l.fn.letters) l.yielded));
}
