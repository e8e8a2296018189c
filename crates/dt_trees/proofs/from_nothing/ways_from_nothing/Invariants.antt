use Rattle.std.proofs.Common.{◌≡◌, ◌+◌, length}
use Rattle.dt_letters.specs.Allowed.{exponents_of}
use Rattle.dt_letters.specs.Arena.{IsExtended}
use Rattle.dt_trees.specs.Known.{AreKnown}
use Rattle.dt_trees.proofs.from_nothing.ways_from_nothing.Given as goal

abbrev pub invariant-loop-p : goal.invariant-loop-p
invariant-loop-p l = record {
  kept : IsExtended l.fn.letters l.letters;
  known : AreKnown l.letters (exponents_of l.letters.pres) l.level l.known.items;
  count : l.p ≡ l.level + length l.known.items;
}
