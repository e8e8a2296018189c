use Rattle.std.proofs.Common.{◌≡◌, length}
use Rattle.dt_letters.specs.Allowed.{exponents_of}
use Rattle.dt_letters.specs.Arena.{IsExtended}
use Rattle.dt_trees.specs.Known.{AreKnown}
use Rattle.dt_trees.specs.Polynomials.{polys_of, AnyPolyOverflows}
use Rattle.dt_trees.proofs.levels.tree_polys.Given as goal

abbrev pub invariant-loop-place : goal.invariant-loop-place
invariant-loop-place l = record {
  kept : IsExtended l.fn.letters l.letters;
  polys : l.polys.items ≡ polys_of (exponents_of l.fn.letters.pres) l.level l.place;
  known : AreKnown l.letters (exponents_of l.letters.pres) l.level l.known.items;
  count : length l.known.items ≡ l.place;
  fit : ¬ AnyPolyOverflows (exponents_of l.fn.letters.pres) l.level l.place;
}
