use Rattle.std.proofs.Common.{map, take}
use Rattle.binom_poly.specs.Sums.{Holds}
use Rattle.dt_letters.specs.Allowed.{exponents_of}
use Rattle.dt_letters.specs.Arena.{letter_in}
use Rattle.dt_trees.specs.Polynomials.{terms_of, AnyOverflows}
use Rattle.dt_trees.proofs.polynomial.tree_poly.Given as goal

abbrev pub invariant-loop-tree : goal.invariant-loop-tree
invariant-loop-tree l = record {
  holds : Holds l.sums
      (terms_of (exponents_of l.letters.pres) (map (letter_in l.letters) (take l.tree-index l.trees)));
  fits : ¬ AnyOverflows (exponents_of l.letters.pres)
      (map (letter_in l.letters) (take l.tree-index l.trees));
}
