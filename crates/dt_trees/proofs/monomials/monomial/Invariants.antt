use Rattle.std.proofs.Common.{◌≡◌, ◌≤◌, ◌<◌, ℕ}
use Rattle.binom_poly.specs.Variable.{exponent_limit}
use Rattle.dt_letters.specs.Arena.{letter_in}
use Rattle.dt_trees.specs.Polynomials.{parts_below, exponent_for}
use Rattle.dt_trees.proofs.monomials.monomial.Given as goal

abbrev pub invariant-loop-var : goal.invariant-loop-var
invariant-loop-var l = record {
  parts : l.parts.items ≡ parts_below (letter_in l.letters l.fn.tree) l.var;
  fits : (v : ℕ) → v < l.var → exponent_for (letter_in l.letters l.fn.tree) v ≤ exponent_limit;
}
