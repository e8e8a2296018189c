use Rattle.std.proofs.Common.{◌≡◌, ◌≤◌, ℕ, length, get_or, take}
use Rattle.binom_poly.specs.Exponents.{greatest_in}
use Rattle.binom_poly.proofs.exponents.greatest_exponents_in.Given as goal

abbrev pub invariant-loop-poly : goal.invariant-loop-poly
invariant-loop-poly l = record {
  places : length l.tops ≡ 201;
  raised : (v : ℕ) → get_or l.tops v 0 ≡ greatest_in v (take l.poly-index l.polys);
  small : (v : ℕ) → greatest_in v (take l.poly-index l.polys) ≤ 1000;
}
