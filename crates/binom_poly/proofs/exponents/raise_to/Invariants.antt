use Rattle.std.proofs.Common.{◌≡◌, ℕ, length, get_or, take, max}
use Rattle.binom_poly.specs.Monomial.{exponent_of}
use Rattle.binom_poly.proofs.exponents.raise_to.Given as goal

abbrev pub invariant-loop-part : goal.invariant-loop-part
invariant-loop-part l = record {
  places : length l.tops ≡ 201;
  raised : (v : ℕ) → get_or l.tops v 0 ≡ max (get_or l.fn.tops v 0) (exponent_of (take l.part-index l.parts) v);
}
