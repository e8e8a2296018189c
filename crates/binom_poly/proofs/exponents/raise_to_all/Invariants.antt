use Rattle.std.proofs.Common.{◌≡◌, ℕ, length, get_or, take, max}
use Rattle.binom_poly.specs.Exponents.{greatest}
use Rattle.binom_poly.proofs.exponents.raise_to_all.Given as goal

abbrev pub invariant-loop-term : goal.invariant-loop-term
invariant-loop-term l = record {
  places : length l.tops ≡ 201;
  raised : (v : ℕ) → get_or l.tops v 0 ≡ max (get_or l.fn.tops v 0) (greatest v (take l.term-index l.term-items));
}
