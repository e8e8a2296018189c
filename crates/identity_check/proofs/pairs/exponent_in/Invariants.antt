use Rattle.std.proofs.Common.{◌≡◌, drop}
use Rattle.identity_check.specs.Pairs.{exponent_in}
use Rattle.identity_check.proofs.pairs.exponent_in.Given as goal

abbrev pub invariant-loop-syllable : goal.invariant-loop-syllable
invariant-loop-syllable l = exponent_in l.k l.right ≡ exponent_in l.k (drop l.syllable-index l.right)
