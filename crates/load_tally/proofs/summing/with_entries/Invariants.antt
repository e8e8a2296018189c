use Rattle.std.proofs.Common.{◌≡◌, ◌<◌, ◌+◌, pos, ◌+ℤ◌, drop}
use Rattle.load_tally.specs.Weights.{modulus, remainder, weighted, weighted_from}
use Rattle.load_tally.proofs.summing.with_entries.Given as goal

-- what is added and what is left give one remainder
abbrev pub invariant-adding : goal.invariant-adding
invariant-adding l =
    (l.sum < modulus)
    × (remainder (pos l.sum +ℤ weighted_from (l.index + 1) (drop l.index l.entries))
    ≡ remainder (pos l.initial.sum +ℤ weighted l.entries))
