use Rattle.std.proofs.Common.{◌≡◌, ℕ, ◌<◌, ◌++◌, length, take}
use Rattle.dt_letters.specs.Pairs.{row_in, named}
use Rattle.dt_letters.proofs.letters.pairing.put_pair.Given as goal

abbrev pub invariant-loop-syllable : goal.invariant-loop-syllable
invariant-loop-syllable l = record {
  count : length l.rows.items ≡ 49;
  rows : (k : ℕ) → k < 49 → row_in l.rows.items k
      ≡ row_in l.fn.rows.items k ++ named l.pair k (take l.syllable-index l.right);
}
