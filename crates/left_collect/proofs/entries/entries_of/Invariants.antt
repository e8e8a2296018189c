use Rattle.std.proofs.Common.{◌≡◌, ℕ, ◌<◌, length, pos, slice_index_or}
use Rattle.left_collect.proofs.entries.entries_of.Given as goal

abbrev pub invariant-loop-place : goal.invariant-loop-place
invariant-loop-place l = record {
  size : length l.saved ≡ 48;
  same : (k : ℕ) → k < l.place
      → slice_index_or l.saved k (pos 0) ≡ slice_index_or l.entry-items k (pos 0);
}
