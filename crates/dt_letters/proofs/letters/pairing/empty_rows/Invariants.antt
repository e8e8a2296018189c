use Rattle.std.proofs.Common.{◌≡◌, ℕ, [], length}
use Rattle.dt_letters.specs.Pairs.{row_in}
use Rattle.dt_letters.proofs.letters.pairing.empty_rows.Given as goal

abbrev pub invariant-loop : goal.invariant-loop
invariant-loop l = record {
  count : length l.rows.items ≡ l.counter;
  none : (k : ℕ) → row_in l.rows.items k ≡ [];
}
