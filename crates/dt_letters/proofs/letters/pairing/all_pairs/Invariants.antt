use Rattle.std.proofs.Common.{◌≡◌, ℕ, ◌-◌, ◌<◌, ◌++◌, length}
use Rattle.dt_letters.specs.Allowed.{exponents_of}
use Rattle.dt_letters.specs.Listing.{each, upto}
use Rattle.dt_letters.specs.Pairs.{row_in, pair_of, pairs_up_to}
use Rattle.dt_letters.proofs.letters.pairing.all_pairs.Given as goal

abbrev pub invariant-loop-left : goal.invariant-loop-left
invariant-loop-left l = record {
  count : length l.rows.items ≡ 49;
  rows : (k : ℕ) → k < 49 → row_in l.rows.items k ≡ pairs_up_to (exponents_of l.fn.pres) k (l.left - 1);
}

abbrev pub invariant-loop-right : goal.invariant-loop-right
invariant-loop-right l = record {
  count : length l.rows.items ≡ 49;
  rows : (k : ℕ) → k < 49 → row_in l.rows.items k
      ≡ pairs_up_to (exponents_of l.fn.pres) k (l.left - 1)
      ++ each (λ q. pair_of (exponents_of l.fn.pres) k l.left q) (upto (l.right - 1));
}
