-- What was tried for each number of a range.
use Rattle.std.proofs.Common.{◌≡◌, ℕ, ◌+◌, ◌-◌, ◌<◌, ◌≤◌, Bool, true, length, get_or, sym, ap, ◌∙◌, arith}
use Rattle.std.specs.List.{range_with_len, list_all}
use Rattle.std.proofs.lemmas.List.Sums.{AllPass-from_list_all}
use Rattle.std.proofs.lemmas.List.FromFn.{length-range_with_len, get_or-range_with_len}

pub tested : (p : ℕ → Bool) (a n k : ℕ) → list_all p (range_with_len a n) ≡ true → a ≤ k → k < a + n → p k ≡ true
tested p a n k all least below =
    let size = length-range_with_len a n in
    let inside : k - a < length (range_with_len a n) = omega (arith, size) in
    let back : a + (k - a) ≡ k = omega arith in
    let same : get_or (range_with_len a n) (k - a) 0 ≡ k = get_or-range_with_len a n (k - a) 0 (omega arith) ∙ back in
    ap p (sym same) ∙ AllPass-from_list_all p (range_with_len a n) all (k - a) 0 inside
