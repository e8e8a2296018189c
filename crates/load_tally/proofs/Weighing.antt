-- Sums of weighted entries, one entry after another.
use Rattle.std.proofs.Common.{◌≡◌, ℕ, ◌+◌, ◌<◌, ℤ, pos, ◌+ℤ◌, ◌*ℤ◌, List, length, get_or, drop, sym, ◌∙◌, ap, arith, add-one, drop-cons}
use Rattle.std.proofs.lemmas.Int.{ints}
use Rattle.load_tally.specs.Weights.{remainder, weighted_from}
use Rattle.load_tally.proofs.Remainders.{remainder-add}

weighted_from-drop : (k i : ℕ) (v : List ℤ) → i < length v → weighted_from k (drop i v)
    ≡ pos k *ℤ get_or v i (pos 0) +ℤ weighted_from (k + 1) (drop (i + 1) v)
weighted_from-drop k i v h =
    ap (weighted_from k) (drop-cons v i (pos 0) h)
    ∙ ap (λ (n : ℕ). pos k *ℤ get_or v i (pos 0) +ℤ weighted_from (k + 1) (drop n v)) (sym (add-one i))

-- what one entry adds, and what the others add
pub weighted_from-next : (s r i whole : ℕ) (v : List ℤ) → i < length v
    → r ≡ remainder (pos s +ℤ pos (i + 1) *ℤ get_or v i (pos 0))
    → remainder (pos s +ℤ weighted_from (i + 1) (drop i v)) ≡ whole
    → remainder (pos r +ℤ weighted_from (i + 1 + 1) (drop (i + 1) v)) ≡ whole
weighted_from-next s r i whole v h is before =
    let entry : ℤ = pos (i + 1) *ℤ get_or v i (pos 0) in
    let others : ℤ = weighted_from (i + 1 + 1) (drop (i + 1) v) in
    ap (λ (n : ℕ). remainder (pos n +ℤ others)) is ∙ remainder-add (pos s +ℤ entry) others
    ∙ ap remainder (assoc (pos s) entry others)
    ∙ ap (λ (z : ℤ). remainder (pos s +ℤ z)) (sym (weighted_from-drop (i + 1) i v h)) ∙ before
  where
    assoc : (a b c : ℤ) → a +ℤ b +ℤ c ≡ a +ℤ (b +ℤ c)
    assoc a b c = omega (arith, ints)
