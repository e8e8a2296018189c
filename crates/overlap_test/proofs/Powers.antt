-- Powers of two generators that commute.
--   q powers of z · z w elements of a group · n generators · j < k m generators · s e exponents
use Rattle.std.proofs.Common.{◌≡◌, ℕ, ◌<◌, ◌≤◌, ℤ, pos, ◌+ℤ◌, List, [], length, sym, ◌∙◌, ap, arith}
use Rattle.std.proofs.lemmas.Int.{ints}
use Rattle.nil_word.specs.declared.letter.Letter.{Letter}
use Rattle.nil_word.specs.Words.{IsVector}
use Rattle.nil_word.specs.Congruence.{Relations}
use Rattle.nil_word.specs.Exponents.{entry, count}
use Rattle.hall_law.specs.Table.{Operation, added, single, exponents, IsPresentation, IsTable, IsZeroAbove}
use Rattle.hall_law.proofs.Acting.{mul, origin}
use Rattle.hall_law.proofs.Counting.{length-exponents, entry-exponents}
use Rattle.hall_law.proofs.Groups.{IsGroup, same_steps}
use Rattle.hall_law.proofs.Premises.{given}
use Rattle.hall_law.proofs.TableGroup.{group, inv}
use Rattle.hall_law.proofs.Vectors.{Vec, same_at, vector_of, entry-zeros, length-added, IsAt-single, added_writes, part, part_other, part-add, part-zero}
use Rattle.group_eval.proofs.Appending.{entry-single, product-single}

-- ---- what commutes with z commutes with its powers
pub power_commutes : {V : Type 0} (op : V → V → V) (unit : V) (inverse : V → V)
    → IsGroup op unit inverse → (q : ℤ → V) (z w : V) → q (pos 0) ≡ unit
    → ((s : ℤ) → q (s +ℤ pos 1) ≡ op (q s) z) → op z w ≡ op w z
    → (s : ℤ) → op (q s) w ≡ op w (q s)
power_commutes {V} op unit inverse group q z w start next swap =
    same_steps op unit inverse group (λ s. op (q s) w) (λ s. op w (q s)) (λ s. z)
    (ap (λ (v : V). op v w) start ∙ group.unit_left w ∙ sym (group.unit_right w)
    ∙ ap (op w) (sym start))
    (λ s. ap (λ (v : V). op v w) (next s) ∙ group.assoc (q s) z w ∙ ap (op (q s)) swap
    ∙ sym (group.assoc (q s) w z))
    (λ s. ap (op w) (next s) ∙ sym (group.assoc w (q s) z))

-- ---- two generators of a table
module _ (rels : Relations) (level : ℕ) (f : Operation) (p : IsPresentation rels)
    (t : IsTable rels level f) where
  abbrev n : ℕ
  n = rels.count

  positive : 1 ≤ level
  positive = t.least

  powers : (k : ℕ) → level ≤ k → ℤ → Vec rels.count level
  powers k low s =
      let least = positive in (single n k s, IsAt-single n level k s (omega arith) low)

  pub in_level : (k : ℕ) (s : ℤ) → level ≤ k → IsVector n level (single n k s)
  in_level k s low =
      let least = positive in
      let most : level ≤ n = t.most in
      vector_of n level (single n k s) (omega arith) (IsAt-single n level k s (omega arith) low)

  -- a power of a generator times one of a later generator, or of the same
  pub entry-in_order : (j k : ℕ) (s e : ℤ) → level ≤ j → j ≤ k → k ≤ n → (m : ℕ) → 1 ≤ m
      → entry (f (single n j s) (single n k e)) m ≡ part m j s +ℤ part m k e
  entry-in_order j k s e low between high m first =
      let least = positive in
      let none : IsZeroAbove k (single n j s) = λ i a.
      entry-single n j s i (omega arith) (omega arith) (omega arith)
      ∙ part_other i j s (omega arith) in
      let product = product-single rels level f p t k e (single n j s) (omega arith) high
      (in_level j s low) none in
      let written = (added_writes (single n j s) k e (omega arith)
      (omega (arith, (in_level j s low).entries))).at m first in
      ap (λ (v : List ℤ). entry v m) product ∙ written
      ∙ ap (λ z. z +ℤ part m k e) (entry-single n j s m (omega arith) (omega arith) first)

  start : (k : ℕ) (low : level ≤ k) → k ≤ n → powers k low (pos 0) ≡ origin (given p t)
  unfolding powers
  start k low high =
      let least = positive in
      same_at n level (powers k low (pos 0)) (origin (given p t))
      (λ m a b. entry-single n k (pos 0) m (omega arith) high a ∙ part-zero m k
      ∙ sym (entry-zeros n m))

  next : (k : ℕ) (low : level ≤ k) → k ≤ n → (s : ℤ)
      → powers k low (s +ℤ pos 1) ≡ mul (given p t) (powers k low s) (powers k low (pos 1))
  unfolding powers
  next k low high s =
      let least = positive in
      same_at n level (powers k low (s +ℤ pos 1))
      (mul (given p t) (powers k low s) (powers k low (pos 1)))
      (λ m a b. entry-single n k (s +ℤ pos 1) m (omega arith) high a ∙ part-add m k s (pos 1)
      ∙ sym (entry-in_order k k s (pos 1) low (omega arith) high m a))

  module _ (j k : ℕ) (low : level ≤ j) (later : level ≤ k) (between : j < k) (high : k ≤ n)
      (empty : rels.right j k ≡ []) where
    once : mul (given p t) (powers k later (pos 1)) (powers j low (pos 1))
        ≡ mul (given p t) (powers j low (pos 1)) (powers k later (pos 1))
    unfolding powers
    once =
        let least = positive in
        let word = exponents n (rels.right j k) in
        let size : length word ≡ n = length-exponents n (rels.right j k) in
        let one = added_writes word k (pos 1) (omega arith) (omega (arith, size)) in
        let both = added_writes (added word k (pos 1)) j (pos 1) (omega arith)
        (omega (arith, size, length-added word k (pos 1))) in
        same_at n level (mul (given p t) (powers k later (pos 1)) (powers j low (pos 1)))
        (mul (given p t) (powers j low (pos 1)) (powers k later (pos 1)))
        (λ m a b.
        let none : entry word m ≡ pos 0 =
        entry-exponents n (rels.right j k) m a b
        ∙ ap (λ (w : List Letter). count w m) empty in
        let product = ap (λ (v : List ℤ). entry v m)
        (t.multiplies.relations j k low between high) in
        let first = one.at m a in
        let second = both.at m a in
        let ordered = entry-in_order j k (pos 1) (pos 1) low (omega arith) high m a in
        product ∙ second ∙ ap (λ z. z +ℤ part m j (pos 1)) (first ∙ ap (λ z. z +ℤ part m k (pos 1)) none)
        ∙ turned (part m k (pos 1)) (part m j (pos 1)) ∙ sym ordered)
      where
        turned : (y z : ℤ) → (pos 0 +ℤ y) +ℤ z ≡ z +ℤ y
        turned y z = omega (arith, ints)

    powers_commute : (s e : ℤ) → mul (given p t) (powers j low e) (powers k later s)
        ≡ mul (given p t) (powers k later s) (powers j low e)
    powers_commute s e =
        let own = given p t in
        power_commutes (mul own) (origin own) (inv own) (group own) (powers j low)
        (powers j low (pos 1)) (powers k later s) (start j low (omega arith))
        (next j low (omega arith))
        (sym (power_commutes (mul own) (origin own) (inv own) (group own) (powers k later)
        (powers k later (pos 1)) (powers j low (pos 1)) (start k later high) (next k later high)
        once s)) e

    pub entry-turned : (s e : ℤ) (m : ℕ) → 1 ≤ m
        → entry (f (single n k s) (single n j e)) m ≡ part m j e +ℤ part m k s
    unfolding powers
    entry-turned s e m first =
        ap (λ (v : Vec rels.count level). entry v.0 m) (sym (powers_commute s e))
        ∙ entry-in_order j k e s low (omega arith) high m first
