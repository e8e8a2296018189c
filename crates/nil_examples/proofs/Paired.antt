-- Pairs of generators by their numbers, and the relations of free groups of class two.
use Rattle.std.proofs.Common.{◌≡◌, ℕ, zero, suc, ◌+◌, ◌-◌, ◌<◌, ◌≤◌, inl, inr, pos, List, [], ◌∷◌, length, get_or, Some, None, refl, sym, ap, ◌∙◌, arith}
use Rattle.std.proofs.lemmas.Bool.{cases_lt, le-leb, lt-leb}
use Rattle.nil_pres.specs.declared.syllable.Syllable.{Syllable}
use Rattle.nil_pres.specs.Presented.{right_of}
use Rattle.nil_examples.specs.Powers.{right_side, numbered}
use Rattle.nil_examples.specs.Free.{pairs, bracket, free_class_two}
use Rattle.nil_examples.specs.ClassTwo.{IsPair, IsEarlier, IsCommutator, IsFreeOfClassTwo}
use Rattle.nil_examples.proofs.Rows.{length-numbered}
use Rattle.nil_examples.proofs.Related.{right_of-presentation}

pairs-last : (j : ℕ) → 1 ≤ j → pairs (j - 1) + (j - 1) ≡ pairs j
pairs-last zero least = absurd (omega arith)
pairs-last (suc j) least =
    let less : suc j - 1 ≡ j = omega arith in ap (λ (k : ℕ). pairs k + k) less

pairs-monotone : (a b : ℕ) → a ≤ b → pairs a ≤ pairs b
pairs-monotone a zero below = let none : a ≡ 0 = omega arith in omega (arith, ap pairs none)
pairs-monotone a (suc b) below =
    elim (cases_lt b a) [
      | inl last ↦ let same : a ≡ suc b = omega arith in omega (arith, ap pairs same)
      | inr before ↦ omega (arith, pairs-monotone a b before)
    ]

-- the pairs of generators up to j begin behind those of earlier ones
pairs-behind : (i j l : ℕ) → 1 ≤ i → i < j → j ≤ l → pairs (j - 1) + i ≤ pairs l
pairs-behind i j l least below most =
    omega (arith, pairs-last j (omega arith), pairs-monotone j l most)

pub record IsNumbered (r k : ℕ) : Type 0 where
  pub earlier : ℕ
  pub later : ℕ
  pub pair : IsPair r earlier later
  pub number : k ≡ pairs (later - 1) + earlier

-- each number up to that of the pairs is that of a pair
with_number : (r k : ℕ) → 1 ≤ k → k ≤ pairs r → IsNumbered r k
with_number zero k least most = absurd (omega arith)
with_number (suc r) k least most =
    elim (cases_lt (pairs r) k) [
      | inl last ↦
          let less : suc r - 1 ≡ r = omega arith in
          record {
            earlier = k - pairs r;
            later = suc r;
            pair = record { least = omega arith; below = omega arith; most = omega arith };
            number = omega (arith, ap pairs less);
          }
      | inr before ↦
          let w = with_number r k least before in
          record {
            earlier = w.earlier;
            later = w.later;
            pair = record { least = w.pair.least; below = w.pair.below; most = omega (arith, w.pair.most) };
            number = w.number;
          }
    ]

bracket-pair : (r i j : ℕ) → j ≤ r → bracket r i j ≡ Some (record { number = r + pairs (j - 1) + i; exp = pos 1 })
bracket-pair r i j most = rw (le-leb j r most)

bracket-later : (r i j : ℕ) → r < j → bracket r i j ≡ None
bracket-later r i j above = rw (lt-leb j r above)

-- the commutator of a pair
own : (r i j : ℕ) → IsPair r i j → IsCommutator (free_class_two r) i j (r + pairs (j - 1) + i)
own r i j pair =
    right_of-presentation (r + pairs r) i j (bracket r) pair.least pair.below (omega (arith, pair.most))
    ∙ ap right_side (bracket-pair r i j pair.most)

only : (r k : ℕ) → r < k → k ≤ r + pairs r → (i : ℕ) × ((j : ℕ) × IsPair r i j × IsCommutator (free_class_two r) i j k)
only r k above most =
    let power : ℕ → List Syllable = λ n. record { number = n; exp = pos 1 } ∷ [] in
    let w = with_number r (k - r) (omega arith) (omega arith) in
    let same : r + pairs (w.later - 1) + w.earlier ≡ k = omega (arith, w.number) in
    (w.earlier, (w.later, w.pair, own r w.earlier w.later w.pair ∙ ap power same))

number_of_own : (r i j k : ℕ) → IsPair r i j → IsCommutator (free_class_two r) i j k → k ≡ r + pairs (j - 1) + i
number_of_own r i j k pair is =
    let none : Syllable = record { number = 0; exp = pos 0 } in
    ap (λ (ss : List Syllable). (get_or ss 0 none).number) (sym is ∙ own r i j pair)

ordered : (r i j i' j' k k' : ℕ) → IsPair r i j → IsPair r i' j' → IsEarlier i j i' j' → k ≡ r + pairs (j - 1) + i → k' ≡ r + pairs (j' - 1) + i' → k < k'
ordered r i j i' j' k k' pair pair' (inl before) first second =
    omega (arith, pair'.least, pairs-behind i j (j' - 1) pair.least pair.below (omega arith))
ordered r i j i' j' k k' pair pair' (inr (same, before)) first second =
    omega (arith, ap (λ (l : ℕ). pairs (l - 1)) same)

central : (r i j : ℕ) → IsPair (r + pairs r) i j → r < j → right_of (free_class_two r) i j ≡ []
central r i j pair above =
    right_of-presentation (r + pairs r) i j (bracket r) pair.least pair.below pair.most
    ∙ ap right_side (bracket-later r i j above)

pub IsFreeOfClassTwo-free : (r : ℕ) → IsFreeOfClassTwo r (free_class_two r)
IsFreeOfClassTwo-free r =
    let size : length (numbered (r + pairs r)) ≡ r + pairs r = length-numbered (r + pairs r) in
    record {
      names = refl;
      each = λ i j pair. (r + pairs (j - 1) + i, omega (arith, pair.least), omega (arith, size, pairs-behind i j r pair.least pair.below pair.most), own r i j pair);
      only = λ k above most. only r k above (omega (arith, size));
      in_order = λ i j i' j' k k' pair pair' before first second. ordered r i j i' j' k k' pair pair' before (number_of_own r i j k pair first) (number_of_own r i' j' k' pair' second);
      central = λ i j pair above. central r i j (record { least = pair.least; below = pair.below; most = omega (arith, size, pair.most) }) above;
    }
