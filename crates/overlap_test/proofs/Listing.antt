-- Which overlaps a level has.
--   P what holds of overlaps, or of numbers · n generators · i level · j < k m generators
--   low d numbers · xs ys lists · o x y overlaps, or numbers
use Rattle.std.proofs.Common.{◌≡◌, ℕ, zero, suc, ◌+◌, ◌-◌, ◌<◌, ◌≤◌, List, [], ◌∷◌, ◌++◌, map, flat_map, All, subst, inl, inr, arith}
use Rattle.std.proofs.Math.Nat.{eq-or-lt_of_le}
use Rattle.std.proofs.lemmas.List.Elements.{All-nil, All-cons, All-head, All-tail, All-append}
use Rattle.nil_word.specs.Exponents.{numbers}
use Rattle.overlap_test.specs.Verdict.{row, overlaps}

abbrev pub IsOverlap : ℕ → ℕ → ℕ × ℕ → Type 0
IsOverlap n i o = (i < o.0) × (o.0 < o.1) × (o.1 ≤ n)

-- ---- what holds of all holds of each
of_numbers : (P : ℕ → Type 0) (low d m : ℕ) → All P (numbers low d) → low ≤ m → m < low + d → P m
of_numbers P low zero m h a b = absurd (omega arith)
of_numbers P low (suc d) m h a b =
    elim (eq-or-lt_of_le a) [
      | inl e ↦ subst P e (All-head P low (numbers (suc low) d) h)
      | inr l ↦
          of_numbers P (suc low) d m (All-tail P low (numbers (suc low) d) h) (omega arith)
          (omega arith)
    ]

of_map : (P : ℕ × ℕ → Type 0) (g : ℕ → ℕ × ℕ) (xs : List ℕ) → All P (map g xs)
    → All (λ x. P (g x)) xs
of_map P g [] h = All-nil (λ x. P (g x))
of_map P g (x ∷ xs) h =
    All-cons (λ y. P (g y)) x xs (All-head P (g x) (map g xs) h)
    (of_map P g xs (All-tail P (g x) (map g xs) h))

of_front : (P : ℕ × ℕ → Type 0) (xs ys : List (ℕ × ℕ)) → All P (xs ++ ys) → All P xs
of_front P [] ys h = All-nil P
of_front P (x ∷ xs) ys h =
    All-cons P x xs (All-head P x (xs ++ ys) h) (of_front P xs ys (All-tail P x (xs ++ ys) h))

of_back : (P : ℕ × ℕ → Type 0) (xs ys : List (ℕ × ℕ)) → All P (xs ++ ys) → All P ys
of_back P [] ys h = h
of_back P (x ∷ xs) ys h = of_back P xs ys (All-tail P x (xs ++ ys) h)

of_rows : (P : ℕ × ℕ → Type 0) (n : ℕ) (js : List ℕ) → All P (flat_map (row n) js)
    → All (λ j. All P (row n j)) js
of_rows P n [] h = All-nil (λ j. All P (row n j))
of_rows P n (j ∷ js) h =
    All-cons (λ m. All P (row n m)) j js (of_front P (row n j) (flat_map (row n) js) h)
    (of_rows P n js (of_back P (row n j) (flat_map (row n) js) h))

pub of_overlaps : (P : ℕ × ℕ → Type 0) (n i : ℕ) → All P (overlaps n i) → (j k : ℕ) → i < j → j < k
    → k ≤ n → P (j, k)
of_overlaps P n i h j k a b d =
    let in_row : All P (row n j) =
    of_numbers (λ m. All P (row n m)) (suc i) (n - i) j
    (of_rows P n (numbers (suc i) (n - i)) h) (omega arith) (omega arith) in
    of_numbers (λ m. P (j, m)) (suc j) (n - j) k
    (of_map P (λ m. (j, m)) (numbers (suc j) (n - j)) in_row) (omega arith) (omega arith)

-- ---- each of them is one
row_lawful : (n i j low d : ℕ) → i < j → j < low → low + d ≤ suc n
    → All (IsOverlap n i) (map (λ k. (j, k)) (numbers low d))
row_lawful n i j low zero a b e = All-nil (IsOverlap n i)
row_lawful n i j low (suc d) a b e =
    All-cons (IsOverlap n i) (j, low) (map (λ k. (j, k)) (numbers (suc low) d))
    (a, b, omega arith) (row_lawful n i j (suc low) d a (omega arith) (omega arith))

rows_lawful : (n i low d : ℕ) → i < low → low + d ≤ suc n
    → All (IsOverlap n i) (flat_map (row n) (numbers low d))
rows_lawful n i low zero a b = All-nil (IsOverlap n i)
rows_lawful n i low (suc d) a b =
    All-append (IsOverlap n i) (row n low) (flat_map (row n) (numbers (suc low) d))
    (row_lawful n i low (suc low) (n - low) a (omega arith) (omega arith))
    (rows_lawful n i (suc low) d (omega arith) (omega arith))

pub overlap_in : (n i : ℕ) (xs : List (ℕ × ℕ)) (o : ℕ × ℕ) (ys : List (ℕ × ℕ)) → i ≤ n
    → overlaps n i ≡ xs ++ o ∷ ys → IsOverlap n i o
overlap_in n i xs o ys a e =
    All-head (IsOverlap n i) o ys
    (of_back (IsOverlap n i) xs (o ∷ ys)
    (subst (All (IsOverlap n i)) e (rows_lawful n i (suc i) (n - i) (omega arith) (omega arith))))
