-- Places and their numbers, tried for each number of rows.
use Rattle.std.proofs.Common.{◌≡◌, ℕ, ◌+◌, ◌-◌, ◌<◌, ◌≤◌, inl, inr, Bool, true, leb, ltb, eqb, ◌&&◌, ◌||◌, List, length, refl, sym, ap, ◌∙◌, subst, arith}
use Rattle.std.specs.List.{range_with_len, list_all}
use Rattle.std.proofs.lemmas.Bool.{leb-true, ltb-true, eqb-true, and_parts, or_cases}
use Rattle.nil_examples.specs.declared.places.Place.{Place}
use Rattle.nil_examples.specs.Places.{places, place_of, number_of, is_at}
use Rattle.nil_examples.specs.Matrices.{IsAbove, IsNearer, IsAt, AreNumbered}
use Rattle.nil_examples.proofs.Tested.{tested}

-- the generator with a number is above the diagonal, and no earlier one is at its place
is_placed : ℕ → List Place → ℕ → Bool
is_placed m xs k =
    let x = place_of xs k in
    leb 1 x.row && (ltb x.row x.column && (leb x.column m && eqb (number_of xs x.row x.column) k))

all_placed : ℕ → Bool
all_placed m = let xs = places m in list_all (is_placed m xs) (range_with_len 1 (length xs))

each_placed : list_all all_placed (range_with_len 2 9) ≡ true
unfolding is_placed all_placed
each_placed = refl

-- each place above the diagonal has a generator
is_filled : List Place → ℕ → ℕ → Bool
is_filled xs p q =
    let k = number_of xs p q in leb 1 k && (leb k (length xs) && is_at p q (place_of xs k))

all_filled : ℕ → Bool
all_filled m =
    let xs = places m in
    list_all (λ p. list_all (is_filled xs p) (range_with_len (p + 1) (m - p))) (range_with_len 1 m)

each_filled : list_all all_filled (range_with_len 2 9) ≡ true
unfolding is_filled all_filled
each_filled = refl

-- places are in order
is_nearer : Place → Place → Bool
is_nearer x y =
    ltb (x.column - x.row) (y.column - y.row)
    || (eqb (x.column - x.row) (y.column - y.row) && ltb x.row y.row)

all_nearer : ℕ → Bool
all_nearer m =
    let xs = places m in
    list_all (λ j. list_all (λ i. is_nearer (place_of xs i) (place_of xs j)) (range_with_len 1 (j - 1)))
    (range_with_len 1 (length xs))

each_nearer : list_all all_nearer (range_with_len 2 9) ≡ true
unfolding is_nearer all_nearer
each_nearer = refl

pub record IsPlaced (m k : ℕ) (x : Place) : Type 0 where
  pub above : IsAbove m x
  pub number : number_of (places m) x.row x.column ≡ k

placed : (m k : ℕ) → 2 ≤ m → m ≤ 10 → 1 ≤ k → k ≤ length (places m) → IsPlaced m k (place_of (places m) k)
unfolding is_placed all_placed
placed m k least most from to =
    let xs = places m in
    let x = place_of xs k in
    let all : all_placed m ≡ true = tested all_placed 2 9 m each_placed least (omega arith) in
    let one : is_placed m xs k ≡ true = tested (is_placed m xs) 1 (length xs) k all from (omega arith) in
    let row = and_parts (leb 1 x.row) (ltb x.row x.column && (leb x.column m && eqb (number_of xs x.row x.column) k)) one in
    let above = and_parts (ltb x.row x.column) (leb x.column m && eqb (number_of xs x.row x.column) k) row.1 in
    let column = and_parts (leb x.column m) (eqb (number_of xs x.row x.column) k) above.1 in
    record {
      above = record {
        least = leb-true 1 x.row row.0;
        above = ltb-true x.row x.column above.0;
        most = leb-true x.column m column.0;
      };
      number = eqb-true (number_of xs x.row x.column) k column.1;
    }

pub placed_at : (m k : ℕ) (x : Place) → 2 ≤ m → m ≤ 10 → IsAt m k x → IsPlaced m k x
placed_at m k x least most at =
    subst (IsPlaced m k) at.place (placed m k least most at.least at.most)

filled : (m : ℕ) (x : Place) → 2 ≤ m → m ≤ 10 → IsAbove m x → is_filled (places m) x.row x.column ≡ true
unfolding all_filled
filled m x least most above =
    let xs = places m in
    let all : all_filled m ≡ true = tested all_filled 2 9 m each_filled least (omega arith) in
    tested (is_filled xs x.row) (x.row + 1) (m - x.row) x.column
    (tested (λ (p : ℕ). list_all (is_filled xs p) (range_with_len (p + 1) (m - p))) 1 m x.row all above.least (omega (arith, above.above, above.most)))
    (omega (arith, above.above)) (omega (arith, above.above, above.most))

same_place : (x y : Place) → is_at x.row x.column y ≡ true → y ≡ x
same_place x y h =
    let both = and_parts (eqb y.row x.row) (eqb y.column x.column) h in
    let at : ℕ → ℕ → Place = λ p q. record { row = p; column = q } in
    ap (λ (p : ℕ). at p y.column) (eqb-true y.row x.row both.0)
    ∙ ap (λ (q : ℕ). at x.row q) (eqb-true y.column x.column both.1)

found : (m : ℕ) (x : Place) → 2 ≤ m → m ≤ 10 → IsAbove m x → (k : ℕ) × IsAt m k x
unfolding is_filled
found m x least most above =
    let xs = places m in
    let k = number_of xs x.row x.column in
    let low = and_parts (leb 1 k) (leb k (length xs) && is_at x.row x.column (place_of xs k)) (filled m x least most above) in
    let high = and_parts (leb k (length xs)) (is_at x.row x.column (place_of xs k)) low.1 in (
      k,
      record {
        least = leb-true 1 k low.0;
        most = leb-true k (length xs) high.0;
        place = same_place x (place_of xs k) high.1;
      },
    )

IsNearer-from_test : (x y : Place) → is_nearer x y ≡ true → IsNearer x y
unfolding is_nearer
IsNearer-from_test x y h =
    let first = ltb (x.column - x.row) (y.column - y.row) in
    let second = eqb (x.column - x.row) (y.column - y.row) && ltb x.row y.row in
    elim (or_cases first second h) [
      | inl one ↦ inl (ltb-true (x.column - x.row) (y.column - y.row) one)
      | inr two ↦
          let both = and_parts (eqb (x.column - x.row) (y.column - y.row)) (ltb x.row y.row) two in
          inr (eqb-true (x.column - x.row) (y.column - y.row) both.0, ltb-true x.row y.row both.1)
    ]

nearer : (m i j : ℕ) (x y : Place) → 2 ≤ m → m ≤ 10 → i < j → IsAt m i x → IsAt m j y → IsNearer x y
unfolding all_nearer
nearer m i j x y least most below first second =
    let xs = places m in
    let all : all_nearer m ≡ true = tested all_nearer 2 9 m each_nearer least (omega arith) in
    let row : list_all (λ k. is_nearer (place_of xs k) (place_of xs j)) (range_with_len 1 (j - 1)) ≡ true =
    tested (λ (l : ℕ). list_all (λ k. is_nearer (place_of xs k) (place_of xs l)) (range_with_len 1 (l - 1))) 1 (length xs) j all second.least (omega (arith, second.most)) in
    let one : is_nearer (place_of xs i) (place_of xs j) ≡ true =
    tested (λ (k : ℕ). is_nearer (place_of xs k) (place_of xs j)) 1 (j - 1) i row first.least (omega arith) in
    IsNearer-from_test x y
    (ap (λ (z : Place). is_nearer z y) (sym first.place) ∙ ap (is_nearer (place_of xs i)) (sym second.place) ∙ one)

pub AreNumbered-places : (m : ℕ) → 2 ≤ m → m ≤ 10 → AreNumbered m
AreNumbered-places m least most = record {
  above = λ k x at. (placed_at m k x least most at).above;
  all = λ x above. found m x least most above;
  in_order = λ i j x y below first second. nearer m i j x y least most below first second;
}
