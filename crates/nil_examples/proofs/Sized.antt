-- What holds of the examples of each size.
use Rattle.std.proofs.Common.{◌≡◌, ℕ, ◌+◌, ◌-◌, ◌*◌, ◌/◌, ◌≤◌, Bool, true, false, not, leb, ltb, eqb, ◌&&◌, cond, List, length, Option, Some, None, IfSome, refl, sym, subst, arith}
use Rattle.std.specs.List.{range_with_len, list_all}
use Rattle.std.proofs.lemmas.Bool.{leb-true, ltb-true, eqb-true, not-true, and_parts}
use Rattle.nil_pres.specs.declared.syllable.Syllable.{Syllable}
use Rattle.nil_pres.specs.Rights.{is_lowest, is_zero}
use Rattle.nil_examples.specs.declared.places.Place.{Place}
use Rattle.nil_examples.specs.declared.example_fault.ExampleFault.{ExampleFault}
use Rattle.nil_examples.specs.declared.example_fault.ExampleFault.TheVariants.{Size}
use Rattle.nil_examples.specs.Sizes.{size_fault}
use Rattle.nil_examples.specs.Places.{places, commutators}
use Rattle.nil_examples.specs.Free.{pairs, bracket}
use Rattle.nil_examples.specs.Examples.{IsLawful, ArePowers}
use Rattle.nil_examples.proofs.Tested.{tested}

-- sizes in range
pub in_range : (least most x : ℕ) → None ≡ size_fault least most x → (least ≤ x) × (x ≤ most)
in_range least most x h =
    let both = and_parts (leb least x) (leb x most) (passed (leb least x && leb x most) (Size x) h) in
    (leb-true least x both.0, leb-true x most both.1)
  where
    passed : (b : Bool) (f : ExampleFault) → None ≡ cond b None (Some f) → b ≡ true
    passed true f h = refl
    passed false f h = cc

-- right sides
is_lawful : ℕ → ℕ → Option Syllable → Bool
is_lawful n j None = true
is_lawful n j (Some s) = ltb j s.number && leb s.number n && (not (is_lowest s.exp) && not (is_zero s.exp))

IfSome-lawful : (n j : ℕ) (e : Option Syllable) → is_lawful n j e ≡ true → IfSome e (IsLawful n j)
unfolding is_lawful
IfSome-lawful n j None h = tt
IfSome-lawful n j (Some s) h =
    let outer = and_parts (ltb j s.number && leb s.number n) (not (is_lowest s.exp) && not (is_zero s.exp)) h in
    let range = and_parts (ltb j s.number) (leb s.number n) outer.0 in
    let exponent = and_parts (not (is_lowest s.exp)) (not (is_zero s.exp)) outer.1 in
    record {
      above = ltb-true j s.number range.0;
      generator = leb-true s.number n range.1;
      lowest = not-true (is_lowest s.exp) exponent.0;
      nonzero = not-true (is_zero s.exp) exponent.1;
    }

row_lawful : ℕ → (ℕ → ℕ → Option Syllable) → ℕ → Bool
row_lawful n right j = list_all (λ i. is_lawful n j (right i j)) (range_with_len 1 (j - 1))

all_lawful : ℕ → (ℕ → ℕ → Option Syllable) → Bool
all_lawful n right = list_all (row_lawful n right) (range_with_len 1 n)

ArePowers-all : (n : ℕ) (right : ℕ → ℕ → Option Syllable) → all_lawful n right ≡ true → ArePowers n right
unfolding row_lawful all_lawful
ArePowers-all n right all i j least below most =
    let of_row : row_lawful n right j ≡ true = tested (row_lawful n right) 1 n j all (omega arith) (omega arith) in
    IfSome-lawful n j (right i j)
    (tested (λ (k : ℕ). is_lawful n j (right k j)) 1 (j - 1) i of_row least (omega arith))

-- matrices
matrices_lawful : ℕ → Bool
matrices_lawful m = all_lawful (length (places m)) (commutators (places m))

each_matrices_lawful : list_all matrices_lawful (range_with_len 2 9) ≡ true
unfolding is_lawful row_lawful all_lawful matrices_lawful
each_matrices_lawful = refl

pub ArePowers-matrices : (m : ℕ) (xs : List Place) → 2 ≤ m → m ≤ 10 → xs ≡ places m → ArePowers (length xs) (commutators xs)
unfolding matrices_lawful
ArePowers-matrices m xs least most is =
    subst (λ (ys : List Place). ArePowers (length ys) (commutators ys)) (sym is)
    (ArePowers-all (length (places m)) (commutators (places m))
    (tested matrices_lawful 2 9 m each_matrices_lawful least (omega arith)))

as_many : ℕ → Bool
as_many m = eqb (length (places m)) (pairs m)

each_as_many : list_all as_many (range_with_len 2 9) ≡ true
unfolding as_many
each_as_many = refl

pub length-places : (m : ℕ) → 2 ≤ m → m ≤ 10 → length (places m) ≡ pairs m
unfolding as_many
length-places m least most =
    eqb-true (length (places m)) (pairs m) (tested as_many 2 9 m each_as_many least (omega arith))

-- pairs
half : ℕ → Bool
half k = eqb (k * (k - 1) / 2) (pairs k) && leb (pairs k) 1128

each_half : list_all half (range_with_len 0 49) ≡ true
unfolding half
each_half = refl

halves : (k : ℕ) → k ≤ 48 → (eqb (k * (k - 1) / 2) (pairs k) ≡ true) × (leb (pairs k) 1128 ≡ true)
unfolding half
halves k most =
    and_parts (eqb (k * (k - 1) / 2) (pairs k)) (leb (pairs k) 1128) (tested half 0 49 k each_half (omega arith) (omega arith))

pub pairs-half : (k : ℕ) → k ≤ 48 → k * (k - 1) / 2 ≡ pairs k
pairs-half k most = eqb-true (k * (k - 1) / 2) (pairs k) (halves k most).0

pub pairs-most : (k : ℕ) → k ≤ 48 → pairs k ≤ 1128
pairs-most k most = leb-true (pairs k) 1128 (halves k most).1

small_product : ℕ → Bool
small_product k = leb (k * (k - 1)) 2256

each_small_product : list_all small_product (range_with_len 0 49) ≡ true
unfolding small_product
each_small_product = refl

pub product-most : (k : ℕ) → k ≤ 48 → k * (k - 1) ≤ 2256
unfolding small_product
product-most k most =
    leb-true (k * (k - 1)) 2256 (tested small_product 0 49 k each_small_product (omega arith) (omega arith))

some_pairs : ℕ → Bool
some_pairs k = leb 1 (pairs k) && leb (pairs k) 45

each_some_pairs : list_all some_pairs (range_with_len 2 9) ≡ true
unfolding some_pairs
each_some_pairs = refl

pub pairs-range : (k : ℕ) → 2 ≤ k → k ≤ 10 → (1 ≤ pairs k) × (pairs k ≤ 45)
unfolding some_pairs
pairs-range k least most =
    let both = and_parts (leb 1 (pairs k)) (leb (pairs k) 45) (tested some_pairs 2 9 k each_some_pairs least (omega arith)) in
    (leb-true 1 (pairs k) both.0, leb-true (pairs k) 45 both.1)

-- free groups
free_lawful : ℕ → Bool
free_lawful r = all_lawful (r + pairs r) (bracket r) && leb (r + pairs r) 45

each_free_lawful : list_all free_lawful (range_with_len 1 9) ≡ true
unfolding is_lawful row_lawful all_lawful free_lawful
each_free_lawful = refl

free_parts : (r : ℕ) → 1 ≤ r → r ≤ 9 → (all_lawful (r + pairs r) (bracket r) ≡ true) × (leb (r + pairs r) 45 ≡ true)
unfolding free_lawful
free_parts r least most =
    and_parts (all_lawful (r + pairs r) (bracket r)) (leb (r + pairs r) 45) (tested free_lawful 1 9 r each_free_lawful least (omega arith))

pub ArePowers-free : (r : ℕ) → 1 ≤ r → r ≤ 9 → ArePowers (r + pairs r) (bracket r)
ArePowers-free r least most = ArePowers-all (r + pairs r) (bracket r) (free_parts r least most).0

pub free-most : (r : ℕ) → 1 ≤ r → r ≤ 9 → r + pairs r ≤ 45
free-most r least most = leb-true (r + pairs r) 45 (free_parts r least most).1
