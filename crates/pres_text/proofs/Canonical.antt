-- The relations of a presentation in the canonical order: lawful, apart, and found again.
use Rattle.std.proofs.Common.{◌≡◌, ℕ, zero, suc, ◌<◌, ◌≤◌, ◌==◌, ◌&&◌, Bool, true, false, if◌then◌else◌, List, [], ◌∷◌, ◌++◌, length, refl, ◌∙◌, ap, subst, inl, inr, arith}
use Rattle.std.proofs.lemmas.Bool.{cases_lt}
use Rattle.std.proofs.lemmas.Bool.Decides.{nat_tests}
use Rattle.nil_pres.specs.declared.syllable.Syllable.{Syllable}
use Rattle.nil_pres.specs.Rights.{IsRight}
use Rattle.nil_pres.specs.Presented.{Presented, IsPresented, right_of}
use Rattle.pres_text.specs.File.{Relation, IsApart, right_given}
use Rattle.pres_text.proofs.Joined.{Each}

abbrev pub line_relations : ℕ → ℕ → List Syllable → List Relation
line_relations j i [] = []
line_relations j i (s ∷ right) = record { above = j; below = i; right = s ∷ right } ∷ []

abbrev pub pair_relations : Presented → ℕ → ℕ → List Relation
pair_relations p j zero = []
pair_relations p j (suc i) = pair_relations p j i ++ line_relations j (suc i) (right_of p (suc i) j)

abbrev pub all_relations : Presented → ℕ → List Relation
all_relations p zero = []
all_relations p (suc j) = all_relations p j ++ pair_relations p (suc j) j

Each-append : {A : Type 0} (P : A → Type 0) (xs ys : List A) → Each P xs → Each P ys → Each P (xs ++ ys)
Each-append P [] ys h k = k
Each-append P (x ∷ xs) ys h k = (h.0, Each-append P xs ys h.1 k)

Each-weaker : {A : Type 0} (P Q : A → Type 0) (xs : List A) → ((x : A) → P x → Q x) → Each P xs → Each Q xs
Each-weaker P Q [] f h = tt
Each-weaker P Q (x ∷ xs) f h = (f x h.0, Each-weaker P Q xs f h.1)

-- a lawful relation of n generators that is written
pub record IsOwn (n : ℕ) (r : Relation) : Type 0 where
  pub low : 1 ≤ r.below
  pub order : r.below < r.above
  pub high : r.above ≤ n
  pub some : 1 ≤ length r.right
  pub right : IsRight r.above n r.right

own_line : (n j i : ℕ) (right : List Syllable) → 1 ≤ i → i < j → j ≤ n → IsRight j n right → Each (IsOwn n) (line_relations j i right)
own_line n j i [] low order high h = tt
own_line n j i (s ∷ right) low order high h = (record { low = low; order = order; high = high; some = omega arith; right = h }, tt)

own_pairs : (p : Presented) (j m : ℕ) → IsPresented p → m < j → j ≤ length p.names → Each (IsOwn (length p.names)) (pair_relations p j m)
own_pairs p j zero h order high = tt
own_pairs p j (suc m) h order high =
    Each-append (IsOwn (length p.names)) (pair_relations p j m) (line_relations j (suc m) (right_of p (suc m) j)) (own_pairs p j m h (omega arith) high)
    (own_line (length p.names) j (suc m) (right_of p (suc m) j) (omega arith) order high (h.lawful (suc m) j (omega arith) order))

pub own_relations : (p : Presented) (m : ℕ) → IsPresented p → m ≤ length p.names → Each (IsOwn (length p.names)) (all_relations p m)
own_relations p zero h high = tt
own_relations p (suc m) h high =
    Each-append (IsOwn (length p.names)) (all_relations p m) (pair_relations p (suc m) m) (own_relations p m h (omega arith)) (own_pairs p (suc m) m h (omega arith) high)

-- where the relations are
abbrev IsOf : ℕ → ℕ → Relation → Type 0
IsOf j m r = (r.above ≡ j) × (r.below ≤ m)

pair_line : (j i : ℕ) (right : List Syllable) → Each (λ r. (r.above ≡ j) × (r.below ≡ i)) (line_relations j i right)
pair_line j i [] = tt
pair_line j i (s ∷ right) = ((refl, refl), tt)

wider : (j m : ℕ) (r : Relation) → IsOf j m r → IsOf j (suc m) r
wider j m r h = (h.0, omega (arith, h.1))

just : (j m : ℕ) (r : Relation) → (r.above ≡ j) × (r.below ≡ m) → IsOf j m r
just j m r h = (h.0, omega (arith, h.1))

pair_pairs : (p : Presented) (j m : ℕ) → Each (IsOf j m) (pair_relations p j m)
pair_pairs p j zero = tt
pair_pairs p j (suc m) =
    let line : List Relation = line_relations j (suc m) (right_of p (suc m) j) in
    Each-append (IsOf j (suc m)) (pair_relations p j m) line (Each-weaker (IsOf j m) (IsOf j (suc m)) (pair_relations p j m) (wider j m) (pair_pairs p j m))
    (Each-weaker (λ r. (r.above ≡ j) × (r.below ≡ suc m)) (IsOf j (suc m)) line (just j (suc m)) (pair_line j (suc m) (right_of p (suc m) j)))

abbrev IsUpTo : ℕ → Relation → Type 0
IsUpTo m r = r.above ≤ m

higher : (m : ℕ) (r : Relation) → IsUpTo m r → IsUpTo (suc m) r
higher m r h = omega (arith, h)

at_most : (j m : ℕ) (r : Relation) → IsOf j m r → IsUpTo j r
at_most j m r h = omega (arith, h.0)

above_all : (p : Presented) (m : ℕ) → Each (IsUpTo m) (all_relations p m)
above_all p zero = tt
above_all p (suc m) =
    Each-append (IsUpTo (suc m)) (all_relations p m) (pair_relations p (suc m) m) (Each-weaker (IsUpTo m) (IsUpTo (suc m)) (all_relations p m) (higher m) (above_all p m))
    (Each-weaker (IsOf (suc m) m) (IsUpTo (suc m)) (pair_relations p (suc m) m) (at_most (suc m) m) (pair_pairs p (suc m) m))

-- each relation is of a pair of its own
abbrev pub AreApart : List Relation → Type 0
AreApart [] = Unit {0}
AreApart (r ∷ rs) = IsApart r rs × AreApart rs

IsApart-append : (r : Relation) (xs ys : List Relation) → IsApart r xs → IsApart r ys → IsApart r (xs ++ ys)
IsApart-append r [] ys h k = k
IsApart-append r (x ∷ xs) ys h k = (h.0, IsApart-append r xs ys h.1 k)

AreApart-append : (xs ys : List Relation) → AreApart xs → AreApart ys → Each (λ r. IsApart r ys) xs → AreApart (xs ++ ys)
AreApart-append [] ys h k e = k
AreApart-append (x ∷ xs) ys h k e = (IsApart-append x xs ys h.0 e.0, AreApart-append xs ys h.1 k e.1)

apart_line : (r : Relation) (j i : ℕ) (right : List Syllable) → (j ≡ r.above → i ≡ r.below → ⊥) → IsApart r (line_relations j i right)
apart_line r j i [] h = tt
apart_line r j i (s ∷ right) h = (h, tt)

apart_pairs : (p : Presented) (j m : ℕ) (r : Relation) → r.above < j → IsApart r (pair_relations p j m)
apart_pairs p j zero r h = tt
apart_pairs p j (suc m) r h =
    IsApart-append r (pair_relations p j m) (line_relations j (suc m) (right_of p (suc m) j)) (apart_pairs p j m r h)
    (apart_line r j (suc m) (right_of p (suc m) j) (λ e f. omega arith))

line_apart : (j i : ℕ) (right : List Syllable) → AreApart (line_relations j i right)
line_apart j i [] = tt
line_apart j i (s ∷ right) = (tt, tt)

pairs_apart : (p : Presented) (j m : ℕ) → AreApart (pair_relations p j m)
pairs_apart p j zero = tt
pairs_apart p j (suc m) =
    let right : List Syllable = right_of p (suc m) j in
    AreApart-append (pair_relations p j m) (line_relations j (suc m) right) (pairs_apart p j m) (line_apart j (suc m) right)
    (Each-weaker (IsOf j m) (λ r. IsApart r (line_relations j (suc m) right)) (pair_relations p j m)
    (λ r h. apart_line r j (suc m) right (λ e f. omega (arith, h.1))) (pair_pairs p j m))

pub relations_apart : (p : Presented) (m : ℕ) → AreApart (all_relations p m)
relations_apart p zero = tt
relations_apart p (suc m) =
    AreApart-append (all_relations p m) (pair_relations p (suc m) m) (relations_apart p m) (pairs_apart p (suc m) m)
    (Each-weaker (IsUpTo m) (λ r. IsApart r (pair_relations p (suc m) m)) (all_relations p m)
    (λ r h. apart_pairs p (suc m) m r (omega (arith, h))) (above_all p m))

-- which right sides are given
abbrev is_of : ℕ → ℕ → Relation → Bool
is_of j i r = (r.above == j) && (r.below == i)

abbrev IsOther : ℕ → ℕ → Relation → Type 0
IsOther j i r = is_of j i r ≡ false

given_behind : (xs ys : List Relation) (j i : ℕ) → Each (IsOther j i) xs → right_given (xs ++ ys) j i ≡ right_given ys j i
given_behind [] ys j i h = refl
given_behind (x ∷ xs) ys j i h = ap (λ (q : Bool). if q then x.right else right_given (xs ++ ys) j i) h.0 ∙ given_behind xs ys j i h.1

given_none : (ys : List Relation) (j i : ℕ) → Each (IsOther j i) ys → right_given ys j i ≡ []
given_none [] j i h = refl
given_none (y ∷ ys) j i h = ap (λ (q : Bool). if q then y.right else right_given ys j i) h.0 ∙ given_none ys j i h.1

given_before : (xs ys : List Relation) (j i : ℕ) → Each (IsOther j i) ys → right_given (xs ++ ys) j i ≡ right_given xs j i
given_before [] ys j i h = given_none ys j i h
given_before (x ∷ xs) ys j i h = ap (λ (o : List Syllable). if is_of j i x then x.right else o) (given_before xs ys j i h)

same_pair : (j i : ℕ) → ((j == j) && (i == i)) ≡ true
same_pair j i = grind (arith, nat_tests)

given_line : (j i : ℕ) (right : List Syllable) → right_given (line_relations j i right) j i ≡ right
given_line j i [] = refl
given_line j i (s ∷ right) = ap (λ (q : Bool). if q then s ∷ right else []) (same_pair j i)

other_above : (a b j i : ℕ) → (a ≡ j → ⊥) → ((a == j) && (b == i)) ≡ false
other_above a b j i h = grind (arith, nat_tests)

other_below : (a b j i : ℕ) → (b ≡ i → ⊥) → ((a == j) && (b == i)) ≡ false
other_below a b j i h = grind (arith, nat_tests)

last_pair : (p : Presented) (j m : ℕ) → right_given (pair_relations p j (suc m)) j (suc m) ≡ right_of p (suc m) j
last_pair p j m =
    given_behind (pair_relations p j m) (line_relations j (suc m) (right_of p (suc m) j)) j (suc m)
    (Each-weaker (IsOf j m) (IsOther j (suc m)) (pair_relations p j m) (λ r h. other_below r.above r.below j (suc m) (λ e. omega (arith, h.1))) (pair_pairs p j m))
    ∙ given_line j (suc m) (right_of p (suc m) j)

given_pairs : (p : Presented) (j i m : ℕ) → 1 ≤ i → i ≤ m → right_given (pair_relations p j m) j i ≡ right_of p i j
given_pairs p j i zero low high = absurd (omega arith)
given_pairs p j i (suc m) low high =
    let line : List Relation = line_relations j (suc m) (right_of p (suc m) j) in
    elim (cases_lt i (suc m)) as (λ _. right_given (pair_relations p j (suc m)) j i ≡ right_of p i j) [
      | inl old ↦ given_before (pair_relations p j m) line j i
          (Each-weaker (λ r. (r.above ≡ j) × (r.below ≡ suc m)) (IsOther j i) line (λ r h. other_below r.above r.below j i (λ e. omega (arith, h.1))) (pair_line j (suc m) (right_of p (suc m) j)))
          ∙ given_pairs p j i m low (omega arith)
      | inr last ↦ let e : suc m ≡ i = omega arith in subst (λ (x : ℕ). right_given (pair_relations p j (suc m)) j x ≡ right_of p x j) e (last_pair p j m)
    ]

last_all : (p : Presented) (i m : ℕ) → 1 ≤ i → i ≤ m → right_given (all_relations p (suc m)) (suc m) i ≡ right_of p i (suc m)
last_all p i m low high =
    given_behind (all_relations p m) (pair_relations p (suc m) m) (suc m) i
    (Each-weaker (IsUpTo m) (IsOther (suc m) i) (all_relations p m) (λ r h. other_above r.above r.below (suc m) i (λ e. omega (arith, h))) (above_all p m))
    ∙ given_pairs p (suc m) i m low high

pub given_relations : (p : Presented) (j i m : ℕ) → 1 ≤ i → i < j → j ≤ m → right_given (all_relations p m) j i ≡ right_of p i j
given_relations p j i zero low order high = absurd (omega arith)
given_relations p j i (suc m) low order high =
    let pairs : List Relation = pair_relations p (suc m) m in
    elim (cases_lt j (suc m)) as (λ _. right_given (all_relations p (suc m)) j i ≡ right_of p i j) [
      | inl old ↦ given_before (all_relations p m) pairs j i
          (Each-weaker (IsOf (suc m) m) (IsOther j i) pairs (λ r h. other_above r.above r.below j i (λ e. omega (arith, h.0))) (pair_pairs p (suc m) m))
          ∙ given_relations p j i m low order (omega arith)
      | inr last ↦ let e : suc m ≡ j = omega arith in subst (λ (x : ℕ). right_given (all_relations p (suc m)) x i ≡ right_of p i x) e (last_all p i m low (omega arith))
    ]
