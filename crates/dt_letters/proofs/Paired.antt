-- Rows of pairs as they are written, and that they have the pairs of their types.
--   rows lists of pairs · row new rows of them · i k places · p q types · s syllable · e exponents · pres a presentation
use Rattle.std.proofs.Common.{◌≡◌, ◌≢◌, ℕ, zero, suc, ◌+◌, ◌-◌, ◌<◌, ◌≤◌, Bool, true, false, ◌==◌, ◌⊎◌, ℤ, pos, negsuc, List, [], ◌∷◌, ◌++◌, length, get_or, set, take, Vec, refl, sym, ap, ◌∙◌, subst, arith, append_assoc, inl, inr, if◌then◌else◌}
use Rattle.std.proofs.lemmas.Bool.{cases_eq, cases_lt}
use Rattle.std.proofs.lemmas.List.{append-nil, take_more}
use Rattle.std.specs.declared.alloc.Global.{Global}
use Rattle.nil_pres.specs.declared.syllable.Syllable.{Syllable}
use Rattle.nil_pres.specs.Presented.{Presented, IsPresented, right_of}
use Rattle.nil_pres.specs.Relations.{is_pair}
use Rattle.nil_pres.specs.Rights.{IsRight}
use Rattle.dt_letters.specs.declared.pair.Pair.{Pair}
use Rattle.dt_letters.specs.Allowed.{Exponents, exponent_in, exponents_of}
use Rattle.dt_letters.specs.Listing.{each, is_zero, upto}
use Rattle.dt_letters.specs.Pairs.{row_in, named, pair_of, pairs_up_to, pairs_of}
use Rattle.dt_letters.proofs.Presentations.{rising}

-- rows

pub row_in-none : (rows : List (Vec Pair Global)) (row : Vec Pair Global) → ((k : ℕ) → row_in rows k ≡ [])
    → row.items ≡ [] → (k : ℕ) → row_in (rows ++ row ∷ []) k ≡ []
row_in-none [] row h e zero = e
row_in-none [] row h e (suc k) = refl
row_in-none (r ∷ rows) row h e zero = h zero
row_in-none (r ∷ rows) row h e (suc k) = row_in-none rows row (λ j. h (suc j)) e k

pub row_in-at : (rows : List (Vec Pair Global)) (i : ℕ) (row : Vec Pair Global) → i < length rows
    → row ≡ get_or rows i row → row_in rows i ≡ row.items
row_in-at [] i row lt is = absurd (omega (arith, lt))
row_in-at (r ∷ rows) zero row lt is = ap (λ (v : Vec Pair Global). v.items) (sym is)
row_in-at (r ∷ rows) (suc i) row lt is = row_in-at rows i row (omega (arith, lt)) is

row_in-set_same : (rows : List (Vec Pair Global)) (i : ℕ) (new : Vec Pair Global) → i < length rows
    → row_in (set rows i new) i ≡ new.items
row_in-set_same [] i new lt = absurd (omega (arith, lt))
row_in-set_same (r ∷ rows) zero new lt = refl
row_in-set_same (r ∷ rows) (suc i) new lt = row_in-set_same rows i new (omega (arith, lt))

row_in-set_other : (rows : List (Vec Pair Global)) (i k : ℕ) (new : Vec Pair Global) → (i ≡ k → ⊥)
    → row_in (set rows i new) k ≡ row_in rows k
row_in-set_other [] i k new n = refl
row_in-set_other (r ∷ rows) zero zero new n = absurd (n refl)
row_in-set_other (r ∷ rows) zero (suc k) new n = refl
row_in-set_other (r ∷ rows) (suc i) zero new n = refl
row_in-set_other (r ∷ rows) (suc i) (suc k) new n = row_in-set_other rows i k new (λ e. n (ap suc e))

abbrev if_named : Pair → ℕ → Syllable → List Pair
if_named pair k s = if s.number == k then pair ∷ [] else []

bool_cases : (x : Bool) → (x ≡ true) ⊎ (x ≡ false)
bool_cases true = inl refl
bool_cases false = inr refl

named-here : (pair : Pair) (k : ℕ) (s : Syllable) → s.number ≡ k → if_named pair k s ≡ pair ∷ []
named-here pair k s e =
    let t : (s.number == k) ≡ true = grind (arith, e) in
    ap (λ (b : Bool). if b then pair ∷ [] else []) t

named-not : (pair : Pair) (k : ℕ) (s : Syllable) → (s.number ≡ k → ⊥) → if_named pair k s ≡ []
named-not pair k s n = elim (bool_cases (s.number == k)) [
  | inl t ↦ absurd (n (grind (arith, t)))
  | inr f ↦ ap (λ (b : Bool). if b then pair ∷ [] else []) f
]

each-push : {A B : Type 0} (f : A → List B) (xs : List A) (x : A) → each f (xs ++ x ∷ []) ≡ each f xs ++ f x
each-push f [] x = append-nil (f x)
each-push f (y ∷ xs) x =
    ap (λ z. f y ++ z) (each-push f xs x) ∙ sym (append_assoc (f y) (each f xs) (f x))

pub put-named : (rows olds : List (Vec Pair Global)) (new : Vec Pair Global) (i k n : ℕ) (pair : Pair)
    (right : List Syllable) (s d : Syllable) → n < length right → s ≡ get_or right n d → s.number ≡ i
    → i < length rows → new.items ≡ row_in rows i ++ pair ∷ []
    → row_in rows k ≡ row_in olds k ++ named pair k (take n right)
    → row_in (set rows i new) k ≡ row_in olds k ++ named pair k (take (n + 1) right)
put-named rows olds new i k n pair right s d lt is num less items h =
    step ∙ ap (λ (z : List Pair). z ++ if_named pair k s) h
    ∙ append_assoc (row_in olds k) (named pair k (take n right)) (if_named pair k s)
    ∙ ap (λ (z : List Pair). row_in olds k ++ z)
    (sym (each-push (if_named pair k) (take n right) s)
    ∙ ap (named pair k) (ap (λ (z : Syllable). take n right ++ z ∷ []) is ∙ sym (take_more right n d lt)))
  where
    step : row_in (set rows i new) k ≡ row_in rows k ++ if_named pair k s
    step = elim (cases_eq i k) [
      | inl e ↦
          subst (λ (j : ℕ). row_in (set rows i new) j ≡ row_in rows j ++ if_named pair k s) e
          (row_in-set_same rows i new less ∙ items
          ∙ ap (λ (z : List Pair). row_in rows i ++ z) (sym (named-here pair k s (num ∙ e))))
      | inr n ↦
          row_in-set_other rows i k new n ∙ sym (append-nil (row_in rows k))
          ∙ ap (λ (z : List Pair). row_in rows k ++ z) (sym (named-not pair k s (λ e. n (sym num ∙ e))))
    ]

-- a right side names a type once, and only with an exponent that isn't 0

named-none : (pair : Pair) (k low high : ℕ) (right : List Syllable) → IsRight low high right → k ≤ low
    → named pair k right ≡ []
named-none pair k low high [] h le = refl
named-none pair k low high (s ∷ rest) h le =
    ap (λ (z : List Pair). z ++ named pair k rest) (named-not pair k s (λ e. absurd (omega (arith, h.0, le, e))))
    ∙ named-none pair k s.number high rest h.4 (omega (arith, h.0, le))

nonzero : (c : ℤ) → c ≢ pos 0 → is_zero c ≡ false
nonzero (pos zero) n = absurd (n refl)
nonzero (pos (suc c)) n = refl
nonzero (negsuc c) n = refl

named-right : (pair : Pair) (k low high : ℕ) (right : List Syllable) → IsRight low high right
    → named pair k right ≡ (if is_zero (exponent_in right k) then [] else pair ∷ [])
named-right pair k low high [] h = refl
named-right pair k low high (s ∷ rest) h = elim (bool_cases (s.number == k)) [
  | inl t ↦
      let num : s.number ≡ k = grind (arith, t) in
      let exp : exponent_in (s ∷ rest) k ≡ s.exp =
      ap (λ (b : Bool). if b then s.exp else exponent_in rest k) t in
      ap (λ (b : Bool). (if b then pair ∷ [] else []) ++ named pair k rest) t
      ∙ ap (λ (z : List Pair). pair ∷ z) (named-none pair k s.number high rest h.4 (omega (arith, num)))
      ∙ ap (λ (b : Bool). if b then [] else pair ∷ []) (sym (ap is_zero exp ∙ nonzero s.exp h.2))
  | inr f ↦
      ap (λ (b : Bool). (if b then pair ∷ [] else []) ++ named pair k rest) f
      ∙ named-right pair k s.number high rest h.4
      ∙ ap (λ (c : ℤ). if is_zero c then [] else pair ∷ [])
      (sym (ap (λ (b : Bool). if b then s.exp else exponent_in rest k) f))
]

named-pair : (pres : Presented) → IsPresented pres → (k p q : ℕ) → 1 ≤ q → q < p → p ≤ length pres.names
    → named (record { left = p; right = q }) k (right_of pres q p) ≡ pair_of (exponents_of pres) k p q
named-pair pres h k p q one less most =
    let is : is_pair pres q p ≡ true = grind (arith, one, less, most) in
    named-right (record { left = p; right = q }) k p (length pres.names) (right_of pres q p) (h.lawful q p one less)
    ∙ ap (λ (b : Bool). if is_zero (if b then exponent_in (right_of pres q p) k else pos 0) then []
    else record { left = p; right = q } ∷ []) (sym is)

-- the pairs so far

row-next : (e : Exponents) (k p n m i : ℕ) (xs : List Pair) → suc m ≡ n → i ≡ n
    → (xs ++ each (λ q. pair_of e k p q) (upto m)) ++ pair_of e k p n ≡ xs ++ each (λ q. pair_of e k p q) (upto i)
row-next e k p n m i xs next same =
    ap (λ (z : ℕ). (xs ++ each (λ q. pair_of e k p q) (upto m)) ++ pair_of e k p z) (sym next)
    ∙ append_assoc xs (each (λ q. pair_of e k p q) (upto m)) (pair_of e k p (suc m))
    ∙ ap (λ (z : List Pair). xs ++ z) (sym (each-push (λ q. pair_of e k p q) (upto m) (suc m)))
    ∙ ap (λ (z : ℕ). xs ++ each (λ q. pair_of e k p q) (upto z)) (next ∙ sym same)

pub pair-next : (pres : Presented) → IsPresented pres → (k p q m i : ℕ) (old new xs : List Pair)
    (right : List Syllable) → 1 ≤ q → q < p → p ≤ length pres.names → right ≡ right_of pres q p → suc m ≡ q → i ≡ q
    → old ≡ xs ++ each (λ z. pair_of (exponents_of pres) k p z) (upto m)
    → new ≡ old ++ named (record { left = p; right = q }) k right
    → new ≡ xs ++ each (λ z. pair_of (exponents_of pres) k p z) (upto i)
pair-next pres h k p q m i old new xs right one less most is next same so more =
    more ∙ ap (λ (z : List Syllable). old ++ named (record { left = p; right = q }) k z) is
    ∙ ap (λ (z : List Pair). old ++ z) (named-pair pres h k p q one less most)
    ∙ ap (λ (z : List Pair). z ++ pair_of (exponents_of pres) k p q) so
    ∙ row-next (exponents_of pres) k p q m i xs next same

pub rows-next : (e : Exponents) (k n m j i : ℕ) → suc m ≡ n → j ≡ n - 1 → i ≡ n
    → pairs_up_to e k m ++ each (λ q. pair_of e k n q) (upto j) ≡ pairs_up_to e k i
rows-next e k n m j i next last same =
    ap (λ (z : ℕ). pairs_up_to e k m ++ each (λ q. pair_of e k n q) (upto z)) last
    ∙ ap (λ (z : ℕ). pairs_up_to e k m ++ each (λ q. pair_of e k z q) (upto (z - 1))) (sym next)
    ∙ sym (each-push (λ p. each (λ q. pair_of e k p q) (upto (p - 1))) (upto m) (suc m))
    ∙ ap (pairs_up_to e k) (next ∙ sym same)

-- beyond a left type there are none

row-none : (e : Exponents) (k p : ℕ) → ((q : ℕ) → e q p k ≡ pos 0) → (qs : List ℕ)
    → each (λ q. pair_of e k p q) qs ≡ []
row-none e k p h [] = refl
row-none e k p h (q ∷ qs) =
    ap (λ (c : ℤ). (if is_zero c then [] else record { left = p; right = q } ∷ []) ++ each (λ q. pair_of e k p q) qs) (h q)
    ∙ row-none e k p h qs

pairs-more : (e : Exponents) (k m d : ℕ) → ((q p : ℕ) → m < p → e q p k ≡ pos 0)
    → pairs_up_to e k (m + d) ≡ pairs_up_to e k m
pairs-more e k m zero h = let n : m + zero ≡ m = omega arith in ap (pairs_up_to e k) n
pairs-more e k m (suc d) h =
    let n : m + suc d ≡ suc (m + d) = omega arith in
    ap (pairs_up_to e k) n
    ∙ each-push (λ p. each (λ q. pair_of e k p q) (upto (p - 1))) (upto (m + d)) (suc (m + d))
    ∙ ap (λ (z : List Pair). pairs_up_to e k (m + d) ++ z)
    (row-none e k (suc (m + d)) (λ q. h q (suc (m + d)) (omega arith)) (upto (suc (m + d) - 1)))
    ∙ append-nil (pairs_up_to e k (m + d)) ∙ pairs-more e k m d h

zero_or : (c : ℤ) → (c ≡ pos 0) ⊎ (c ≢ pos 0)
zero_or (pos zero) = inl refl
zero_or (pos (suc c)) = inr (λ e. absurd (grind (arith, ap is_zero e)))
zero_or (negsuc c) = inr (λ e. absurd (grind (arith, ap is_zero e)))

pub pairs-all : (pres : Presented) → IsPresented pres → (k n : ℕ) → n ≡ length pres.names
    → pairs_up_to (exponents_of pres) k n ≡ pairs_of (exponents_of pres) k
pairs-all pres h k n is = elim (cases_lt n (k - 1)) [
  | inl less ↦
      sym (ap (pairs_up_to (exponents_of pres) k) (let s : k - 1 ≡ n + (k - 1 - n) = omega (arith, less) in s)
      ∙ pairs-more (exponents_of pres) k n (k - 1 - n) beyond)
  | inr most ↦
      ap (pairs_up_to (exponents_of pres) k) (let s : n ≡ k - 1 + (n - (k - 1)) = omega (arith, most) in s)
      ∙ pairs-more (exponents_of pres) k (k - 1) (n - (k - 1)) above
]
  where
    beyond : (q p : ℕ) → n < p → exponents_of pres q p k ≡ pos 0
    beyond q p lt =
        let no : is_pair pres q p ≡ false = grind (arith, lt, is) in
        ap (λ (b : Bool). if b then exponent_in (right_of pres q p) k else pos 0) no

    above : (q p : ℕ) → k - 1 < p → exponents_of pres q p k ≡ pos 0
    above q p lt = elim (zero_or (exponents_of pres q p k)) [
      | inl z ↦ z
      | inr n ↦ absurd (let r = (rising pres h q p k n).1 in omega (arith, r, lt))
    ]
