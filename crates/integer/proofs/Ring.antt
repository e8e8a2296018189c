-- A normaliser for identities of the integers.
-- A polynomial in Horner's form: a number, or p + x q with p in the variables after x
use Rattle.std.proofs.Common.{◌≡◌, ℕ, zero, suc, ◌+◌, ◌*◌, ◌^◌, Bool, true, false, cond, List, [], ◌∷◌, refl, sym, ap, ◌∙◌, arith}
use borrow.Author.Differences.{ints}
use lib.Dec.{T, leb}
use lib.IntN.{ℤ, pos, negsuc, ◌+ℤ◌, ◌*ℤ◌, neg_ℤ, *ℤ-zero, *ℤ_comm, +ℤ_idr, +ℤ_idl, neg_ℤ-+ℤ}
use Rattle.integer.proofs.Laws.{add-mul, mul-add, mul_assoc_ℤ, one-mul_ℤ, mul-neg_right}

-- an expression, whose variables are places of a list
pub data Expr : Type 0 where
  at : ℕ → Expr
  number : ℤ → Expr
  plus : Expr → Expr → Expr
  times : Expr → Expr → Expr
  minus : Expr → Expr

pub data Horner : Type 0 where
  only : ℤ → Horner
  more : Horner → Horner → Horner

abbrev pub first : List ℤ → ℤ
first [] = pos 0
first (x ∷ xs) = x

abbrev pub rest : List ℤ → List ℤ
rest [] = []
rest (x ∷ xs) = xs

abbrev pub at_place : List ℤ → ℕ → ℤ
at_place xs zero = first xs
at_place xs (suc i) = at_place (rest xs) i

abbrev pub value_of : List ℤ → Expr → ℤ
value_of xs (at i) = at_place xs i
value_of xs (number k) = k
value_of xs (plus a b) = value_of xs a +ℤ value_of xs b
value_of xs (times a b) = value_of xs a *ℤ value_of xs b
value_of xs (minus a) = neg_ℤ (value_of xs a)

abbrev pub sum_of : List ℤ → Horner → ℤ
sum_of xs (only k) = k
sum_of xs (more p q) = sum_of (rest xs) p +ℤ first xs *ℤ sum_of xs q

abbrev pub joined : Horner → Horner → Horner
joined (only a) (only b) = only (a +ℤ b)
joined (only a) (more p q) = more (joined (only a) p) q
joined (more p q) (only b) = more (joined p (only b)) q
joined (more p q) (more r s) = more (joined p r) (joined q s)

abbrev pub turned : Horner → Horner
turned (only a) = only (neg_ℤ a)
turned (more p q) = more (turned p) (turned q)

abbrev pub scaled : ℤ → Horner → Horner
scaled a (only b) = only (a *ℤ b)
scaled a (more p q) = more (scaled a p) (scaled a q)

-- f is the product by a p of the later variables
abbrev pub lifted : (Horner → Horner) → Horner → Horner
lifted f (only b) = more (f (only b)) (only (pos 0))
lifted f (more r s) = more (f r) (lifted f s)

abbrev pub product : Horner → Horner → Horner
product (only a) r = scaled a r
product (more p q) r = joined (lifted (product p) r) (more (only (pos 0)) (product q r))

abbrev pub variable : ℕ → Horner
variable zero = more (only (pos 0)) (only (pos 1))
variable (suc i) = more (variable i) (only (pos 0))

abbrev pub normal : Expr → Horner
normal (at i) = variable i
normal (number k) = only k
normal (plus a b) = joined (normal a) (normal b)
normal (times a b) = product (normal a) (normal b)
normal (minus a) = turned (normal a)

abbrev pub none_left : Horner → Bool
none_left (only (pos zero)) = true
none_left (only (pos (suc n))) = false
none_left (only (negsuc n)) = false
none_left (more p q) = cond (none_left p) (none_left q) false

-- the value of each operation
regroup : (a b c d x : ℤ) → (a +ℤ b) +ℤ (x *ℤ c +ℤ x *ℤ d) ≡ (a +ℤ x *ℤ c) +ℤ (b +ℤ x *ℤ d)
regroup a b c d x = omega (arith, ints)

of_joined : (xs : List ℤ) (p q : Horner) → sum_of xs (joined p q) ≡ sum_of xs p +ℤ sum_of xs q
of_joined xs (only a) (only b) = refl
of_joined xs (only a) (more p q) =
    ap (λ z. z +ℤ first xs *ℤ sum_of xs q) (of_joined (rest xs) (only a) p) ∙ omega (arith, ints)
of_joined xs (more p q) (only b) =
    ap (λ z. z +ℤ first xs *ℤ sum_of xs q) (of_joined (rest xs) p (only b)) ∙ omega (arith, ints)
of_joined xs (more p q) (more r s) =
    ap (λ z. z +ℤ first xs *ℤ sum_of xs (joined q s)) (of_joined (rest xs) p r)
    ∙ ap (λ z. (sum_of (rest xs) p +ℤ sum_of (rest xs) r) +ℤ first xs *ℤ z) (of_joined xs q s)
    ∙ ap (λ z. (sum_of (rest xs) p +ℤ sum_of (rest xs) r) +ℤ z) (mul-add (first xs) (sum_of xs q) (sum_of xs s))
    ∙ regroup (sum_of (rest xs) p) (sum_of (rest xs) r) (sum_of xs q) (sum_of xs s) (first xs)

of_turned : (xs : List ℤ) (p : Horner) → sum_of xs (turned p) ≡ neg_ℤ (sum_of xs p)
of_turned xs (only a) = refl
of_turned xs (more p q) =
    ap (λ z. z +ℤ first xs *ℤ sum_of xs (turned q)) (of_turned (rest xs) p)
    ∙ ap (λ z. neg_ℤ (sum_of (rest xs) p) +ℤ first xs *ℤ z) (of_turned xs q)
    ∙ ap (λ z. neg_ℤ (sum_of (rest xs) p) +ℤ z) (mul-neg_right (first xs) (sum_of xs q))
    ∙ sym (neg_ℤ-+ℤ (sum_of (rest xs) p) (first xs *ℤ sum_of xs q))

-- a factor moves past another
pub mul_swap_ℤ : (a b c : ℤ) → a *ℤ (b *ℤ c) ≡ b *ℤ (a *ℤ c)
mul_swap_ℤ a b c = sym (mul_assoc_ℤ a b c) ∙ ap (λ z. z *ℤ c) (*ℤ_comm a b) ∙ mul_assoc_ℤ b a c

through : (a p x q : ℤ) → a *ℤ p +ℤ x *ℤ (a *ℤ q) ≡ a *ℤ (p +ℤ x *ℤ q)
through a p x q = ap (λ z. a *ℤ p +ℤ z) (mul_swap_ℤ x a q) ∙ sym (mul-add a p (x *ℤ q))

of_scaled : (xs : List ℤ) (a : ℤ) (p : Horner) → sum_of xs (scaled a p) ≡ a *ℤ sum_of xs p
of_scaled xs a (only b) = refl
of_scaled xs a (more p q) =
    ap (λ z. z +ℤ first xs *ℤ sum_of xs (scaled a q)) (of_scaled (rest xs) a p)
    ∙ ap (λ z. a *ℤ sum_of (rest xs) p +ℤ first xs *ℤ z) (of_scaled xs a q)
    ∙ through a (sum_of (rest xs) p) (first xs) (sum_of xs q)

of_lifted : (xs : List ℤ) (f : Horner → Horner) (a : ℤ) → ((r : Horner) → sum_of (rest xs) (f r) ≡ a *ℤ sum_of (rest xs) r) → (r : Horner) → sum_of xs (lifted f r) ≡ a *ℤ sum_of xs r
of_lifted xs f a h (only b) =
    ap (λ z. z +ℤ first xs *ℤ pos 0) (h (only b)) ∙ ap (λ z. a *ℤ b +ℤ z) (*ℤ-zero (first xs)) ∙ +ℤ_idr (a *ℤ b)
of_lifted xs f a h (more r s) =
    ap (λ z. z +ℤ first xs *ℤ sum_of xs (lifted f s)) (h r)
    ∙ ap (λ z. a *ℤ sum_of (rest xs) r +ℤ first xs *ℤ z) (of_lifted xs f a h s)
    ∙ through a (sum_of (rest xs) r) (first xs) (sum_of xs s)

of_product : (xs : List ℤ) (p q : Horner) → sum_of xs (product p q) ≡ sum_of xs p *ℤ sum_of xs q
of_product xs (only a) r = of_scaled xs a r
of_product xs (more p q) r =
    of_joined xs (lifted (product p) r) (more (only (pos 0)) (product q r))
    ∙ ap (λ z. z +ℤ (pos 0 +ℤ first xs *ℤ sum_of xs (product q r))) (of_lifted xs (product p) (sum_of (rest xs) p) (of_product (rest xs) p) r)
    ∙ ap (λ z. sum_of (rest xs) p *ℤ sum_of xs r +ℤ z) (+ℤ_idl (first xs *ℤ sum_of xs (product q r)) ∙ ap (λ z. first xs *ℤ z) (of_product xs q r) ∙ sym (mul_assoc_ℤ (first xs) (sum_of xs q) (sum_of xs r)))
    ∙ sym (add-mul (sum_of (rest xs) p) (first xs *ℤ sum_of xs q) (sum_of xs r))

of_variable : (xs : List ℤ) (i : ℕ) → sum_of xs (variable i) ≡ at_place xs i
of_variable xs zero = +ℤ_idl (first xs *ℤ pos 1) ∙ *ℤ_comm (first xs) (pos 1) ∙ one-mul_ℤ (first xs)
of_variable xs (suc i) = ap (λ z. sum_of (rest xs) (variable i) +ℤ z) (*ℤ-zero (first xs)) ∙ +ℤ_idr (sum_of (rest xs) (variable i)) ∙ of_variable (rest xs) i

of_normal : (xs : List ℤ) (e : Expr) → sum_of xs (normal e) ≡ value_of xs e
of_normal xs (at i) = of_variable xs i
of_normal xs (number k) = refl
of_normal xs (plus a b) = of_joined xs (normal a) (normal b) ∙ ap (λ z. z +ℤ sum_of xs (normal b)) (of_normal xs a) ∙ ap (λ z. value_of xs a +ℤ z) (of_normal xs b)
of_normal xs (times a b) = of_product xs (normal a) (normal b) ∙ ap (λ z. z *ℤ sum_of xs (normal b)) (of_normal xs a) ∙ ap (λ z. value_of xs a *ℤ z) (of_normal xs b)
of_normal xs (minus a) = of_turned xs (normal a) ∙ ap neg_ℤ (of_normal xs a)

both_left : (a b : Bool) → T (cond a b false) → T a × T b
both_left true b h = (tt, h)
both_left false b h = absurd h

of_none : (xs : List ℤ) (p : Horner) → T (none_left p) → sum_of xs p ≡ pos 0
of_none xs (only (pos zero)) h = refl
of_none xs (only (pos (suc n))) h = absurd h
of_none xs (only (negsuc n)) h = absurd h
of_none xs (more p q) h =
    let b = both_left (none_left p) (none_left q) h in
    ap (λ z. z +ℤ first xs *ℤ sum_of xs q) (of_none (rest xs) p b.0) ∙ ap (λ z. pos 0 +ℤ first xs *ℤ z) (of_none xs q b.1) ∙ ap (λ z. pos 0 +ℤ z) (*ℤ-zero (first xs))

from_difference : (a b : ℤ) → a +ℤ neg_ℤ b ≡ pos 0 → a ≡ b
from_difference a b e = omega (arith, ints)

-- Two expressions whose difference has the normal form 0 are equal at every list of values
pub ring : (xs : List ℤ) (a b : Expr) → T (none_left (joined (normal a) (turned (normal b)))) → value_of xs a ≡ value_of xs b
ring xs a b h =
    from_difference (value_of xs a) (value_of xs b)
    (sym (of_joined xs (normal a) (turned (normal b)) ∙ ap (λ z. z +ℤ sum_of xs (turned (normal b))) (of_normal xs a) ∙ ap (λ z. value_of xs a +ℤ z) (of_turned xs (normal b) ∙ ap neg_ℤ (of_normal xs b)))
    ∙ of_none xs (joined (normal a) (turned (normal b))) h)

-- x written as an expression over the values xs, for `search` to find
pub record Reads (xs : List ℤ) (x : ℤ) : Type 0 where
  pub term : Expr
  pub is : value_of xs term ≡ x

abbrev pub reads_plus : {xs : List ℤ} {x y : ℤ} → Reads xs x → Reads xs y → Reads xs (x +ℤ y)
reads_plus {xs} {x} {y} p q = record { term = plus p.term q.term; is = ap (λ z. z +ℤ value_of xs q.term) p.is ∙ ap (λ z. x +ℤ z) q.is }

abbrev pub reads_times : {xs : List ℤ} {x y : ℤ} → Reads xs x → Reads xs y → Reads xs (x *ℤ y)
reads_times {xs} {x} {y} p q = record { term = times p.term q.term; is = ap (λ z. z *ℤ value_of xs q.term) p.is ∙ ap (λ z. x *ℤ z) q.is }

abbrev pub reads_minus : {xs : List ℤ} {x : ℤ} → Reads xs x → Reads xs (neg_ℤ x)
reads_minus p = record { term = minus p.term; is = ap neg_ℤ p.is }

-- a number that is written out
abbrev pub reads_number : {xs : List ℤ} (k : ℕ) → leb k (2 ^ 128) ≡ true → Reads xs (pos k)
reads_number k h = record { term = number (pos k); is = refl }

abbrev pub reads_negative : {xs : List ℤ} (k : ℕ) → leb k (2 ^ 128) ≡ true → Reads xs (negsuc k)
reads_negative k h = record { term = number (negsuc k); is = refl }

pub one_more : (n : ℕ) → pos n +ℤ pos 1 ≡ pos (suc n)
one_more n = ap pos (omega arith)

abbrev pub reads_suc : {xs : List ℤ} {n : ℕ} → Reads xs (pos n) → Reads xs (pos (suc n))
reads_suc {xs} {n} p = record { term = plus p.term (number (pos 1)); is = ap (λ z. z +ℤ pos 1) p.is ∙ one_more n }

abbrev pub reads_below : {xs : List ℤ} {n : ℕ} → Reads xs (pos n) → Reads xs (negsuc n)
reads_below {xs} {n} p = record { term = minus (plus p.term (number (pos 1))); is = ap (λ z. neg_ℤ (z +ℤ pos 1)) p.is ∙ ap neg_ℤ (one_more n) }

abbrev pub reads_sum : {xs : List ℤ} {m n : ℕ} → Reads xs (pos m) → Reads xs (pos n) → Reads xs (pos (m + n))
reads_sum {xs} {m} {n} p q = record { term = plus p.term q.term; is = ap (λ z. z +ℤ value_of xs q.term) p.is ∙ ap (λ z. pos m +ℤ z) q.is }

abbrev pub reads_product : {xs : List ℤ} {m n : ℕ} → Reads xs (pos m) → Reads xs (pos n) → Reads xs (pos (m * n))
reads_product {xs} {m} {n} p q = record { term = times p.term q.term; is = ap (λ z. z *ℤ value_of xs q.term) p.is ∙ ap (λ z. pos m *ℤ z) q.is }

abbrev pub reads_0 : {xs : List ℤ} {a : ℤ} → Reads (a ∷ xs) a
reads_0 = record { term = at 0; is = refl }

abbrev pub reads_1 : {xs : List ℤ} {a b : ℤ} → Reads (a ∷ b ∷ xs) b
reads_1 = record { term = at 1; is = refl }

abbrev pub reads_2 : {xs : List ℤ} {a b c : ℤ} → Reads (a ∷ b ∷ c ∷ xs) c
reads_2 = record { term = at 2; is = refl }

abbrev pub reads_3 : {xs : List ℤ} {a b c d : ℤ} → Reads (a ∷ b ∷ c ∷ d ∷ xs) d
reads_3 = record { term = at 3; is = refl }

abbrev pub reads_4 : {xs : List ℤ} {a b c d e : ℤ} → Reads (a ∷ b ∷ c ∷ d ∷ e ∷ xs) e
reads_4 = record { term = at 4; is = refl }

abbrev pub reads_5 : {xs : List ℤ} {a b c d e f : ℤ} → Reads (a ∷ b ∷ c ∷ d ∷ e ∷ f ∷ xs) f
reads_5 = record { term = at 5; is = refl }

pub ruleset reads = (reads_0, reads_1, reads_2, reads_3, reads_4, reads_5, reads_plus, reads_times, reads_minus, reads_number, reads_negative, reads_suc, reads_below, reads_sum, reads_product)

pub ring_by : {x y : ℤ} (xs : List ℤ) (p : Reads xs x) (q : Reads xs y) → T (none_left (joined (normal p.term) (turned (normal q.term)))) → x ≡ y
ring_by xs p q h = sym p.is ∙ ring xs p.term q.term h ∙ q.is

-- x ≡ y follows from an equation and an identity
pub with_equation : {x y u v : ℤ} → u ≡ v → x +ℤ u ≡ y +ℤ v → x ≡ y
with_equation {x} {y} {u} {v} e h = from_sums x y u v (h ∙ ap (λ z. y +ℤ z) (sym e))
  where
    from_sums : (x y u v : ℤ) → x +ℤ u ≡ y +ℤ u → x ≡ y
    from_sums x y u v k = omega (arith, ints)
