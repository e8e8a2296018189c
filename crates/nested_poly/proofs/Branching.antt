-- Values, magnitudes and rows of the terms of a branch, and of nodes from their front
use Rattle.std.proofs.Common.{◌≡◌, ◌≢◌, ℕ, zero, suc, ◌+◌, ◌*◌, ◌^◌, ◌<◌, ◌≤◌, List, [], ◌∷◌, ◌++◌, length, take, drop, refl, sym, ap, ◌∙◌, subst, arith}
use Rattle.std.specs.Prelude.{unsigned_abs, Result, MatchResult}
use Rattle.std.proofs.lemmas.Result.{MatchResult-weaker}
use Rattle.std.proofs.lemmas.Int.{unsigned_abs-mul}
use Rattle.std.proofs.lemmas.Grind.{common_steps}
use lib.IntN.{ℤ, pos, negsuc, ◌+ℤ◌, ◌*ℤ◌, zero-*ℤ, *ℤ-zero, *ℤ_comm, +ℤ_comm}
use Rattle.integer.specs.Binomial.{choose}
use Rattle.integer.proofs.Laws.{one-mul_ℤ, mul-add}
use Rattle.integer.proofs.Ring.{mul_swap_ℤ}
use Rattle.binom_poly.specs.declared.part.Part.{Part}
use Rattle.binom_poly.specs.declared.term.Term.{Term}
use Rattle.binom_poly.specs.Polynomial.{monomial_value, value_of}
use Rattle.binom_poly.specs.Reading.{Reading}
use Rattle.binom_poly.specs.Readings.{width_at, magnitude_of, IsCovered}
use Rattle.binom_poly.specs.declared.fault.Wide.{Wide}
use Rattle.nested_poly.specs.declared.node.Node.{Node}
use Rattle.nested_poly.specs.declared.weighed.Weighed.{Weighed}
use Rattle.nested_poly.specs.Nodes.{under, own_term, branch_terms, terms_within, terms_of, IsForestWithin, IsForest, IsWeighed, Weighs}

-- ---- a factor in front
pub value-under : (a : ℕ → ℤ) (p : Part) (ts : List Term) → value_of a (under p ts) ≡ choose (a p.var) p.exp *ℤ value_of a ts
unfolding value_of monomial_value under
value-under a p [] = sym (*ℤ-zero (choose (a p.var) p.exp))
value-under a p (t ∷ ts) =
    let x = choose (a p.var) p.exp in
    ap (λ z. t.coefficient *ℤ (x *ℤ monomial_value a t.monomial) +ℤ z) (value-under a p ts)
    ∙ ap (λ z. z +ℤ x *ℤ value_of a ts) (mul_swap_ℤ t.coefficient x (monomial_value a t.monomial))
    ∙ sym (mul-add x (t.coefficient *ℤ monomial_value a t.monomial) (value_of a ts))

mul-sum : (x m n : ℕ) → x * m + x * n ≡ x * (m + n)
mul-sum x m n = omega arith

pub magnitude-under : (a : ℕ → ℤ) (p : Part) (ts : List Term) → magnitude_of a (under p ts) ≡ unsigned_abs (choose (a p.var) p.exp) * magnitude_of a ts
unfolding magnitude_of monomial_value under
magnitude-under a p [] = omega arith
magnitude-under a p (t ∷ ts) =
    let x = choose (a p.var) p.exp in
    let y = t.coefficient *ℤ monomial_value a t.monomial in
    ap (λ z. unsigned_abs (t.coefficient *ℤ (x *ℤ monomial_value a t.monomial)) + z) (magnitude-under a p ts)
    ∙ ap (λ z. unsigned_abs z + unsigned_abs x * magnitude_of a ts) (mul_swap_ℤ t.coefficient x (monomial_value a t.monomial))
    ∙ ap (λ z. z + unsigned_abs x * magnitude_of a ts) (unsigned_abs-mul x y)
    ∙ mul-sum (unsigned_abs x) (unsigned_abs y) (magnitude_of a ts)

pub covered-under : (rows : List Reading) (p : Part) (ts : List Term) → p.exp < width_at rows p.var → IsCovered rows ts → IsCovered rows (under p ts)
unfolding under
covered-under rows p [] l h = tt
covered-under rows p (t ∷ ts) l h = ((l, h.0), covered-under rows p ts l h.1)

pub covered_below : (rows : List Reading) (p : Part) (ts : List Term) → IsCovered rows (under p ts) → IsCovered rows ts
unfolding under
covered_below rows p [] h = tt
covered_below rows p (t ∷ ts) h = (h.0.1, covered_below rows p ts h.1)

pub covered_first : (rows : List Reading) (n : Node) (ts : List Term) → IsCovered rows (branch_terms n ts) → n.part.exp < width_at rows n.part.var
unfolding under
covered_first rows n ts h = h.0.0

pub covered_left : (rows : List Reading) (ts us : List Term) → IsCovered rows (ts ++ us) → IsCovered rows ts
covered_left rows [] us h = tt
covered_left rows (t ∷ ts) us h = (h.0, covered_left rows ts us h.1)

pub covered_right : (rows : List Reading) (ts us : List Term) → IsCovered rows (ts ++ us) → IsCovered rows us
covered_right rows [] us h = h
covered_right rows (t ∷ ts) us h = covered_right rows ts us h.1

pub covered-append : (rows : List Reading) (ts us : List Term) → IsCovered rows ts → IsCovered rows us → IsCovered rows (ts ++ us)
covered-append rows [] us h k = k
covered-append rows (t ∷ ts) us h k = (h.0, covered-append rows ts us h.1 k)

pub magnitude-append : (a : ℕ → ℤ) (ts us : List Term) → magnitude_of a (ts ++ us) ≡ magnitude_of a ts + magnitude_of a us
unfolding magnitude_of
magnitude-append a [] us = omega arith
magnitude-append a (t ∷ ts) us = omega (arith, magnitude-append a ts us)

-- ---- nodes from their front
length-take : (k : ℕ) (ns : List Node) → length (take k ns) ≤ length ns
length-take k ns = grind (arith, common_steps)

pub length-drop : (k : ℕ) (ns : List Node) → length (drop k ns) ≤ length ns
length-drop k ns = grind (arith, common_steps)

pub terms_enough : (k j : ℕ) (ns : List Node) → length ns ≤ k → length ns ≤ j → terms_within k ns ≡ terms_within j ns
unfolding terms_within
terms_enough zero zero ns l m = refl
terms_enough zero (suc j) [] l m = refl
terms_enough zero (suc j) (n ∷ ns) l m = absurd (omega arith)
terms_enough (suc k) zero [] l m = refl
terms_enough (suc k) zero (n ∷ ns) l m = absurd (omega arith)
terms_enough (suc k) (suc j) [] l m = refl
terms_enough (suc k) (suc j) (n ∷ ns) l m =
    let x = length-take n.below ns in
    let y = length-drop n.below ns in
    ap (λ ts. branch_terms n ts ++ terms_within k (drop n.below ns)) (terms_enough k j (take n.below ns) (omega arith) (omega arith))
    ∙ ap (λ ts. branch_terms n (terms_within j (take n.below ns)) ++ ts) (terms_enough k j (drop n.below ns) (omega arith) (omega arith))

pub terms_first : (n : Node) (ns : List Node) → terms_of (n ∷ ns) ≡ branch_terms n (terms_of (take n.below ns)) ++ terms_of (drop n.below ns)
unfolding terms_within
terms_first n ns =
    let x = length-take n.below ns in
    let y = length-drop n.below ns in
    ap (λ ts. branch_terms n ts ++ terms_within (length ns) (drop n.below ns)) (terms_enough (length ns) (length (take n.below ns)) (take n.below ns) (omega arith) (omega arith))
    ∙ ap (λ ts. branch_terms n (terms_of (take n.below ns)) ++ ts) (terms_enough (length ns) (length (drop n.below ns)) (drop n.below ns) (omega arith) (omega arith))

pub forest_enough : (k j : ℕ) (ns : List Node) → length ns ≤ k → length ns ≤ j → IsForestWithin k ns → IsForestWithin j ns
unfolding IsForestWithin
forest_enough zero zero ns l m h = h
forest_enough zero (suc j) [] l m h = tt
forest_enough zero (suc j) (n ∷ ns) l m h = absurd (omega arith)
forest_enough (suc k) zero ns l m h = tt
forest_enough (suc k) (suc j) [] l m h = tt
forest_enough (suc k) (suc j) (n ∷ ns) l m h =
    let x = length-take n.below ns in
    let y = length-drop n.below ns in
    (h.0, forest_enough k j (take n.below ns) (omega arith) (omega arith) h.1, forest_enough k j (drop n.below ns) (omega arith) (omega arith) h.2)

pub record Front (n : Node) (ns : List Node) : Type 0 where
  pub within : n.below ≤ length ns
  pub below : IsForest (take n.below ns)
  pub next : IsForest (drop n.below ns)

pub forest_front : (n : Node) (ns : List Node) → IsForest (n ∷ ns) → Front n ns
unfolding IsForestWithin
forest_front n ns h =
    let x = length-take n.below ns in
    let y = length-drop n.below ns in
    record {
      within = h.0;
      below = forest_enough (length ns) (length (take n.below ns)) (take n.below ns) (omega arith) (omega arith) h.1;
      next = forest_enough (length ns) (length (drop n.below ns)) (drop n.below ns) (omega arith) (omega arith) h.2;
    }

pub forest_of_front : (n : Node) (ns : List Node) → Front n ns → IsForest (n ∷ ns)
unfolding IsForestWithin
forest_of_front n ns h =
    let x = length-take n.below ns in
    let y = length-drop n.below ns in
    (h.within, forest_enough (length (take n.below ns)) (length ns) (take n.below ns) (omega arith) (omega arith) h.below, forest_enough (length (drop n.below ns)) (length ns) (drop n.below ns) (omega arith) (omega arith) h.next)

-- ---- a branch
pub mul-one : (z : ℤ) → z *ℤ pos 1 ≡ z
mul-one z = *ℤ_comm z (pos 1) ∙ one-mul_ℤ z

pub sum_swap : (m n : ℕ) → m + n ≡ n + m
sum_swap m n = omega arith

pub value_branch : (a : ℕ → ℤ) (n : Node) (ts : List Term) → value_of a (branch_terms n ts) ≡ choose (a n.part.var) n.part.exp *ℤ (value_of a ts +ℤ n.coefficient)
unfolding value_of monomial_value
value_branch a n ts = value-under a n.part (own_term n ∷ ts) ∙ ap (λ z. choose (a n.part.var) n.part.exp *ℤ z) (ap (λ z. z +ℤ value_of a ts) (mul-one n.coefficient) ∙ +ℤ_comm n.coefficient (value_of a ts))

pub magnitude_branch : (a : ℕ → ℤ) (n : Node) (ts : List Term) → magnitude_of a (branch_terms n ts) ≡ unsigned_abs (choose (a n.part.var) n.part.exp) * (magnitude_of a ts + unsigned_abs n.coefficient)
unfolding magnitude_of monomial_value
magnitude_branch a n ts = magnitude-under a n.part (own_term n ∷ ts) ∙ ap (λ z. unsigned_abs (choose (a n.part.var) n.part.exp) * z) (ap (λ z. unsigned_abs z + magnitude_of a ts) (mul-one n.coefficient) ∙ sum_swap (unsigned_abs n.coefficient) (magnitude_of a ts))

none : (m : ℕ) → 0 * m ≡ 0
none m = omega arith

pub zero_branch : (a : ℕ → ℤ) (n : Node) (ts : List Term) (f : ℤ) → f ≡ choose (a n.part.var) n.part.exp → f ≡ pos 0
    → (pos 0 ≡ value_of a (branch_terms n ts)) × (0 ≡ magnitude_of a (branch_terms n ts)) × IsWeighed record { value = pos 0; magnitude = 0 }
zero_branch a n ts f e z =
    let x = sym e ∙ z in (
      sym (value_branch a n ts ∙ ap (λ y. y *ℤ (value_of a ts +ℤ n.coefficient)) x ∙ zero-*ℤ (value_of a ts +ℤ n.coefficient)),
      sym (magnitude_branch a n ts ∙ ap (λ y. unsigned_abs y * (magnitude_of a ts + unsigned_abs n.coefficient)) x ∙ none (magnitude_of a ts + unsigned_abs n.coefficient)),
      record { bounded = omega arith; within = omega arith },
    )

one_or_more : (z : ℤ) → z ≢ pos 0 → 1 ≤ unsigned_abs z
one_or_more (pos zero) h = absurd (h refl)
one_or_more (pos (suc n)) h = omega arith
one_or_more (negsuc n) h = omega arith

no_less : (m n k : ℕ) → m ≤ n → 1 ≤ k → m ≤ k * n
no_less m n zero l h = absurd (omega arith)
no_less m n (suc k) l h = omega arith

-- a factor other than 0 makes no magnitude less
pub branch_overflows : (a : ℕ → ℤ) (n : Node) (ts : List Term) (f z : ℤ) (m : ℕ) → f ≡ choose (a n.part.var) n.part.exp → f ≢ pos 0 → m ≡ magnitude_of a ts → z ≡ n.coefficient → 2 ^ 127 ≤ m + unsigned_abs z
    → 2 ^ 127 ≤ magnitude_of a (branch_terms n ts)
branch_overflows a n ts f z m e h i j o =
    let k : 1 ≤ unsigned_abs (choose (a n.part.var) n.part.exp) = subst (λ y. 1 ≤ unsigned_abs y) e (one_or_more f h) in
    let g : unsigned_abs z ≡ unsigned_abs n.coefficient = ap unsigned_abs j in
    subst (λ m. 2 ^ 127 ≤ m) (sym (magnitude_branch a n ts)) (no_less (2 ^ 127) (magnitude_of a ts + unsigned_abs n.coefficient) (unsigned_abs (choose (a n.part.var) n.part.exp)) (omega arith) k)

pub lower_overflows : (a : ℕ → ℤ) (n : Node) (ts : List Term) (f : ℤ) → f ≡ choose (a n.part.var) n.part.exp → f ≢ pos 0 → 2 ^ 127 ≤ magnitude_of a ts → 2 ^ 127 ≤ magnitude_of a (branch_terms n ts)
lower_overflows a n ts f e z h = branch_overflows a n ts f n.coefficient (magnitude_of a ts) e z refl refl (omega arith)

-- the product by the factor weighs the branch
pub branch_weighs : (a : ℕ → ℤ) (n : Node) (ts : List Term) (f y z : ℤ) (l w : Weighed) (r : Result Weighed Wide) → f ≡ y → y ≡ choose (a n.part.var) n.part.exp → z ≡ n.coefficient
    → (l.value ≡ value_of a ts) × (l.magnitude ≡ magnitude_of a ts) × IsWeighed l
    → (w.value ≡ l.value +ℤ z) × (w.magnitude ≡ l.magnitude + unsigned_abs z) × IsWeighed w
    → MatchResult r (λ p. (p.value ≡ f *ℤ w.value) × (p.magnitude ≡ unsigned_abs f * w.magnitude) × IsWeighed p) (λ _. 2 ^ 127 ≤ unsigned_abs f * w.magnitude)
    → Weighs a (branch_terms n ts) r
branch_weighs a n ts f y z l w r d e i j k h =
    let v : w.value ≡ value_of a ts +ℤ n.coefficient = k.0 ∙ ap (λ x. x +ℤ z) j.0 ∙ ap (λ x. value_of a ts +ℤ x) i in
    let m : w.magnitude ≡ magnitude_of a ts + unsigned_abs n.coefficient = k.1 ∙ ap (λ x. x + unsigned_abs z) j.1 ∙ ap (λ x. magnitude_of a ts + unsigned_abs x) i in
    let g : unsigned_abs f * w.magnitude ≡ magnitude_of a (branch_terms n ts) = ap (λ x. unsigned_abs f * x) m ∙ ap (λ x. unsigned_abs x * (magnitude_of a ts + unsigned_abs n.coefficient)) (d ∙ e) ∙ sym (magnitude_branch a n ts) in
    MatchResult-weaker r h
    (λ p q. (
      q.0 ∙ ap (λ x. f *ℤ x) v ∙ ap (λ x. x *ℤ (value_of a ts +ℤ n.coefficient)) (d ∙ e) ∙ sym (value_branch a n ts),
      q.1 ∙ g,
      q.2,
    ))
    (λ _ q. subst (λ x. 2 ^ 127 ≤ x) g q)
