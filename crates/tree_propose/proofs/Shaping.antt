-- Tree polynomials that don't overflow have the shape of a table's.
--   e exponents · level · k n types · i m numbers · t l r letters · s side · ts rest trees · a point
use Rattle.std.proofs.Common.{◌≡◌, ℕ, zero, suc, ◌-◌, ◌<◌, ◌≤◌, ◌^◌, Bool, true, false, List, [], ◌∷◌, ◌++◌, map, refl, sym, ap, ◌∙◌, subst, arith, inl, inr, pos, if◌then◌else◌}
use Rattle.std.specs.Prelude.{All, nat_le}
use Rattle.std.proofs.lemmas.Bool.{cases_lt}
use Rattle.std.proofs.lemmas.List.Elements.{All-nil, All-cons, All-head, All-tail}
use lib.IntN.{ℤ, ◌+ℤ◌}
use Rattle.binom_poly.specs.declared.term.Term.{Term}
use Rattle.binom_poly.specs.Variable.{y_of, exponent_limit}
use Rattle.binom_poly.specs.Polynomial.{IsPolynomial, value_of}
use Rattle.binom_poly.specs.Sums.{AllMonomials}
use Rattle.binom_poly.specs.Collected.{var_terms}
use Rattle.binom_poly.specs.Weight.{weight, HasLargePart, HasLargeExponent}
use Rattle.binom_poly.specs.Dependence.{HasOnly}
use Rattle.binom_poly.proofs.Times.{value-append}
use Rattle.binom_poly.proofs.Canonical.{value-var_terms}
use Rattle.binom_poly.proofs.Collecting.{value-collected, polynomial-collected}
use Rattle.hall_table.specs.Shape.{HasShape, is_lower}
use Rattle.hall_table.proofs.OfShape.{HasShape-points}
use Rattle.dt_letters.specs.declared.side.Side.{Side}
use Rattle.dt_letters.specs.declared.side.Side.TheVariants as sides
use Rattle.dt_letters.specs.Letters.{Letter, leaf, node, kind_of, leaves}
use Rattle.dt_letters.specs.Allowed.{Exponents, IsRising, IsLetter, IsFrom}
use Rattle.dt_letters.specs.Least.{IsLeast}
use Rattle.dt_letters.specs.Listing.{Grew, each, grown, is_zero, joined, places, trees, upto, IsIn, AreOnce}
use Rattle.dt_letters.proofs.Trees.{lists_least_trees}
use Rattle.dt_trees.specs.Polynomials.{HasTypes, IsOver, exponent_for, monomial_of, term_of, terms_of, TreesOverflow, poly_of}
use Rattle.dt_trees.proofs.Variables.{types-over, monomial-form, monomial-large}
use Rattle.dt_trees.proofs.Permuted.{all-of}
use Rattle.dt_trees.proofs.Taken.{trees-over}
use Rattle.tree_propose.proofs.Terms.{AreWithin, within-letter, parts-lower, term-leaf}
use Rattle.tree_propose.proofs.Agreeing.{value_of-agree}

-- ---- the leaves come first
ways_first : (b : Bool) (k : ℕ) (ws : List Grew) → b ≡ true
    → map (λ w. w.tree)
    ((if b then places (leaves sides.X k) (pos 0) [] ++ places (leaves sides.Y k) (pos 0) [] else []) ++ ws)
    ≡ leaf sides.X k 1 ∷ leaf sides.Y k 1 ∷ map (λ w. w.tree) ws
ways_first true k ws h = refl
ways_first false k ws h = absurd (cc)

pub trees-first : (e : Exponents) (level k : ℕ) → 1 ≤ k → level ≤ k
    → (rest : List Letter) × (trees e level k ≡ leaf sides.X k 1 ∷ leaf sides.Y k 1 ∷ rest)
trees-first e level zero one le = absurd (omega (arith, one))
trees-first e level (suc n) one le =
    let k = suc n in
    let ws = each (λ p. each (λ q.
    if is_zero (e q p k) then []
    else each (λ left. each (λ right. joined e k (e q p k) right.tree right.list)
    (grown e level n (left.tree ∷ left.list) q)) (grown e level n [] p))
    (upto (p - 1))) (upto (k - 1)) in
    (map (λ w. w.tree) ws, ways_first (nat_le level k) k ws (grind (arith, le)))

-- ---- the others are nodes
first-number : (s : Side) (k i : ℕ) → IsLeast (leaf s k i) → leaf s k i ≡ leaf s k 1
first-number s k i h =
    let (m, occurs) = h (leaves s k) in
    let own = (occurs i).0 (inl refl) in
    elim ((occurs 1).1 (omega arith, omega (arith, own.0, own.1))) [
      | inl e ↦ sym e
      | inr none ↦ absurd none
    ]

leaf-in : (s : Side) (k : ℕ) (rest : List Letter)
    → AreOnce (leaf sides.X k 1 ∷ leaf sides.Y k 1 ∷ rest) → IsIn (leaf s k 1) rest → ⊥
leaf-in sides.X k rest once h = once.0 (inr h)
leaf-in sides.Y k rest once h = once.1.0 h

module _ (e : Exponents) (level k : ℕ) (rest : List Letter) (up : IsRising e) where
  node-within : (t : Letter) → IsIn t rest
      → AreOnce (leaf sides.X k 1 ∷ leaf sides.Y k 1 ∷ rest)
      → IsLetter e t × IsFrom level t × IsLeast t × (kind_of t ≡ k) → AreWithin level k t
  node-within (leaf s j i) h once is =
      let same : leaf s j i ≡ leaf s k 1 = first-number s j i is.2 ∙ ap (λ (x : ℕ). leaf s x 1) is.3 in
      absurd (leaf-in s k rest once (subst (λ (x : Letter). IsIn x rest) same h))
  node-within (node l r j i) h once is =
      let rise = up (kind_of r) (kind_of l) j is.0.2.joins.occurs in (
        within-letter e level k l up is.0.0 is.1.0 (omega (arith, rise.1, is.3)),
        within-letter e level k r up is.0.1 is.1.1 (omega (arith, rise.0, is.3)),
      )

  rest-within : 1 ≤ level → trees e level k ≡ leaf sides.X k 1 ∷ leaf sides.Y k 1 ∷ rest
      → All (AreWithin level k) rest
  rest-within one split =
      let least = lists_least_trees e level k up one in
      let once = subst (λ (ts : List Letter). AreOnce ts) split least.1 in
      all-of (AreWithin level k) rest
      (λ t h. node-within t h once ((least.0 t).0
      (subst (λ (ts : List Letter). IsIn t ts) (sym split) (inr (inr h)))))

terms-lower : (e : Exponents) (level k : ℕ) (ts : List Letter) → k ≤ 49
    → All (AreWithin level k) ts → All (λ c. HasOnly (is_lower level k) c.monomial) (terms_of e ts)
terms-lower e level k [] few h = All-nil (λ (c : Term). HasOnly (is_lower level k) c.monomial)
terms-lower e level k (t ∷ ts) few h =
    All-cons (λ (c : Term). HasOnly (is_lower level k) c.monomial) (term_of e t) (terms_of e ts)
    (parts-lower level k t 128 few (All-head (AreWithin level k) t ts h))
    (terms-lower e level k ts few (All-tail (AreWithin level k) t ts h))

-- ---- the values
value-split : (e : Exponents) (k : ℕ) (rest : List Letter) (a : ℕ → ℤ) → k ≤ 48
    → value_of a (terms_of e (leaf sides.X k 1 ∷ leaf sides.Y k 1 ∷ rest))
    ≡ (a k +ℤ a (y_of k)) +ℤ value_of a (terms_of e rest)
value-split e k rest a few =
    ap (λ (c : Term). value_of a (c ∷ term_of e (leaf sides.Y k 1) ∷ terms_of e rest))
    (term-leaf e sides.X k few)
    ∙ ap (λ (c : Term). value_of a (var_terms k ++ c ∷ terms_of e rest)) (term-leaf e sides.Y k few)
    ∙ value-append a (var_terms k ++ var_terms (y_of k)) (terms_of e rest)
    ∙ ap (λ z. z +ℤ value_of a (terms_of e rest))
    (value-append a (var_terms k) (var_terms (y_of k))
    ∙ ap (λ z. z +ℤ value_of a (var_terms (y_of k))) (value-var_terms a k)
    ∙ ap (λ z. a k +ℤ z) (value-var_terms a (y_of k)))

-- ---- the form
fits-part : (t : Letter) → (HasLargePart (monomial_of t) → ⊥) → (w : ℕ) → w < 128
    → exponent_for t w ≤ exponent_limit
fits-part t h w lt = elim (cases_lt exponent_limit (exponent_for t w)) [
  | inl large ↦ absurd (h (monomial-large t w 128 lt large))
  | inr small ↦ small
]

monomials-terms : (e : Exponents) (ts : List Letter) → All (HasTypes 48) ts
    → (HasLargeExponent (terms_of e ts) → ⊥) → AllMonomials (terms_of e ts)
monomials-terms e [] h k = tt
monomials-terms e (t ∷ ts) h k = (
  monomial-form t (All-head (HasTypes 48) t ts h) (fits-part t (λ p. k (inl p))),
  monomials-terms e ts (All-tail (HasTypes 48) t ts h) (λ p. k (inr p)),
)

polynomial-poly_of : (e : Exponents) (level k : ℕ) → All (HasTypes 48) (trees e level k)
    → (TreesOverflow e (trees e level k) → ⊥) → IsPolynomial (poly_of e level k)
polynomial-poly_of e level k h fits =
    let cs = terms_of e (trees e level k) in
    polynomial-collected cs (monomials-terms e (trees e level k) h (λ p. fits (inr (inl p))))
    (λ ms. elim (cases_lt (weight ms cs) (2 ^ 127)) [
      | inl small ↦ small
      | inr large ↦ absurd (fits (inr (inr (ms, large))))
    ])

types-trees : (e : Exponents) (level k : ℕ) → IsRising e → 1 ≤ level → k ≤ 48
    → All (HasTypes 48) (trees e level k)
types-trees e level k up one few =
    all-over (trees e level k) (trees-over e level k 48 up one few)
  where
    all-over : (ts : List Letter) → All (IsOver e 48) ts → All (HasTypes 48) ts
    all-over [] h = All-nil (HasTypes 48)
    all-over (t ∷ ts) h =
        let is = All-head (IsOver e 48) t ts h in
        All-cons (HasTypes 48) t ts (types-over e 48 t up is.letter is.leaves is.kind)
        (all-over ts (All-tail (IsOver e 48) t ts h))

pub polynomial-tree : (e : Exponents) (level k : ℕ) → IsRising e → 1 ≤ level → k ≤ 48
    → (TreesOverflow e (trees e level k) → ⊥) → IsPolynomial (poly_of e level k)
polynomial-tree e level k up one few fits =
    polynomial-poly_of e level k (types-trees e level k up one few) fits

pub shape-tree : (e : Exponents) (level k : ℕ) → IsRising e → 1 ≤ level → level ≤ k → k ≤ 48
    → (TreesOverflow e (trees e level k) → ⊥) → HasShape level k (poly_of e level k)
shape-tree e level k up one le few fits =
    let (rest, split) = trees-first e level k (omega (arith, one, le)) le in
    HasShape-points level k (λ a. value_of a (terms_of e rest)) (poly_of e level k) few
    (polynomial-tree e level k up one few fits)
    (value_of-agree (is_lower level k) (terms_of e rest)
    (terms-lower e level k rest (omega (arith, few)) (rest-within e level k rest up one split)))
    (λ a. value-collected a (terms_of e (trees e level k))
    ∙ ap (λ (ts : List Letter). value_of a (terms_of e ts)) split ∙ value-split e k rest a few)
