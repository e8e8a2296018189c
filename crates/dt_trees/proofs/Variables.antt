-- Exponents of variables in trees, and monomials.
--   e exponents · n count · t a l r letters · s u side · k m types · i number · v w variables · ps parts · p part
use Rattle.std.proofs.Common.{◌≡◌, ◌≢◌, ℕ, zero, suc, ◌+◌, ◌-◌, ◌*◌, ◌<◌, ◌≤◌, ◌==◌, ◌&&◌, nat_lt, nat_le, max, List, [], ◌∷◌, ◌++◌, refl, sym, ap, ◌∙◌, subst, arith, inl, inr, ◌⊎◌, Bool, true, false, if◌then◌else◌, mod-eq_of_lt, add-one}
use native.Mathlib.Nat.{add-mod_left}
use Rattle.std.proofs.lemmas.Bool.{cases_lt}
use Rattle.std.proofs.lemmas.List.{append-nil}
use Rattle.binom_poly.specs.declared.part.Part.{Part}
use Rattle.binom_poly.specs.Variable.{side, generator_of, exponent_limit}
use Rattle.binom_poly.specs.Monomial.{IsVariable, IsMonomial, IsMonomialAbove}
use Rattle.binom_poly.specs.Weight.{HasLargePart}
use Rattle.dt_letters.specs.declared.side.Side.{Side}
use Rattle.dt_letters.specs.declared.side.Side.TheVariants as sides
use Rattle.dt_letters.specs.Letters.{Letter, leaf, node, kind_of}
use Rattle.dt_letters.specs.Order.{rank_of}
use Rattle.dt_letters.specs.Allowed.{Exponents, IsRising, IsLetter, IsFrom}
use Rattle.dt_letters.specs.Terms.{exponent_at}
use Rattle.dt_trees.specs.Polynomials.{HasTypes, variable_of, exponent_for, part_at, parts_below}

-- types

pub types-over : (e : Exponents) (n : ℕ) (t : Letter) → IsRising e → IsLetter e t → IsFrom 1 t
    → kind_of t ≤ n → HasTypes n t
types-over e n (leaf s k i) up l f h = (f, h)
types-over e n (node l r k i) up p f h =
    let rise = up (kind_of r) (kind_of l) k p.2.joins.occurs in
    (types-over e n l up p.0 f.0 (omega (arith, rise.1, h)), types-over e n r up p.1 f.1 (omega (arith, rise.0, h)))

pub types-more : (n m : ℕ) (t : Letter) → n ≤ m → HasTypes n t → HasTypes m t
types-more n m (leaf s k i) le h = (h.0, omega (arith, h.1, le))
types-more n m (node l r k i) le h = (types-more n m l le h.0, types-more n m r le h.1)

-- exponents

bool_cases : (b : Bool) → (b ≡ true) ⊎ (b ≡ false)
bool_cases true = inl refl
bool_cases false = inr refl

own-type : (b c : Bool) (k m i n : ℕ) → c ≡ (k == m) → (1 ≤ m) × (m ≤ n)
    → 1 ≤ (if b && c then i else 0) → (1 ≤ k) × (k ≤ n)
own-type true true k m i n e h p = let same : k ≡ m = grind (arith, e) in (omega (arith, same, h.0), omega (arith, same, h.1))
own-type true false k m i n e h p = absurd (omega (arith, p))
own-type false c k m i n e h p = absurd (omega (arith, p))

exponent-type : (n : ℕ) (t : Letter) (s : Side) (k : ℕ) → HasTypes n t → 1 ≤ exponent_at t s k
    → (1 ≤ k) × (k ≤ n)
exponent-type n (leaf u m i) s k h p = own-type (rank_of s == rank_of u) (k == m) k m i n refl h p
exponent-type n (node l r m i) s k h p = elim (cases_lt 0 (exponent_at l s k)) [
  | inl a ↦ exponent-type n l s k h.0 a
  | inr b ↦ exponent-type n r s k h.1 (omega (arith, p, b))
]

is-variable : (v k : ℕ) → generator_of v ≡ k → 1 ≤ k → k ≤ 48 → v < 2 * side → IsVariable v
is-variable v k g low high lt =
    let x : nat_lt 0 (generator_of v) ≡ true = grind (arith, g, low) in
    let y : nat_le (generator_of v) 48 ≡ true = grind (arith, g, high) in
    let z : nat_lt v 192 ≡ true = grind (arith, lt) in
    rw (x, y, z) refl

variable-low : (v : ℕ) → (1 ≤ v) × (v ≤ 48) → IsVariable v
variable-low v h =
    is-variable v v (mod-eq_of_lt (omega (arith, h.1))) h.0 h.1 (omega (arith, h.1))

variable-high : (v : ℕ) → side ≤ v → v < 2 * side → (1 ≤ v - side) × (v - side ≤ 48) → IsVariable v
variable-high v a b h =
    let e : v ≡ side + (v - side) = omega (arith, a) in
    let g : generator_of v ≡ v - side =
    ap generator_of e ∙ add-mod_left side (v - side) ∙ mod-eq_of_lt (omega (arith, h.1)) in
    is-variable v (v - side) g h.0 h.1 b

pub exponent-variable : (t : Letter) (v : ℕ) → HasTypes 48 t → v < 2 * side → 1 ≤ exponent_for t v
    → IsVariable v × (1 ≤ v)
exponent-variable t v h lt p = elim (bool_cases (nat_lt v side)) [
  | inl e ↦
      let q : 1 ≤ exponent_at t sides.X v =
      subst (λ (b : Bool). 1 ≤ (if b then exponent_at t sides.X v else exponent_at t sides.Y (v - side))) e p in
      let k = exponent-type 48 t sides.X v h q in (variable-low v k, k.0)
  | inr e ↦
      let q : 1 ≤ exponent_at t sides.Y (v - side) =
      subst (λ (b : Bool). 1 ≤ (if b then exponent_at t sides.X v else exponent_at t sides.Y (v - side))) e p in
      let k = exponent-type 48 t sides.Y (v - side) h q in
      let high : side ≤ v = grind (arith, e) in
      (variable-high v high lt k, omega (arith, k.0))
]

choice-max : (b : Bool) (x y z w : ℕ)
    → (if b then max 0 (max x y) else max 0 (max z w)) ≡ max (if b then x else z) (if b then y else w)
choice-max true x y z w = omega arith
choice-max false x y z w = omega arith

pub exponent-node : (l r : Letter) (k i v : ℕ)
    → exponent_for (node l r k i) v ≡ max (exponent_for l v) (exponent_for r v)
exponent-node l r k i v =
    choice-max (nat_lt v side) (exponent_at l sides.X v) (exponent_at r sides.X v)
    (exponent_at l sides.Y (v - side)) (exponent_at r sides.Y (v - side))

pub exponent-own : (s : Side) (k i : ℕ) → k ≤ 48 → exponent_for (leaf s k i) (variable_of s k) ≡ i
exponent-own sides.X k i h =
    let a : nat_lt k side ≡ true = grind (arith, h) in
    let b : (k == k) ≡ true = grind arith in
    rw (a, b) refl
exponent-own sides.Y k i h =
    let a : nat_lt (side + k) side ≡ false = grind arith in
    let b : ((side + k - side) == k) ≡ true = grind arith in
    rw (a, b) refl

pub exponent-other : (s : Side) (k i v : ℕ) → k ≤ 48 → v ≢ variable_of s k → exponent_for (leaf s k i) v ≡ 0
exponent-other sides.X k i v h ne =
    let b : (v == k) ≡ false = grind (arith, ne) in
    elim (bool_cases (nat_lt v side)) [ inl e ↦ rw (e, b) refl | inr e ↦ rw e refl ]
exponent-other sides.Y k i v h ne = elim (bool_cases (nat_lt v side)) [
  | inl e ↦ rw e refl
  | inr e ↦
      let b : ((v - side) == k) ≡ false = grind (arith, e, ne) in
      rw (e, b) refl
]

-- monomials

abbrev AreBelow : ℕ → List Part → Type 0
AreBelow v [] = Unit {0}
AreBelow v (p ∷ ps) = (p.var < v) × AreBelow v ps

below-more : (v w : ℕ) (ps : List Part) → v ≤ w → AreBelow v ps → AreBelow w ps
below-more v w [] le h = tt
below-more v w (p ∷ ps) le h = (omega (arith, h.0, le), below-more v w ps le h.1)

below-push : (v : ℕ) (ps : List Part) (p : Part) → AreBelow v ps → p.var < v → AreBelow v (ps ++ p ∷ [])
below-push v [] p h lt = (lt, tt)
below-push v (q ∷ ps) p h lt = (h.0, below-push v ps p h.1 lt)

monomial-push : (low : ℕ) (ps : List Part) (p : Part) → IsMonomialAbove low ps → AreBelow p.var ps
    → low < p.var → IsVariable p.var → 1 ≤ p.exp → p.exp ≤ exponent_limit → IsMonomialAbove low (ps ++ p ∷ [])
unfolding IsMonomialAbove
monomial-push low [] p h b lt v one le = (lt, v, one, le, tt)
monomial-push low (q ∷ ps) p h b lt v one le =
    (h.0, h.1, h.2, h.3, monomial-push q.var ps p h.4 b.1 b.0 v one le)

monomial-nil : IsMonomialAbove 0 []
unfolding IsMonomialAbove
monomial-nil = tt

pub parts-none : (t : Letter) → parts_below t 0 ≡ []
unfolding parts_below
parts-none t = refl

pub parts-next : (t : Letter) (v : ℕ) → parts_below t (v + 1) ≡ parts_below t v ++ part_at v (exponent_for t v)
unfolding parts_below
parts-next t v = rw add-one refl

abbrev AreForm : ℕ → List Part → Type 0
AreForm v ps = IsMonomialAbove 0 ps × AreBelow v ps

form-next : (v m : ℕ) (ps : List Part) → AreForm v ps → (1 ≤ m → IsVariable v × (1 ≤ v)) → m ≤ exponent_limit
    → AreForm (suc v) (ps ++ part_at v m)
form-next v m ps before is fits = go (m == 0) refl
  where
    go : (b : Bool) → (m == 0) ≡ b → AreForm (suc v) (ps ++ (if b then [] else record { var = v; exp = m } ∷ []))
    go true e = (
      subst (IsMonomialAbove 0) (sym (append-nil ps)) before.0,
      subst (AreBelow (suc v)) (sym (append-nil ps)) (below-more v (suc v) ps (omega arith) before.1),
    )
    go false e =
        let one : 1 ≤ m = grind (arith, e) in
        let here = is one in (
          monomial-push 0 ps (record { var = v; exp = m }) before.0 before.1 (omega (arith, here.1)) here.0 one fits,
          below-push (suc v) ps (record { var = v; exp = m }) (below-more v (suc v) ps (omega arith) before.1)
              (omega arith),
        )

parts-form : (t : Letter) (v : ℕ) → HasTypes 48 t → v ≤ 2 * side
    → ((w : ℕ) → w < v → exponent_for t w ≤ exponent_limit) → AreForm v (parts_below t v)
unfolding parts_below
parts-form t zero h size fits = (monomial-nil, tt)
parts-form t (suc v) h size fits =
    form-next v (exponent_for t v) (parts_below t v)
    (parts-form t v h (omega (arith, size)) (λ w lt. fits w (omega (arith, lt))))
    (exponent-variable t v h (omega (arith, size))) (fits v (omega arith))

pub monomial-form : (t : Letter) → HasTypes 48 t
    → ((w : ℕ) → w < 2 * side → exponent_for t w ≤ exponent_limit) → IsMonomial (parts_below t (2 * side))
monomial-form t h fits = (parts-form t (2 * side) h (omega arith) fits).0

pub monomial-small : (low : ℕ) (ps : List Part) → IsMonomialAbove low ps → HasLargePart ps → ⊥
unfolding IsMonomialAbove
monomial-small low [] h p = p
monomial-small low (q ∷ ps) h (inl p) = absurd (omega (arith, h.3, p))
monomial-small low (q ∷ ps) h (inr p) = monomial-small q.var ps h.4 p

large-left : (ps qs : List Part) → HasLargePart ps → HasLargePart (ps ++ qs)
large-left [] qs h = absurd h
large-left (p ∷ ps) qs (inl h) = inl h
large-left (p ∷ ps) qs (inr h) = inr (large-left ps qs h)

large-right : (ps qs : List Part) → HasLargePart qs → HasLargePart (ps ++ qs)
large-right [] qs h = h
large-right (p ∷ ps) qs h = inr (large-right ps qs h)

large-part : (v m : ℕ) → exponent_limit < m → HasLargePart (part_at v m)
large-part v m h =
    let e : (m == 0) ≡ false = grind (arith, h) in
    subst (λ (b : Bool). HasLargePart (if b then [] else record { var = v; exp = m } ∷ [])) (sym e) (inl h)

pub monomial-large : (t : Letter) (w v : ℕ) → w < v → exponent_limit < exponent_for t w
    → HasLargePart (parts_below t v)
unfolding parts_below
monomial-large t w zero lt h = absurd (omega (arith, lt))
monomial-large t w (suc v) lt h = elim (cases_lt w v) [
  | inl a ↦ large-left (parts_below t v) (part_at v (exponent_for t v)) (monomial-large t w v a h)
  | inr b ↦
      let same : w ≡ v = omega (arith, lt, b) in
      large-right (parts_below t v) (part_at v (exponent_for t v))
      (large-part v (exponent_for t v) (subst (λ (x : ℕ). exponent_limit < exponent_for t x) same h))
]
