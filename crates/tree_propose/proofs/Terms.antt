-- The terms of least trees: a leaf's is its variable, and a node's has lower variables alone.
--   e exponents · level · k j n types · i m numbers · t l r letters · s side · v variable
use Rattle.std.proofs.Common.{◌≡◌, ℕ, zero, suc, ◌<◌, ◌≤◌, ◌==◌, Bool, true, false, List, [], ◌∷◌, ◌++◌, refl, ap, ◌∙◌, arith, inl, inr, pos, if◌then◌else◌}
use Rattle.std.specs.Prelude.{IsTrue}
use Rattle.std.proofs.lemmas.Bool.{cases_eq, cases_lt}
use Rattle.std.proofs.lemmas.Bool.Decides.{nat_tests}
use Rattle.std.proofs.lemmas.List.{append-nil}
use Rattle.std.proofs.lemmas.List.Elements.{All-nil, All-cons, All-append}
use Rattle.binom_poly.specs.declared.part.Part.{Part}
use Rattle.binom_poly.specs.Times.{contribution}
use Rattle.binom_poly.specs.Dependence.{HasOnly, alone}
use Rattle.hall_table.specs.Shape.{is_lower}
use Rattle.dt_letters.specs.declared.side.Side.{Side}
use Rattle.dt_letters.specs.declared.side.Side.TheVariants as sides
use Rattle.dt_letters.specs.Letters.{Letter, leaf, node, kind_of}
use Rattle.dt_letters.specs.Allowed.{Exponents, IsRising, IsLetter, IsFrom}
use Rattle.dt_trees.specs.Polynomials.{variable_of, exponent_for, part_at, parts_below, term_of}
use Rattle.dt_trees.proofs.Variables.{exponent-node, exponent-own, exponent-other}

-- ---- lower types
-- each leaf's type is from the level on and below k
abbrev pub AreWithin : ℕ → ℕ → Letter → Type 0
AreWithin level k (leaf s j i) = (level ≤ j) × (j < k)
AreWithin level k (node l r j i) = AreWithin level k l × AreWithin level k r

pub within-letter : (e : Exponents) (level k : ℕ) (t : Letter) → IsRising e → IsLetter e t
    → IsFrom level t → kind_of t < k → AreWithin level k t
within-letter e level k (leaf s j i) up p f h = (f, h)
within-letter e level k (node l r j i) up p f h =
    let rise = up (kind_of r) (kind_of l) j p.2.joins.occurs in (
      within-letter e level k l up p.0 f.0 (omega (arith, rise.1, h)),
      within-letter e level k r up p.1 f.1 (omega (arith, rise.0, h)),
    )

lower-variable : (level k j v : ℕ) (s : Side) → v ≡ variable_of s j → (level ≤ j) × (j < k)
    → k ≤ 49 → is_lower level k v ≡ true
lower-variable level k j v sides.X e h few = grind (arith, nat_tests)
lower-variable level k j v sides.Y e h few = grind (arith, nat_tests)

exponent-lower : (level k : ℕ) (t : Letter) (v : ℕ) → k ≤ 49 → AreWithin level k t
    → 1 ≤ exponent_for t v → is_lower level k v ≡ true
exponent-lower level k (leaf s j i) v few h p = elim (cases_eq v (variable_of s j)) [
  | inl e ↦ lower-variable level k j v s e h few
  | inr ne ↦ absurd (omega (arith, p, exponent-other s j i v (omega (arith, h.1, few)) ne))
]
exponent-lower level k (node l r j i) v few h p = elim (cases_lt 0 (exponent_for l v)) [
  | inl a ↦ exponent-lower level k l v few h.0 a
  | inr b ↦ exponent-lower level k r v few h.1 (omega (arith, exponent-node l r j i v, b, p))
]

part-only : (test : ℕ → Bool) (v m : ℕ) → (1 ≤ m → test v ≡ true) → HasOnly test (part_at v m)
part-only test v m h = go (m == 0) refl
  where
    go : (b : Bool) → (m == 0) ≡ b
        → HasOnly test (if b then [] else record { var = v; exp = m } ∷ [])
    go true e = All-nil (λ (q : Part). IsTrue (test q.var))
    go false e =
        All-cons (λ (q : Part). IsTrue (test q.var)) record { var = v; exp = m } [] (h (grind (arith, e)))
        (All-nil (λ (q : Part). IsTrue (test q.var)))

pub parts-lower : (level k : ℕ) (t : Letter) (v : ℕ) → k ≤ 49 → AreWithin level k t
    → HasOnly (is_lower level k) (parts_below t v)
unfolding parts_below
parts-lower level k t zero few h = All-nil (λ (q : Part). IsTrue (is_lower level k q.var))
parts-lower level k t (suc v) few h =
    All-append (λ (q : Part). IsTrue (is_lower level k q.var)) (parts_below t v)
    (part_at v (exponent_for t v)) (parts-lower level k t v few h)
    (part-only (is_lower level k) v (exponent_for t v) (exponent-lower level k t v few h))

-- ---- leaves
parts-before : (s : Side) (k v : ℕ) → k ≤ 48 → v ≤ variable_of s k → parts_below (leaf s k 1) v ≡ []
unfolding parts_below
parts-before s k zero few le = refl
parts-before s k (suc v) few le =
    let none = exponent-other s k 1 v few (omega (arith, le)) in
    ap (λ (m : ℕ). parts_below (leaf s k 1) v ++ part_at v m) none
    ∙ append-nil (parts_below (leaf s k 1) v) ∙ parts-before s k v few (omega (arith, le))

pub parts-leaf : (s : Side) (k v : ℕ) → k ≤ 48 → variable_of s k < v
    → parts_below (leaf s k 1) v ≡ alone (variable_of s k)
unfolding parts_below
parts-leaf s k zero few lt = absurd (omega (arith, lt))
parts-leaf s k (suc v) few lt = elim (cases_lt (variable_of s k) v) [
  | inl a ↦
      let none = exponent-other s k 1 v few (omega (arith, a)) in
      ap (λ (m : ℕ). parts_below (leaf s k 1) v ++ part_at v m) none
      ∙ append-nil (parts_below (leaf s k 1) v) ∙ parts-leaf s k v few a
  | inr b ↦
      let same : v ≡ variable_of s k = omega (arith, lt, b) in
      ap (λ (ps : List Part). ps ++ part_at v (exponent_for (leaf s k 1) v))
      (parts-before s k v few (omega (arith, same)))
      ∙ ap (λ (w : ℕ). part_at w (exponent_for (leaf s k 1) w)) same
      ∙ ap (part_at (variable_of s k)) (exponent-own s k 1 few)
]

variable-small : (s : Side) (k : ℕ) → k ≤ 48 → variable_of s k < 128
variable-small sides.X k few = omega (arith, few)
variable-small sides.Y k few = omega (arith, few)

pub term-leaf : (e : Exponents) (s : Side) (k : ℕ) → k ≤ 48
    → term_of e (leaf s k 1) ≡ contribution (alone (variable_of s k)) (pos 1)
term-leaf e s k few =
    ap (λ (ms : List Part). contribution ms (pos 1)) (parts-leaf s k 128 few (variable-small s k few))
