-- The table from a higher level on: what it meets, and its values.
--   level level · k generator · m monomial · p polynomial · ps polynomials · t table · a point
use Rattle.std.proofs.Common.{◌≡◌, ℕ, ◌+◌, ◌-◌, ◌<◌, ◌≤◌, Bool, true, false, cond, ℤ, pos, List, [], ◌∷◌, length, get_or, take, drop, map, refl, sym, ap, ◌∙◌, subst, arith, inl, inr, length-drop}
use Rattle.std.specs.Prelude.{All, ◌&&◌}
use Rattle.std.proofs.lemmas.Bool.{cases_Bool, false≢true}
use Rattle.std.proofs.lemmas.List.{get_or-map, length-map, get_or-drop, take_all}
use Rattle.std.proofs.lemmas.List.Elements.{All-head, All-tail}
use lib.IntN.{◌+ℤ◌, ◌*ℤ◌, zero-*ℤ, *ℤ-zero}
use borrow.Author.Differences.{ints}
use Rattle.integer.specs.Binomial.{choose}
use Rattle.integer.proofs.Binomial.{choose_past}
use Rattle.binom_poly.specs.declared.part.Part.{Part}
use Rattle.binom_poly.specs.declared.term.Term.{Term}
use Rattle.binom_poly.specs.Monomial.{IsMonomialAbove}
use Rattle.binom_poly.specs.Polynomial.{monomial_value, value_of, IsTerm, IsPolynomial}
use Rattle.binom_poly.proofs.Sorting.{polynomial_terms}
use Rattle.hall_table.specs.Shape.{HasShape}
use Rattle.hall_table.specs.Tabled.{Tabled, IsTabled, last_of, poly_at}
use Rattle.hall_table.specs.Tail.{is_from, is_kept, from_level, tail_of, at_level}
use Rattle.hall_table.proofs.Tails.{HasShape-from_level, IsPolynomial-filter}

get_or-tail : (level d i : ℕ) (ps : List (List Term)) → d + i < length ps
    → get_or (map (from_level level) (drop d ps)) i [] ≡ from_level level (get_or ps (d + i) [])
get_or-tail level d i ps h =
    get_or-map (from_level level) (drop d ps) i [] [] (omega (arith, length-drop d ps))
    ∙ ap (from_level level) (get_or-drop d ps i [])

pub poly_at-tail_of : (t : Tabled) (level k : ℕ) → t.level ≤ level → level ≤ k → k < t.level + length t.polys
    → poly_at (tail_of t level) k ≡ from_level level (poly_at t k)
poly_at-tail_of t level k a b h =
    let e : level - t.level + (k - level) ≡ k - t.level = omega arith in
    get_or-tail level (level - t.level) (k - level) t.polys (omega arith)
    ∙ ap (λ (i : ℕ). from_level level (get_or t.polys i [])) e

length-tail : (level d : ℕ) (ps : List (List Term)) → length (map (from_level level) (drop d ps)) ≡ length ps - d
length-tail level d ps = length-map (drop d ps) (from_level level) ∙ length-drop d ps

pub last_of-tail_of : (t : Tabled) (level : ℕ) → IsTabled t → t.level ≤ level → level ≤ last_of t
    → last_of (tail_of t level) ≡ last_of t
last_of-tail_of t level h a b =
    let n = length-tail level (level - t.level) t.polys in
    let nonempty : 0 < length t.polys = h.nonempty in
    omega arith

pub IsTabled-tail_of : (t : Tabled) (level : ℕ) → IsTabled t → t.level ≤ level → level ≤ last_of t
    → IsTabled (tail_of t level)
IsTabled-tail_of t level h a b =
    let n = length-tail level (level - t.level) t.polys in
    let least : 1 ≤ t.level = h.least in
    let most : t.level + length t.polys ≤ 49 = h.most in
    let nonempty : 0 < length t.polys = h.nonempty in
    record {
      least = omega arith;
      nonempty = omega arith;
      most = omega arith;
      forms = λ i l.
          subst IsPolynomial (sym (get_or-tail level (level - t.level) i t.polys (omega arith)))
          (IsPolynomial-filter (λ (u : Term). is_kept level u.monomial) (get_or t.polys (level - t.level + i) [])
          (h.forms (level - t.level + i) (omega arith)));
      shapes = λ k from to.
          subst (HasShape level k) (sym (poly_at-tail_of t level k a from (omega arith)))
          (HasShape-from_level t.level level k (poly_at t k) from (omega arith) (h.shapes k (omega arith) (omega arith)));
    }

-- ---- values
kept_value : (level : ℕ) (a : ℕ → ℤ) (m : List Part) → is_kept level m ≡ true
    → monomial_value a m ≡ monomial_value (at_level level a) m
unfolding monomial_value
kept_value level a [] h = refl
kept_value level a (q ∷ m) h =
    elim (cases_Bool (is_from level q.var)) [
      | inl f ↦
          ap (λ z. choose (a q.var) q.exp *ℤ z) (kept_value level a m (sym (ap (λ (b : Bool). b && is_kept level m) f) ∙ h))
          ∙ ap (λ (b : Bool). choose (cond b (a q.var) (pos 0)) q.exp *ℤ monomial_value (at_level level a) m) (sym f)
      | inr f ↦ absurd (false≢true (sym (ap (λ (b : Bool). b && is_kept level m) f) ∙ h))
    ]

gone_value : (level low : ℕ) (a : ℕ → ℤ) (m : List Part) → IsMonomialAbove low m → is_kept level m ≡ false
    → monomial_value (at_level level a) m ≡ pos 0
unfolding monomial_value IsMonomialAbove
gone_value level low a [] f h = absurd (false≢true (sym h))
gone_value level low a (q ∷ m) f h =
    elim (cases_Bool (is_from level q.var)) [
      | inl b ↦
          ap (λ z. choose (at_level level a q.var) q.exp *ℤ z)
          (gone_value level q.var a m f.4 (sym (ap (λ (c : Bool). c && is_kept level m) b) ∙ h))
          ∙ *ℤ-zero (choose (at_level level a q.var) q.exp)
      | inr b ↦
          let some : 1 ≤ q.exp = f.2 in
          ap (λ (c : Bool). choose (cond c (a q.var) (pos 0)) q.exp *ℤ monomial_value (at_level level a) m) b
          ∙ ap (λ z. z *ℤ monomial_value (at_level level a) m) (choose_past 0 q.exp (omega arith))
          ∙ zero-*ℤ (monomial_value (at_level level a) m)
    ]

value_of-kept : (level : ℕ) (a : ℕ → ℤ) (p : List Term) → All IsTerm p
    → value_of a (from_level level p) ≡ value_of (at_level level a) p
unfolding value_of
value_of-kept level a [] h = refl
value_of-kept level a (t ∷ ts) h =
    let rest = value_of-kept level a ts (All-tail IsTerm t ts h) in
    elim (cases_Bool (is_kept level t.monomial)) [
      | inl k ↦
          ap (λ (b : Bool). value_of a (cond b (t ∷ from_level level ts) (from_level level ts))) k
          ∙ ap (λ z. t.coefficient *ℤ z +ℤ value_of a (from_level level ts)) (kept_value level a t.monomial k)
          ∙ ap (λ z. t.coefficient *ℤ monomial_value (at_level level a) t.monomial +ℤ z) rest
      | inr k ↦
          ap (λ (b : Bool). value_of a (cond b (t ∷ from_level level ts) (from_level level ts))) k
          ∙ rest
          ∙ nothing (t.coefficient *ℤ monomial_value (at_level level a) t.monomial) (value_of (at_level level a) ts)
          (ap (λ z. t.coefficient *ℤ z) (gone_value level 0 a t.monomial (All-head IsTerm t ts h).monomial k) ∙ *ℤ-zero t.coefficient)
    ]
  where
    nothing : (x y : ℤ) → x ≡ pos 0 → y ≡ x +ℤ y
    nothing x y e = omega (arith, ints)

pub value_of-from_level : (level : ℕ) (a : ℕ → ℤ) (p : List Term) → IsPolynomial p
    → value_of a (from_level level p) ≡ value_of (at_level level a) p
value_of-from_level level a p h = value_of-kept level a p (polynomial_terms p h)

pub value_of-tail_of : (t : Tabled) (level k : ℕ) (a : ℕ → ℤ) → IsTabled t → t.level ≤ level → level ≤ k → k ≤ last_of t
    → value_of a (poly_at (tail_of t level) k) ≡ value_of (at_level level a) (poly_at t k)
value_of-tail_of t level k a h from low to =
    let nonempty : 0 < length t.polys = h.nonempty in
    ap (value_of a) (poly_at-tail_of t level k from low (omega arith))
    ∙ value_of-from_level level a (poly_at t k) (h.forms (k - t.level) (omega arith))

pub tail_is : (t : Tabled) (level i : ℕ) (items polys : List (List Term))
    → polys ≡ map (from_level level) (take i items) → length items ≤ i → items ≡ drop (level - t.level) t.polys
    → tail_of t level ≡ record { level = level; polys = polys }
tail_is t level i items polys e l f =
    ap (λ (ps : List (List Term)). let r : Tabled = record { level = level; polys = ps } in r)
    (sym (e ∙ ap (map (from_level level)) (take_all i items l ∙ f)))

-- the polynomials that the loop over the later ones made
pub tail_made : (t s : Tabled) (level i : ℕ) (now polys : List (List Term)) → t ≡ s → now ≡ t.polys
    → polys ≡ map (from_level level) (take i (take (length now - (level - t.level)) (drop (level - t.level) now)))
    → length (take (length now - (level - t.level)) (drop (level - t.level) now)) ≤ i
    → tail_of s level ≡ record { level = level; polys = polys }
tail_made t s level i now polys v n e l =
    let d = level - t.level in
    subst (λ (u : Tabled). tail_of u level ≡ record { level = level; polys = polys }) v
    (tail_is t level i (take (length now - d) (drop d now)) polys e l
    (take_all (length now - d) (drop d now) (omega (arith, length-drop d now)) ∙ ap (drop d) n))
