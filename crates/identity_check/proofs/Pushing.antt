-- Lists of variables that grow at their end, and points.
--   vs variables · low d the numbers of a list, d of them from low on · k j generators
use Rattle.std.proofs.Common.{◌≡◌, ◌≢◌, ℕ, zero, suc, ◌+◌, ◌-◌, ◌≤◌, ◌%◌, List, [], ◌∷◌, ◌++◌, map, refl, sym, ap, ◌∙◌, subst, arith, inl, inr, append_assoc, append-nil}
use Rattle.std.specs.Prelude.{All, ◌==◌}
use Rattle.std.proofs.Math.Nat.{add-mod_right, mod-eq_of_lt}
use Rattle.std.proofs.lemmas.Bool.{lt-ltb, le-leb, eq-eqb, ne_eqb, cases_lt, cases_Bool}
use Rattle.std.proofs.lemmas.List.Elements.{All-nil, All-cons, All-append}
use Rattle.nil_word.specs.Exponents.{numbers}
use Rattle.binom_poly.specs.declared.part.Part.{Part}
use Rattle.binom_poly.specs.Monomial.{IsVariable}
use Rattle.binom_poly.specs.Variable.{y_of}
use Rattle.hall_table.specs.Tabled.{Tabled, IsTabled, last_of}
use Rattle.identity_check.specs.Sides.{xs, ys, xs_above, other_ys, cleared}
use Rattle.identity_check.specs.Failures.{parts_of, point_of}
use Rattle.identity_check.proofs.Holding.{others}
use Rattle.identity_check.proofs.Agreeing.{bounds_of}
use Rattle.identity_check.proofs.Stretches.{numbers-append}

-- ---- points
pub parts_of-point_of : (ps : List Part) → parts_of (point_of ps) ≡ ps
parts_of-point_of [] = refl
parts_of-point_of (p ∷ ps) = ap (λ (qs : List Part). p ∷ qs) (parts_of-point_of ps)

-- ---- one more number
pub numbers-more : (low k : ℕ) → low ≤ k → numbers low (k + 1 - low) ≡ numbers low (k - low) ++ k ∷ []
numbers-more low k l =
    ap (λ (d : ℕ). numbers low d) (let e : k + 1 - low ≡ (k - low) + 1 = omega arith in e)
    ∙ numbers-append low (k - low) 1
    ∙ ap (λ (i : ℕ). numbers low (k - low) ++ i ∷ []) (let e : low + (k - low) ≡ k = omega arith in e)

pub numbers-none : (low : ℕ) → numbers low (low - low) ≡ []
numbers-none low = ap (λ (d : ℕ). numbers low d) (let e : low - low ≡ 0 = omega arith in e)

map-append : (f : ℕ → ℕ) (ks ms : List ℕ) → map f (ks ++ ms) ≡ map f ks ++ map f ms
map-append f [] ms = refl
map-append f (k ∷ ks) ms = ap (λ (vs : List ℕ). f k ∷ vs) (map-append f ks ms)

others-append : (j : ℕ) (ks ms : List ℕ) → others j (ks ++ ms) ≡ others j ks ++ others j ms
others-append j [] ms = refl
others-append j (k ∷ ks) ms =
    elim (cases_Bool (k == j)) [
      | inl e ↦ rw e (others-append j ks ms)
      | inr e ↦ rw e (ap (λ (vs : List ℕ). y_of k ∷ vs) (others-append j ks ms))
    ]

pushed : (vs ws new : List ℕ) (v : ℕ) → vs ≡ ws ++ new → vs ++ v ∷ [] ≡ ws ++ (new ++ v ∷ [])
pushed vs ws new v e = ap (λ (us : List ℕ). us ++ v ∷ []) e ∙ append_assoc ws new (v ∷ [])

pub push_x : (vs ws out : List ℕ) (low k : ℕ) → low ≤ k → vs ≡ ws ++ numbers low (k - low)
    → out ≡ vs ++ k ∷ [] → out ≡ ws ++ numbers low (k + 1 - low)
push_x vs ws out low k l e o =
    o ∙ pushed vs ws (numbers low (k - low)) k e
    ∙ ap (λ (ks : List ℕ). ws ++ ks) (sym (numbers-more low k l))

pub push_y : (vs ws out : List ℕ) (low k v : ℕ) → low ≤ k → v ≡ y_of k
    → vs ≡ ws ++ map y_of (numbers low (k - low)) → out ≡ vs ++ v ∷ []
    → out ≡ ws ++ map y_of (numbers low (k + 1 - low))
push_y vs ws out low k v l i e o =
    o ∙ pushed vs ws (map y_of (numbers low (k - low))) v e
    ∙ ap (λ (ks : List ℕ). ws ++ ks)
    (ap (λ (u : ℕ). map y_of (numbers low (k - low)) ++ u ∷ []) i
    ∙ sym (ap (map y_of) (numbers-more low k l) ∙ map-append y_of (numbers low (k - low)) (k ∷ [])))

others-more : (low k j : ℕ) → low ≤ k → others j (numbers low (k + 1 - low))
    ≡ others j (numbers low (k - low)) ++ others j (k ∷ [])
others-more low k j l =
    ap (others j) (numbers-more low k l) ∙ others-append j (numbers low (k - low)) (k ∷ [])

pub push_other : (vs ws out : List ℕ) (low k j v : ℕ) → low ≤ k → k ≢ j → v ≡ y_of k
    → vs ≡ ws ++ others j (numbers low (k - low)) → out ≡ vs ++ v ∷ []
    → out ≡ ws ++ others j (numbers low (k + 1 - low))
push_other vs ws out low k j v l n i e o =
    o ∙ pushed vs ws (others j (numbers low (k - low))) v e
    ∙ ap (λ (ks : List ℕ). ws ++ ks)
    (ap (λ (u : ℕ). others j (numbers low (k - low)) ++ u ∷ []) i
    ∙ sym (others-more low k j l
    ∙ ap (λ (us : List ℕ). others j (numbers low (k - low)) ++ us) (let e : others j (k ∷ []) ≡ y_of k ∷ [] = rw (ne_eqb k j n) refl in e)))

pub push_none : (vs ws : List ℕ) (low k j : ℕ) → low ≤ k → k ≡ j
    → vs ≡ ws ++ others j (numbers low (k - low)) → vs ≡ ws ++ others j (numbers low (k + 1 - low))
push_none vs ws low k j l d e =
    e ∙ ap (λ (ks : List ℕ). ws ++ ks)
    (sym (others-more low k j l
    ∙ ap (λ (us : List ℕ). others j (numbers low (k - low)) ++ us) (let e : others j (k ∷ []) ≡ [] = rw (eq-eqb k j d) refl in e)
    ∙ append-nil (others j (numbers low (k - low)))))

-- ---- variables
pub x_is : (v : ℕ) → 1 ≤ v → v ≤ 48 → IsVariable v
x_is v h k =
    let e : v % 64 ≡ v = mod-eq_of_lt (omega arith) in
    rw (e, lt-ltb 0 v (omega arith), le-leb v 48 k, lt-ltb v 192 (omega arith)) refl

pub y_is : (v : ℕ) → 1 ≤ v → v ≤ 48 → IsVariable (y_of v)
y_is v h k =
    let e : (64 + v) % 64 ≡ v =
    ap (λ (n : ℕ). n % 64) (let s : 64 + v ≡ v + 64 = omega arith in s)
    ∙ add-mod_right v 64 ∙ mod-eq_of_lt (omega arith) in
    rw (e, lt-ltb 0 v (omega arith), le-leb v 48 k, lt-ltb (64 + v) 192 (omega arith)) refl

pub x_variable : (t : Tabled) (k : ℕ) → IsTabled t → t.level ≤ k → k ≤ last_of t → IsVariable k
x_variable t k h l u =
    let b = bounds_of t h in
    x_is k (omega (arith, b.least)) (omega (arith, b.last))

pub y_variable : (t : Tabled) (k : ℕ) → IsTabled t → t.level ≤ k → k ≤ last_of t → IsVariable (y_of k)
y_variable t k h l u =
    let b = bounds_of t h in
    y_is k (omega (arith, b.least)) (omega (arith, b.last))

all_x : (low d : ℕ) → 1 ≤ low → low + d ≤ 49 → All IsVariable (numbers low d)
all_x low zero h k = All-nil IsVariable
all_x low (suc d) h k =
    All-cons IsVariable low (numbers (suc low) d) (x_is low h (omega arith))
    (all_x (suc low) d (omega arith) (omega arith))

all_y : (low d : ℕ) → 1 ≤ low → low + d ≤ 49 → All IsVariable (map y_of (numbers low d))
all_y low zero h k = All-nil IsVariable
all_y low (suc d) h k =
    All-cons IsVariable (y_of low) (map y_of (numbers (suc low) d)) (y_is low h (omega arith))
    (all_y (suc low) d (omega arith) (omega arith))

all_others : (j low d : ℕ) → 1 ≤ low → low + d ≤ 49 → All IsVariable (others j (numbers low d))
all_others j low zero h k = All-nil IsVariable
all_others j low (suc d) h k =
    let rest = all_others j (suc low) d (omega arith) (omega arith) in
    elim (cases_Bool (low == j)) [
      | inl e ↦ rw e rest
      | inr e ↦
          rw e
          (All-cons IsVariable (y_of low) (others j (numbers (suc low) d)) (y_is low h (omega arith)) rest)
    ]

pub variables-xs : (t : Tabled) → IsTabled t → All IsVariable (xs t)
variables-xs t h =
    let b = bounds_of t h in
    all_x t.level (suc (last_of t) - t.level) b.least (omega (arith, b.most, b.last))

pub variables-ys : (t : Tabled) → IsTabled t → All IsVariable (ys t)
variables-ys t h =
    let b = bounds_of t h in
    all_y t.level (suc (last_of t) - t.level) b.least (omega (arith, b.most, b.last))

pub variables-other_ys : (t : Tabled) (j : ℕ) → IsTabled t → All IsVariable (other_ys t j)
variables-other_ys t j h =
    let b = bounds_of t h in
    all_others j t.level (suc (last_of t) - t.level) b.least (omega (arith, b.most, b.last))

variables-above : (t : Tabled) (j : ℕ) → IsTabled t → All IsVariable (xs_above t j)
variables-above t j h =
    let b = bounds_of t h in
    elim (cases_lt (last_of t) (suc j)) [
      | inl l ↦ subst (λ (d : ℕ). All IsVariable (numbers (suc j) d))
          (let e : 0 ≡ suc (last_of t) - suc j = omega arith in e) (All-nil IsVariable)
      | inr g ↦ all_x (suc j) (suc (last_of t) - suc j) (omega arith) (omega (arith, b.last))
    ]

pub variables-cleared : (t : Tabled) (j : ℕ) → IsTabled t → All IsVariable (cleared t j)
variables-cleared t j h =
    All-append IsVariable (xs_above t j) (other_ys t j) (variables-above t j h)
    (variables-other_ys t j h)

-- ---- the lists of a table
pub made_xs : (t : Tabled) (vs new : List ℕ) (level last : ℕ) → new ≡ [] → level ≡ t.level
    → last ≡ last_of t → vs ≡ new ++ numbers level (last + 1 - level) → vs ≡ xs t
made_xs t vs new level last e f g h =
    h ∙ ap (λ (us : List ℕ). us ++ numbers level (last + 1 - level)) e
    ∙ ap (λ (i : ℕ). numbers i (last + 1 - i)) f
    ∙ ap (λ (d : ℕ). numbers t.level d)
    (let z : last + 1 - t.level ≡ suc (last_of t) - t.level = omega arith in z)

pub made_ys : (t : Tabled) (vs new : List ℕ) (level last : ℕ) → new ≡ [] → level ≡ t.level
    → last ≡ last_of t → vs ≡ new ++ map y_of (numbers level (last + 1 - level)) → vs ≡ ys t
made_ys t vs new level last e f g h =
    h ∙ ap (λ (us : List ℕ). us ++ map y_of (numbers level (last + 1 - level))) e
    ∙ ap (map y_of) (made_xs t (numbers level (last + 1 - level)) [] level last refl f g refl)

pub made_others : (t : Tabled) (j : ℕ) (vs new : List ℕ) (level last : ℕ) → level ≡ t.level
    → last ≡ last_of t → vs ≡ new ++ others j (numbers level (last + 1 - level))
    → vs ≡ new ++ other_ys t j
made_others t j vs new level last f g h =
    h ∙ ap (λ (ks : List ℕ). new ++ others j ks)
    (made_xs t (numbers level (last + 1 - level)) [] level last refl f g refl)

pub made_cleared : (t : Tabled) (j : ℕ) (vs mid new : List ℕ) (level last end : ℕ) → new ≡ []
    → level ≡ t.level → last ≡ last_of t → end ≡ last_of t
    → mid ≡ new ++ numbers (j + 1) (end + 1 - (j + 1))
    → vs ≡ mid ++ others j (numbers level (last + 1 - level)) → vs ≡ cleared t j
made_cleared t j vs mid new level last end e f g i h k =
    made_others t j vs mid level last f g k
    ∙ ap (λ (us : List ℕ). us ++ other_ys t j)
    (h ∙ ap (λ (us : List ℕ). us ++ numbers (j + 1) (end + 1 - (j + 1))) e
    ∙ ap (λ (m : ℕ). numbers m (end + 1 - m)) (let z : j + 1 ≡ suc j = omega arith in z)
    ∙ ap (λ (d : ℕ). numbers (suc j) d)
    (let z : end + 1 - suc j ≡ suc (last_of t) - suc j = omega arith in z))
