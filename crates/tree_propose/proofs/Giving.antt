-- The polynomials of a level as a table, and when there is none.
--   e exponents · level · n count · k type · i place · p presentation
use Rattle.std.proofs.Common.{◌≡◌, ℕ, zero, suc, ◌+◌, ◌-◌, ◌<◌, ◌≤◌, Bool, false, [], ◌∷◌, length, get_or, refl, sym, ap, ◌∙◌, subst, arith, inl, inr, if◌then◌else◌, length-append}
use Rattle.std.specs.Prelude.{slice_index_or, Option, Some, None, MatchOption}
use Rattle.std.proofs.lemmas.Bool.{cases_Bool, cases_lt}
use Rattle.std.proofs.lemmas.List.{get_or_append_left, get_or-append_right}
use Rattle.binom_poly.specs.Polynomial.{IsPolynomial}
use Rattle.nil_pres.specs.Presented.{Presented, IsPresented}
use Rattle.hall_table.specs.Shape.{HasShape}
use Rattle.hall_table.specs.Tabled.{Tabled, AreShaped, IsTabled}
use Rattle.dt_letters.specs.Allowed.{Exponents, IsRising, exponents_of}
use Rattle.dt_letters.proofs.Presentations.{rising}
use Rattle.dt_trees.specs.Polynomials.{poly_of, polys_of, AnyPolyOverflows}
use Rattle.dt_trees.specs.Overflowing.{any_poly_overflows}
use Rattle.dt_trees.proofs.Overflowing.{tests_overflow}
use Rattle.tree_propose.specs.Giving.{types_from, AnyOverflows, any_overflows, tree_table}
use Rattle.tree_propose.proofs.Shaping.{polynomial-tree, shape-tree}

-- ---- options
pub at_none : {A : Type 0} (P : Type 0) (Q : A → Type 0) (o : Option A) → o ≡ None → MatchOption o P Q → P
at_none P Q o e h = subst (λ (x : Option _). MatchOption x P Q) e h

pub at_some : {A : Type 0} (P : Type 0) (Q : A → Type 0) (o : Option A) (a : A) → o ≡ Some a
    → MatchOption o P Q → Q a
at_some P Q o a e h = subst (λ (x : Option _). MatchOption x P Q) e h

-- ---- the list
pub length-polys_of : (e : Exponents) (level n : ℕ) → length (polys_of e level n) ≡ n
unfolding polys_of
length-polys_of e level zero = refl
length-polys_of e level (suc n) =
    length-append (polys_of e level n) (poly_of e level (level + n) ∷ [])
    ∙ omega (arith, length-polys_of e level n)

pub polys_of-at : (e : Exponents) (level n i : ℕ) → i < n
    → slice_index_or (polys_of e level n) i [] ≡ poly_of e level (level + i)
unfolding polys_of
polys_of-at e level zero i lt = absurd (omega (arith, lt))
polys_of-at e level (suc n) i lt =
    let ps = polys_of e level n in
    let last = poly_of e level (level + n) ∷ [] in
    let size : length ps ≡ n = length-polys_of e level n in
    elim (cases_lt i n) [
      | inl a ↦ get_or_append_left ps last [] i (omega (arith, size, a)) ∙ polys_of-at e level n i a
      | inr b ↦
          let same : n ≡ i = omega (arith, lt, b) in
          let none : i - n ≡ 0 = omega (arith, same) in
          get_or-append_right ps last n i [] size b
          ∙ ap (λ (j : ℕ). get_or last j []) none
          ∙ ap (λ (j : ℕ). poly_of e level (level + j)) same
    ]

-- ---- the table
module _ (e : Exponents) (level n : ℕ) (up : IsRising e) (one : 1 ≤ level) (few : level + n ≤ 49)
    (fits : AnyPolyOverflows e level n → ⊥) where
  pub shapes-polys_of : AreShaped level (polys_of e level n)
  shapes-polys_of k low high =
      let size = length-polys_of e level n in
      let i = k - level in
      let lt : i < n = omega (arith, size, low, high) in
      let same : level + i ≡ k = omega (arith, low) in
      subst (HasShape level k) (sym (polys_of-at e level n i lt))
      (subst (λ (j : ℕ). HasShape level j (poly_of e level (level + i))) same
      (shape-tree e level (level + i) up one (omega arith) (omega (arith, lt, few)) (λ h. fits (i, lt, h))))

  pub tabled : 1 ≤ n → IsTabled record { level = level; polys = polys_of e level n }
  tabled some =
      let size = length-polys_of e level n in
      record {
        least = one;
        nonempty = omega (arith, size, some);
        most = omega (arith, size, few);
        forms = λ i lt.
            let small : i < n = omega (arith, size, lt) in
            subst IsPolynomial (sym (polys_of-at e level n i small))
            (polynomial-tree e level (level + i) up one (omega (arith, small, few)) (λ h. fits (i, small, h)));
        shapes = shapes-polys_of;
      }

-- ---- none exactly where a polynomial overflows
pub tree_table-none : (p : Presented) (level : ℕ) → AnyOverflows p level → tree_table p level ≡ None
unfolding tree_table any_overflows
tree_table-none p level h =
    let e = exponents_of p in
    let n = types_from p level in
    ap (λ (b : Bool). if b then None else Some (let t : Tabled = record { level = level; polys = polys_of e level n } in t))
    ((tests_overflow.types e level n).1 h)

pub tree_table-some : (p : Presented) (level : ℕ) → (AnyOverflows p level → ⊥)
    → tree_table p level ≡ Some record { level = level; polys = polys_of (exponents_of p) level (types_from p level) }
unfolding tree_table any_overflows
tree_table-some p level h =
    let e = exponents_of p in
    let n = types_from p level in
    let fits : any_poly_overflows e level n ≡ false =
    elim (cases_Bool (any_poly_overflows e level n)) [
      | inl t ↦ absurd (h ((tests_overflow.types e level n).0 t))
      | inr f ↦ f
    ] in
    ap (λ (b : Bool). if b then None else Some (let t : Tabled = record { level = level; polys = polys_of e level n } in t))
    fits

abbrev IsGiven : Presented → ℕ → Option Tabled → Type 0
IsGiven p level o = MatchOption o (AnyOverflows p level) (λ t. IsTabled t
    × (t.level ≡ level) × (t.polys ≡ polys_of (exponents_of p) level (types_from p level))
    × (AnyOverflows p level → ⊥))

pub given : (p : Presented) (level : ℕ) → IsPresented p → 1 ≤ level → level ≤ length p.names
    → IsGiven p level (tree_table p level)
unfolding any_overflows
given p level h one le =
    let e = exponents_of p in
    let n = types_from p level in
    elim (cases_Bool (any_poly_overflows e level n)) [
      | inl t ↦
          let over = (tests_overflow.types e level n).0 t in
          subst (IsGiven p level) (sym (tree_table-none p level over)) over
      | inr f ↦
          let fits : AnyOverflows p level → ⊥ = λ o. absurd (cc (f, (tests_overflow.types e level n).1 o)) in
          subst (IsGiven p level) (sym (tree_table-some p level fits))
          (tabled e level n (rising p h) one (omega (arith, h.names.few, le)) fits (omega (arith, le)), refl, refl, fits)
    ]
