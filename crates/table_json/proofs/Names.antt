-- The texts of variables.
--   n generators · k generator · v w variables
use Rattle.std.proofs.Common.{◌≡◌, ℕ, ◌+◌, ◌-◌, ◌%◌, ◌≤◌, true, false, List, ◌∷◌, ◌⊎◌, inl, inr, refl, sym, ◌∙◌, ap, arith, eqb, ltb}
use Rattle.std.specs.Fmt.{decimal}
use Rattle.std.proofs.lemmas.Bool.{cases_lt}
use Rattle.std.proofs.lemmas.Bool.Decides.{nat_tests}
use Rattle.std.proofs.lemmas.Fmt.{decimal_injective}
use Rattle.binom_poly.specs.Text.{variable_text}
use Rattle.hall_table.specs.Shape.{is_lower}

-- a variable of n generators is x_k or y_k of one of them
pub side_of : (n v : ℕ) → n ≤ 48 → is_lower 1 (n + 1) v ≡ true
    → (k : ℕ) × (1 ≤ k) × (k ≤ n) × ((v ≡ k) ⊎ (v ≡ 64 + k))
side_of n v most h =
    elim (cases_lt v 64) [
      | inl l ↦ (v, grind (arith, nat_tests), grind (arith, nat_tests), inl refl)
      | inr g ↦ (v - 64, grind (arith, nat_tests), grind (arith, nat_tests), inr (omega arith))
    ]

pub lower_x : (n k : ℕ) → 1 ≤ k → k ≤ n → is_lower 1 (n + 1) k ≡ true
lower_x n k least most = grind (arith, nat_tests)

pub lower_y : (n k : ℕ) → 1 ≤ k → k ≤ n → is_lower 1 (n + 1) (64 + k) ≡ true
lower_y n k least most = grind (arith, nat_tests)

pub variable_text-x : (k : ℕ) → k ≤ 48 → variable_text k ≡ 120 ∷ decimal k
variable_text-x k h =
    let a : eqb k 200 ≡ false = grind (arith, nat_tests) in
    let b : ltb k 64 ≡ true = grind (arith, nat_tests) in
    let r : k % 64 ≡ k = omega arith in
    rw (a, b, r) refl

pub variable_text-y : (k : ℕ) → k ≤ 48 → variable_text (64 + k) ≡ 121 ∷ decimal k
variable_text-y k h =
    let a : eqb (64 + k) 200 ≡ false = grind (arith, nat_tests) in
    let b : ltb (64 + k) 64 ≡ false = grind (arith, nat_tests) in
    let d : ltb (64 + k) 128 ≡ true = grind (arith, nat_tests) in
    let r : (64 + k) % 64 ≡ k = omega arith in
    rw (a, b, d, r) refl

-- a text that begins with x or y is no other variable
named_by : (k j : ℕ) → k ≤ 48 → j ≤ 48 → (a : ℕ) → a ∷ decimal k ≡ a ∷ decimal j → k ≡ j
named_by k j h i a e =
    let tails : decimal k ≡ decimal j = cc in
    decimal_injective k j (omega arith) (omega arith) tails

pub variable_text-same : (n v w : ℕ) → n ≤ 48 → is_lower 1 (n + 1) v ≡ true
    → is_lower 1 (n + 1) w ≡ true → variable_text v ≡ variable_text w → v ≡ w
variable_text-same n v w most g h e =
    let a = side_of n v most g in
    let b = side_of n w most h in
    let low : a.0 ≤ 48 = omega (arith, a.2) in
    let high : b.0 ≤ 48 = omega (arith, b.2) in
    elim a.3 [
      | inl x ↦ elim b.3 [
        | inl y ↦ x ∙ named_by a.0 b.0 low high 120
            (sym (variable_text-x a.0 low) ∙ ap variable_text (sym x) ∙ e ∙ ap variable_text y
            ∙ variable_text-x b.0 high) ∙ sym y
        | inr y ↦
            let other : 120 ∷ decimal a.0 ≡ 121 ∷ decimal b.0 =
            sym (variable_text-x a.0 low) ∙ ap variable_text (sym x) ∙ e ∙ ap variable_text y
            ∙ variable_text-y b.0 high in
            absurd (apart _ _ other)
      ]
      | inr x ↦ elim b.3 [
        | inl y ↦
            let other : 120 ∷ decimal b.0 ≡ 121 ∷ decimal a.0 =
            sym (variable_text-x b.0 high) ∙ ap variable_text (sym y) ∙ sym e ∙ ap variable_text x
            ∙ variable_text-y a.0 low in
            absurd (apart _ _ other)
        | inr y ↦ x ∙ ap (λ m. 64 + m) (named_by a.0 b.0 low high 121
            (sym (variable_text-y a.0 low) ∙ ap variable_text (sym x) ∙ e ∙ ap variable_text y
            ∙ variable_text-y b.0 high)) ∙ sym y
      ]
    ]
  where
    first : (a b : ℕ) (s t : List ℕ) → a ∷ s ≡ b ∷ t → a ≡ b
    first a b s t e = cc

    apart : (s t : List ℕ) → 120 ∷ s ≡ 121 ∷ t → ⊥
    apart s t e = omega (arith, first 120 121 s t e)

pub lower_more : (n k v : ℕ) → 1 ≤ k → k ≤ n → is_lower 1 k v ≡ true → is_lower 1 (n + 1) v ≡ true
lower_more n k v least most h = grind (arith, nat_tests)
