-- The entries of a vector above a place.
--   k m places · n how many entries are left · x vector
use Rattle.std.proofs.Common.{◌≡◌, ℕ, suc, ◌+◌, ◌-◌, ◌≤◌, List, length, length-drop, get_or, take, drop, sym, ap, ◌∙◌, subst, arith, inl, inr}
use Rattle.std.specs.Prelude.{All, ◌↔◌}
use Rattle.std.proofs.lemmas.Bool.{cases_lt}
use Rattle.std.proofs.lemmas.List.{get_or_past, get_or_default, get_or-drop, take_all}
use lib.IntN.{ℤ, pos}
use Rattle.hall_law.specs.Table.{IsZeroAbove}

zero_above : (x : List ℤ) (k : ℕ) → All (λ z. z ≡ pos 0) (drop k x) → IsZeroAbove k x
zero_above x k h m above =
    elim (cases_lt (m - 1) (length x)) [
      | inr past ↦ get_or_past x (m - 1) (pos 0) past
      | inl within ↦
          let place : k + (m - 1 - k) ≡ m - 1 = omega arith in
          ap (λ (i : ℕ). get_or x i (pos 0)) (sym place)
          ∙ sym (get_or-drop k x (m - 1 - k) (pos 0))
          ∙ h (m - 1 - k) (pos 0) (omega (arith, length-drop k x))
    ]

above_zero : (x : List ℤ) (k : ℕ) → IsZeroAbove k x → All (λ z. z ≡ pos 0) (drop k x)
above_zero x k h i d within =
    let place : suc (k + i) - 1 ≡ k + i = omega arith in
    get_or_default (drop k x) i d (pos 0) within
    ∙ get_or-drop k x i (pos 0)
    ∙ ap (λ (j : ℕ). get_or x j (pos 0)) (sym place)
    ∙ h (suc (k + i)) (omega arith)

-- the entries from place k on, as a slice has them
pub scan_is : (x : List ℤ) (k n : ℕ) → length x ≤ k + n
    → All (λ z. z ≡ pos 0) (take n (drop k x)) ↔ IsZeroAbove k x
scan_is x k n size =
    let whole : take n (drop k x) ≡ drop k x =
    take_all n (drop k x) (omega (arith, length-drop k x)) in (
      (λ h. zero_above x k (subst (All (λ z. z ≡ pos 0)) whole h)),
      (λ h. subst (All (λ z. z ≡ pos 0)) (sym whole) (above_zero x k h)),
    )
