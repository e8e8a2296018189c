-- Sums that grow by terms
use Rattle.std.proofs.Common.{◌≡◌, ℕ, ◌+◌, ◌^◌, ◌<◌, ◌≤◌, List, [], ◌++◌, refl, sym, ap, ◌∙◌, subst, arith, append_assoc}
use lib.IntN.{ℤ, pos, ◌+ℤ◌, +ℤ_idl, +ℤ_idr, +ℤ_assoc}
use Rattle.binom_poly.specs.declared.term.Term.{Term}
use Rattle.binom_poly.specs.Polynomial.{value_of}
use Rattle.binom_poly.specs.Readings.{magnitude_of}
use Rattle.binom_poly.proofs.Times.{value-append}
use Rattle.nested_poly.specs.declared.weighed.Weighed.{Weighed}
use Rattle.nested_poly.specs.Counts.{IsPartial, Counts, IsSumOf}
use Rattle.nested_poly.proofs.Branching.{magnitude-append}

pub counts_none : (a : ℕ → ℤ) (w : Weighed) → Counts a [] w w
counts_none a w ps us h = h

pub counts_append : (a : ℕ → ℤ) (ts us : List Term) (x y z : Weighed) → Counts a ts x y → Counts a us y z → Counts a (ts ++ us) x z
counts_append a ts us x y z h k ps vs p = k ps vs (h ps (us ++ vs) (subst (IsPartial a ps x) (append_assoc ts us vs) p))

pub counts_zero : (a : ℕ → ℤ) (ts : List Term) (w : Weighed) → value_of a ts ≡ pos 0 → magnitude_of a ts ≡ 0 → Counts a ts w w
counts_zero a ts w e f ps us p = record {
  past = p.past;
  value = λ i. p.value i ∙ ap (λ z. w.value +ℤ z) (value-append a ts us ∙ ap (λ z. z +ℤ value_of a us) e ∙ +ℤ_idl (value_of a us));
  magnitude = λ i. let m = magnitude-append a ts us in let n : magnitude_of a ps ≡ w.magnitude + magnitude_of a (ts ++ us) = p.magnitude i in omega arith;
}

-- ---- once the magnitudes overflow
pub counts_past : (a : ℕ → ℤ) (ts : List Term) (w : Weighed) → 2 ^ 127 ≤ w.magnitude → Counts a ts w w
counts_past a ts w l ps us p = record { past = p.past; value = λ i. absurd (omega arith); magnitude = λ i. absurd (omega arith) }

overflow_of : (a : ℕ → ℤ) (ts ps us : List Term) (w : Weighed) → w.magnitude < 2 ^ 127 → 2 ^ 127 ≤ w.magnitude + magnitude_of a ts → IsPartial a ps w (ts ++ us) → 2 ^ 127 ≤ magnitude_of a ps
overflow_of a ts ps us w i l p = let m = magnitude-append a ts us in let n : magnitude_of a ps ≡ w.magnitude + magnitude_of a (ts ++ us) = p.magnitude i in omega arith

pub counts_wide : (a : ℕ → ℤ) (ts : List Term) (w new : Weighed) → w.magnitude < 2 ^ 127 → 2 ^ 127 ≤ w.magnitude + magnitude_of a ts → 2 ^ 127 ≤ new.magnitude → Counts a ts w new
counts_wide a ts w new i l o ps us p = record {
  past = λ _. overflow_of a ts ps us w i l p;
  value = λ j. absurd (omega arith);
  magnitude = λ j. absurd (omega arith);
}

-- ---- where they don't
pub counts_sum : (a : ℕ → ℤ) (ts : List Term) (w more new : Weighed) → w.magnitude < 2 ^ 127 → more.value ≡ value_of a ts → more.magnitude ≡ magnitude_of a ts
    → new.value ≡ w.value +ℤ more.value → new.magnitude ≡ w.magnitude + more.magnitude → new.magnitude < 2 ^ 127 → Counts a ts w new
counts_sum a ts w more new i e f g h l ps us p = record {
  past = λ o. absurd (omega arith);
  value = λ _.
      p.value i ∙ ap (λ z. w.value +ℤ z) (value-append a ts us ∙ ap (λ z. z +ℤ value_of a us) (sym e)) ∙ sym (+ℤ_assoc w.value more.value (value_of a us))
      ∙ ap (λ z. z +ℤ value_of a us) (sym g);
  magnitude = λ _. let m = magnitude-append a ts us in let n : magnitude_of a ps ≡ w.magnitude + magnitude_of a (ts ++ us) = p.magnitude i in omega arith;
}

-- ---- the whole sum
no_value : (a : ℕ → ℤ) → value_of a [] ≡ pos 0
unfolding value_of
no_value a = refl

no_magnitude : (a : ℕ → ℤ) → magnitude_of a [] ≡ 0
unfolding magnitude_of
no_magnitude a = refl

pub sum_of_partial : (a : ℕ → ℤ) (ps : List Term) (w : Weighed) → IsPartial a ps w [] → IsSumOf a ps w
sum_of_partial a ps w p = record {
  past = p.past;
  value = λ i. sym (p.value i ∙ ap (λ z. w.value +ℤ z) (no_value a) ∙ +ℤ_idr w.value);
  magnitude = λ i. let m = no_magnitude a in let n : magnitude_of a ps ≡ w.magnitude + magnitude_of a [] = p.magnitude i in omega arith;
}
